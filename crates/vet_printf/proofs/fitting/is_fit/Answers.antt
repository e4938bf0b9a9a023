use Rattle.vet_printf.proofs.FitLemmas.{fit_told}
use Rattle.vet_printf.proofs.fitting.is_fit.Goals as goal

pub returns : goal.returns
returns c = fit_told c.args.t.now c.args.class c.args.id.0 c.args.x c.fit_value.result c.requires.asked c.fit_value.ensures
