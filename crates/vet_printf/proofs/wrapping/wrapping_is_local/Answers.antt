use Rattle.vet_printf.specs.Wrappers.{HandsTo, Has}
use Rattle.vet_printf.proofs.WrapperLemmas.{local}
use Rattle.vet_printf.proofs.wrapping.wrapping_is_local.Goals as goal

pub returns : goal.returns
returns c env listed forwards see = local (Has env) listed (HandsTo forwards) see
