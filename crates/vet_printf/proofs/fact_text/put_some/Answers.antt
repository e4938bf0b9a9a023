use Rattle.std.proofs.Common.{Option, sym, subst}
use Rattle.fact_codec.specs.declared.wraps.Wraps.{Wraps}
use Rattle.vet_printf.specs.Items.{IsAdded}
use Rattle.vet_printf.proofs.FactLemmas.{added_none}
use Rattle.vet_printf.proofs.fact_text.put_some.Goals as goal

pub returns-in-None : goal.returns-in-None
returns-in-None c = subst (λ (o : Option Wraps). IsAdded c.args.name.now o c.args.table.now c.args.table.now) (sym c.in-None.is) (added_none c.args.table.now c.args.name.now)
