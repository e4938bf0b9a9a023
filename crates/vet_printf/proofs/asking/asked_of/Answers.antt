use Rattle.std.proofs.Common.{sym, ◌∙◌}
use Rattle.vet_printf.proofs.BareLemmas.{none_asked}
use Rattle.vet_printf.proofs.asking.asked_of.Goals as goal

pub returns-then-is_bare_under : goal.returns-then-is_bare_under
returns-then-is_bare_under c = none_asked c.args.t.now c.args.id.0 (sym c.is_bare_under.ensures ∙ c.if-is_bare_under.true)
