use Rattle.std.proofs.Common.{List, ℕ, sym, subst}
use Rattle.vet_printf.specs.InTable.{AreReaders}
use Rattle.vet_printf.proofs.sets.printing.Goals as goal

pub set_over-requires-clause-rows : goal.set_over-requires-clause-rows
set_over-requires-clause-rows c = subst (λ (l : List (List ℕ)). AreReaders c.args.items.now l) (sym c.deref.ensures.value) c.in_ok-rows.ensures
