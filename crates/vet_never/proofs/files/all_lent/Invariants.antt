use Rattle.vet_never.specs.Knowing.{AreLent}
use Rattle.vet_never.proofs.files.all_lent.Given as goal

abbrev pub invariant-loop-i : goal.invariant-loop-i
invariant-loop-i l = AreLent l.trees l.list l.i l.flows.items
