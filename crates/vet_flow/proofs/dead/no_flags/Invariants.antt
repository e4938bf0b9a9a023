use Rattle.vet_flow.specs.Unreachable.{AreUnset}
use Rattle.vet_flow.proofs.dead.no_flags.Given as goal

abbrev pub invariant-loop-n : goal.invariant-loop-n
invariant-loop-n l = AreUnset l._n l.flags.items
