use Rattle.bind.specs.Undeclared.{AreZeros}
use Rattle.bind.proofs.unknown.no_ends.Given as goal

abbrev pub invariant-loop-n : goal.invariant-loop-n
invariant-loop-n l = AreZeros l._n l.ends.items
