use Rattle.fix_apply.specs.Spots.{AreSpots}
use Rattle.fix_apply.proofs.rewriting.spots.Given as goal

abbrev pub invariant-loop-number : goal.invariant-loop-number
invariant-loop-number l = AreSpots l.edits l.spots.items l.number
