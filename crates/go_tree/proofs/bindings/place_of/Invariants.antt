use Rattle.std.proofs.Common.{◌≤◌, ◌-◌, length}
use Rattle.go_tree.specs.Bindings.{AreBelow, AreAbove}
use Rattle.go_tree.proofs.bindings.place_of.Given as goal

abbrev pub invariant-loop-low : goal.invariant-loop-low
invariant-loop-low l = record {
  ordered : l.low ≤ l.high;
  within : l.high ≤ length l.uses;
  below : AreBelow l.uses l.at l.low;
  above : AreAbove l.uses l.at l.high;
}

abbrev pub decreases-loop-low : goal.decreases-loop-low
decreases-loop-low l = l.high - l.low
