use Rattle.std.proofs.Common.{◌≤◌, ◌-◌, length}
use Rattle.const_tree.specs.Constants.{AreBefore}
use Rattle.const_tree.proofs.specs.next_from.Given as goal

abbrev pub invariant-loop-at : goal.invariant-loop-at
invariant-loop-at l = record {
  within : l.at ≤ length l.specs;
  before : AreBefore l.specs l.at l.n;
}

abbrev pub decreases-loop-at : goal.decreases-loop-at
decreases-loop-at l = length l.specs - l.at
