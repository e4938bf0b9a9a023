use Rattle.std.proofs.Common.{◌≤◌, length}
use Rattle.flow.specs.Around.{AreFilled}
use Rattle.flow.proofs.around.around_of.Given as goal

abbrev pub invariant-loop-left : goal.invariant-loop-left
invariant-loop-left l = record {
  low : l.left ≤ length l.tree.nodes;
  filled : AreFilled l.tree l.left l.table.items;
}

abbrev pub decreases-loop-left : goal.decreases-loop-left
decreases-loop-left l = l.left
