use Rattle.std.proofs.Common.{◌<◌, length}
use Rattle.fix_apply.specs.Trees.{IsTree, SameLeaves}
use Rattle.fix_apply.proofs.tree.refresh.Given as goal

abbrev pub invariant-loop-x : goal.invariant-loop-x
invariant-loop-x l = record {
  inner : l.x < length l.slots;
  tree : IsTree l.slots l.nodes.items;
  leaves : SameLeaves l.slots l.initial.nodes.items l.nodes.items;
}

abbrev pub decreases-loop-x : goal.decreases-loop-x
decreases-loop-x l = l.x
