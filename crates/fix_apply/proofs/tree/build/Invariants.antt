use Rattle.std.proofs.Common.{◌≤◌, length}
use Rattle.fix_apply.specs.Trees.{IsTree, AllOpen}
use Rattle.fix_apply.proofs.tree.build.Given as goal

abbrev pub invariant-loop-x : goal.invariant-loop-x
invariant-loop-x l = record {
  within : l.x ≤ length l.slots;
  tree : IsTree l.slots l.nodes.items;
  all_open : AllOpen l.slots l.nodes.items;
}

abbrev pub decreases-loop-x : goal.decreases-loop-x
decreases-loop-x l = l.x
