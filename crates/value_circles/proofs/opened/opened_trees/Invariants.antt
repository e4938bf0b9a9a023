use Rattle.std.proofs.Common.{◌≡◌, map, take}
use Rattle.value_circles.specs.Bodies.{opened}
use Rattle.value_circles.proofs.opened.opened_trees.Given as goal

abbrev pub invariant-loop-tree : goal.invariant-loop-tree
invariant-loop-tree l = l.list.items ≡ map opened (take l.tree-index l.trees)
