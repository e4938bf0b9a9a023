use Rattle.go_tree.specs.declared.tree.NodeRef.{NodeRef}
use Rattle.object_order.specs.Views.{world_of}
use Rattle.package_needs.specs.Follow.{Peels}
use Rattle.package_needs.proofs.follow.peel.Given as goal

abbrev pub invariant-loop-part : goal.invariant-loop-part
invariant-loop-part l = (b : NodeRef) → Peels (world_of l.view) l.at b → Peels (world_of l.view) l.fn.start b

abbrev pub decreases-loop-part : goal.decreases-loop-part
decreases-loop-part l = l.at.node
