use Rattle.object_order.specs.Views.{world_of}
use Rattle.package_needs.specs.Groups.{GroupsGain, InNodes}
use Rattle.package_needs.proofs.groups.add_nodes.Given as goal

abbrev pub invariant-loop-node : goal.invariant-loop-node
invariant-loop-node l = GroupsGain l.view.numbers l.fn.groups.items l.groups.items (InNodes (world_of l.view) l.file l.node)
