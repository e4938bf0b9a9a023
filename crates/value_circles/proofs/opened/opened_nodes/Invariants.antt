use Rattle.std.proofs.Common.{◌≡◌, map, take}
use Rattle.value_circles.specs.Bodies.{opened_node}
use Rattle.value_circles.proofs.opened.opened_nodes.Given as goal

abbrev pub invariant-loop-node : goal.invariant-loop-node
invariant-loop-node l = l.list.items ≡ map opened_node (take l.node-index l.nodes)
