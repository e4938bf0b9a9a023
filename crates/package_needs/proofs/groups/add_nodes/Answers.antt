use Rattle.std.proofs.Common.{arith, ◌∙◌}
use Rattle.object_order.specs.Views.{world_of}
use Rattle.package_needs.proofs.GroupLemmas.{nodes_none, node_more, nodes_all}
use Rattle.package_needs.proofs.groups.add_nodes.Goals as goal

pub loop-node-init : goal.loop-node-init
loop-node-init c = nodes_none (world_of c.args.view.now) c.args.view.now.numbers c.args.file c.args.groups.now.items

pub add_at-requires-clause-size : goal.add_at-requires-clause-size
add_at-requires-clause-size c = c.loop-node.invariant.size ∙ c.requires.size

pub loop-node-preserved : goal.loop-node-preserved
loop-node-preserved c = node_more (world_of c.args.view.now) c.args.view.now.numbers c.args.file c.loop-node.node c.args.groups.now.items c.loop-node.groups.items _ c.loop-node.invariant c.in_ok-add_at.ensures

pub returns : goal.returns
returns c = nodes_all (world_of c.args.view.now) c.args.view.now.numbers c.args.file c.loop-node.node c.args.end c.args.groups.now.items c.loop-node.groups.items
    (let t = c.loop-node-test.false in let s = c.loop-node.auto in omega arith) c.loop-node.invariant
