use Rattle.std.proofs.Common.{Option, ap, ◌∙◌}
use Rattle.go_tree.specs.declared.tree.NodeRef.{NodeRef}
use Rattle.object_order.specs.Quiet.{quiet_here}
use Rattle.object_order.specs.Views.{meant_in}
use Rattle.object_order.proofs.QuietLemmas.{row_none, row_more, row_is}
use Rattle.object_order.proofs.quiet.quiet_row.Goals as goal

pub loop-n-init : goal.loop-n-init
loop-n-init c = row_none c.args.bodies (meant_in c.args.meant.now) c.args.file c.args.nodes.now c.in_ok-flags.flags.items c.in_ok-flags.ensures.items

pub loop-n-preserved : goal.loop-n-preserved
loop-n-preserved c =
    row_more c.args.bodies (meant_in c.args.meant.now) c.args.file c.args.nodes.now c.loop-n.flags.items c.push.new.self.items c.loop-n.n c.node_here-node.result.now c.is_quiet_node-flag.result
    c.loop-n.invariant c.node_here-node.ensures
    (c.is_quiet_node-flag.ensures ∙ ap (λ (o : Option NodeRef). quiet_here c.args.bodies c.args.nodes.now c.loop-n.flags.items o c.node_here-node.result.now) c.mention_at-mention.ensures)
    c.in_ok-push.ensures.items

pub returns : goal.returns
returns c = row_is c.args.bodies (meant_in c.args.meant.now) c.args.file c.args.nodes.now c.loop-n.flags.items c.loop-n.n c.loop-n.invariant
