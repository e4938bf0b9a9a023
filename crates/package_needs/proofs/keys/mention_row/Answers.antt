use Rattle.std.proofs.Common.{arith, subst, ◌≡◌}
use Rattle.object_order.specs.Views.{world_of}
use Rattle.package_needs.specs.Keys.{up, flagged, IsMentioned, IsMentionRow}
use Rattle.package_needs.proofs.MentionLemmas.{row_none, row_more}
use Rattle.package_needs.proofs.keys.mention_row.Goals as goal

pub loop-node-init : goal.loop-node-init
loop-node-init c = row_none (IsMentioned (world_of c.args.view.now) (flagged c.args.elsewhere.now.items) (up c.args.view.now.trees.now)) c.args.file _ c.in_ok-row.ensures.items

pub loop-node-preserved : goal.loop-node-preserved
loop-node-preserved c = row_more (IsMentioned (world_of c.args.view.now) (flagged c.args.elsewhere.now.items) (up c.args.view.now.trees.now)) c.args.file c.loop-node.node c.loop-node.row.items _ c.mention_at.result c.loop-node.invariant c.mention_at.ensures c.in_ok-push.ensures.items

pub returns : goal.returns
returns c = let same : c.loop-node.node ≡ c.args.end = (let t = c.loop-node-test.false in let s = c.loop-node.auto in omega arith) in
    subst (λ n. IsMentionRow (world_of c.args.view.now) (flagged c.args.elsewhere.now.items) (up c.args.view.now.trees.now) c.args.file c.loop-node.row.items n) same c.loop-node.invariant
