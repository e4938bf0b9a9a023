use Rattle.std.proofs.Common.{arith, subst, ◌≡◌}
use Rattle.object_order.specs.Views.{world_of}
use Rattle.package_needs.specs.Keys.{IsRowBy}
use Rattle.package_needs.specs.Kin.{IsOwnerAt}
use Rattle.package_needs.proofs.MentionLemmas.{row_none, row_more}
use Rattle.package_needs.proofs.owners.row_of.Goals as goal

pub loop-node-init : goal.loop-node-init
loop-node-init c = row_none (IsOwnerAt (world_of c.args.view.now)) c.args.file _ c.in_ok-row.ensures.items

pub loop-node-preserved : goal.loop-node-preserved
loop-node-preserved c = row_more (IsOwnerAt (world_of c.args.view.now)) c.args.file c.loop-node.node c.loop-node.row.items _ c.owner_at.result c.loop-node.invariant c.owner_at.ensures c.in_ok-push.ensures.items

pub returns : goal.returns
returns c = let same : c.loop-node.node ≡ c.args.end = (let t = c.loop-node-test.false in let s = c.loop-node.auto in omega arith) in
    subst (λ n. IsRowBy (IsOwnerAt (world_of c.args.view.now)) c.args.file c.loop-node.row.items n) same c.loop-node.invariant
