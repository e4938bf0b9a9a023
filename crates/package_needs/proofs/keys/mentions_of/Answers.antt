use Rattle.std.proofs.Common.{arith, refl, sym, subst, length}
use Rattle.go_tree.specs.declared.tree.FileTree.{FileTree}
use Rattle.object_order.specs.Views.{world_of}
use Rattle.package_needs.specs.Keys.{up, flagged, IsMentioned, IsRowBy}
use Rattle.package_needs.proofs.MentionLemmas.{rows_none, rows_more, rows_all}
use Rattle.gv_base.proofs.Lists.{item_is}
use Rattle.package_needs.proofs.keys.mentions_of.Goals as goal

pub loop-file-init : goal.loop-file-init
loop-file-init c = rows_none (IsMentioned (world_of c.args.view.now) (flagged c.args.elsewhere.now.items) (up c.args.view.now.trees.now)) c.args.view.now.trees.now _ c.new-rows.ensures.items

pub loop-file-preserved : goal.loop-file-preserved
loop-file-preserved c = rows_more (IsMentioned (world_of c.args.view.now) (flagged c.args.elsewhere.now.items) (up c.args.view.now.trees.now)) c.args.view.now.trees.now c.loop-file.rows.items _ c.loop-file.file c.index-view-file.result c.in_ok-tree_row.field-0
    c.loop-file.invariant (item_is c.args.view.now.trees.now c.loop-file.file c.index-view-file.result c.loop-file-test.true c.index-view-file.is)
    (subst (λ (x : FileTree). IsRowBy (IsMentioned (world_of c.args.view.now) (flagged c.args.elsewhere.now.items) (up c.args.view.now.trees.now)) c.loop-file.file c.in_ok-tree_row.field-0.items (length x.nodes)) (sym c.index-view-file.is) c.in_ok-tree_row.ensures) c.in_ok-push.ensures.items

pub returns : goal.returns
returns c = rows_all (world_of c.args.view.now) (flagged c.args.elsewhere.now.items) c.args.view.now.trees.now c.loop-file.rows.items c.loop-file.file (λ at. refl) (let t = c.loop-file-test.false in let s = c.loop-file.auto in omega arith) c.loop-file.invariant
