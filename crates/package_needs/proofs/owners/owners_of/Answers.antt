use Rattle.std.proofs.Common.{arith}
use Rattle.object_order.specs.Views.{world_of}
use Rattle.package_needs.specs.Kin.{IsOwnerAt}
use Rattle.gv_base.proofs.Lists.{item_is}
use Rattle.package_needs.proofs.MentionLemmas.{rows_none, rows_more}
use Rattle.package_needs.proofs.owners.owners_of.Goals as goal

pub loop-file-init : goal.loop-file-init
loop-file-init c = rows_none (IsOwnerAt (world_of c.args.view.now)) c.args.trees.now _ c.new-rows.ensures.items

pub loop-file-preserved : goal.loop-file-preserved
loop-file-preserved c = rows_more (IsOwnerAt (world_of c.args.view.now)) c.args.trees.now c.loop-file.rows.items _ c.loop-file.file c.index-trees-file.result c.in_ok-tree_row.field-0
    c.loop-file.invariant (item_is c.args.trees.now c.loop-file.file c.index-trees-file.result c.loop-file-test.true c.index-trees-file.is)
    c.in_ok-tree_row.ensures c.in_ok-push.ensures.items

pub returns : goal.returns
returns c = record { size = (let t = c.loop-file-test.false in let s = c.loop-file.auto in let e = c.loop-file.invariant.size in omega arith); each = c.loop-file.invariant.each }
