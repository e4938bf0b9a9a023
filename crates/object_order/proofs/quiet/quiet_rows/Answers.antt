use Rattle.object_order.specs.Views.{meant_in}
use Rattle.object_order.proofs.QuietLemmas.{rows_none, rows_more, are_quiet}
use Rattle.object_order.proofs.quiet.quiet_rows.Goals as goal

pub loop-file-init : goal.loop-file-init
loop-file-init c = rows_none c.args.bodies (meant_in c.args.meant.now) c.args.trees.now c.new-rows.result.items c.new-rows.ensures.items

pub loop-file-preserved : goal.loop-file-preserved
loop-file-preserved c =
    rows_more c.args.bodies (meant_in c.args.meant.now) c.args.trees.now c.loop-file.rows.items c.push.new.self.items c.loop-file.file c.tree_here-tree.result.now c.as_slice.result.now c.in_ok-row.row
    c.loop-file.invariant c.tree_here-tree.ensures c.as_slice.ensures c.in_ok-row.ensures c.in_ok-push.ensures.items

pub returns : goal.returns
returns c = are_quiet c.args.bodies (meant_in c.args.meant.now) c.args.trees.now c.loop-file.rows.items c.loop-file.file c.loop-file.invariant
