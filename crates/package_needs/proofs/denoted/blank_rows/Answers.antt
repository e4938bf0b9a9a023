use Rattle.std.proofs.Common.{[], arith, length}
use Rattle.package_needs.specs.Worlds.{DenotesName}
use Rattle.package_needs.proofs.MentionLemmas.{rows_none, rows_more}
use Rattle.package_needs.proofs.NotedLemmas.{blank_is, rows_are}
use Rattle.gv_base.proofs.Lists.{item_is}
use Rattle.package_needs.proofs.denoted.blank_rows.Goals as goal

pub loop-file-init : goal.loop-file-init
loop-file-init c = rows_none (DenotesName []) c.args.trees.now _ c.new-rows.ensures.items

pub loop-file-preserved : goal.loop-file-preserved
loop-file-preserved c = rows_more (DenotesName []) c.args.trees.now c.loop-file.rows.items _ c.loop-file.file c.index-trees-file.result c.in_ok-blank_row.field-0
    c.loop-file.invariant (item_is c.args.trees.now c.loop-file.file c.index-trees-file.result c.loop-file-test.true c.index-trees-file.is)
    (blank_is c.loop-file.file c.in_ok-blank_row.field-0.items (length c.index-trees-file.result.nodes) c.in_ok-blank_row.ensures) c.in_ok-push.ensures.items

pub returns : goal.returns
returns c = rows_are [] c.args.trees.now c.loop-file.rows.items c.loop-file.file (let t = c.loop-file-test.false in let s = c.loop-file.auto in omega arith) c.loop-file.invariant
