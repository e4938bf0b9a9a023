use Rattle.std.proofs.Common.{arith}
use Rattle.std.proofs.lemmas.Option.{slice_get-get_or}
use Rattle.mark_walk.specs.Asks.{filled}
use Rattle.typed_marks.specs.Meanings.{Quiet}
use Rattle.typed_marks.specs.States.{so_far}
use Rattle.unit_read.specs.Subjects.{full_of}
use Rattle.selected_methods.specs.Selected.{IsSelectedMethod}
use Rattle.selected_methods.proofs.RowLemmas.{method_rows_none, method_rows_more}
use Rattle.selected_methods.proofs.rows.tree_rows.Goals as goal

pub loop-file-init : goal.loop-file-init
loop-file-init c =
    method_rows_none (IsSelectedMethod (full_of c.args.u.now) (filled Quiet (so_far c.args.s.now))) c.args.u.now.trees.now c.new-rows.result.items c.new-rows.ensures.items

pub tree_row-requires-clause-small : goal.tree_row-requires-clause-small
tree_row-requires-clause-small c =
    c.requires.small c.loop-file.file _ (slice_get-get_or c.args.u.now.trees.now c.loop-file.file c.index-u-file.result (omega (arith, c.loop-file-test.true)))

pub loop-file-preserved : goal.loop-file-preserved
loop-file-preserved c =
    method_rows_more (IsSelectedMethod (full_of c.args.u.now) (filled Quiet (so_far c.args.s.now))) c.args.u.now.trees.now c.loop-file.rows.items c.push.new.self.items c.loop-file.file _
    c.in_ok-row.row c.loop-file.invariant (slice_get-get_or c.args.u.now.trees.now c.loop-file.file c.index-u-file.result (omega (arith, c.loop-file-test.true))) c.in_ok-row.ensures
    c.in_ok-push.ensures.items
