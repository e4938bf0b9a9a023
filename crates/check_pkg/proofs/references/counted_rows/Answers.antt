use Rattle.std.proofs.Common.{arith}
use Rattle.std.proofs.lemmas.Option.{slice_get-get_or}
use Rattle.mark_walk.specs.Asks.{filled}
use Rattle.object_order.specs.Spots.{place}
use Rattle.typed_marks.specs.Meanings.{Quiet}
use Rattle.typed_marks.specs.States.{so_far}
use Rattle.unit_read.specs.Subjects.{unit_of, cell}
use Rattle.unit_read.proofs.CellLemmas.{rows_more}
use Rattle.check_pkg.specs.References.{counted_at}
use Rattle.check_pkg.proofs.references.counted_rows.Goals as goal

pub tree_row-requires-clause-small : goal.tree_row-requires-clause-small
tree_row-requires-clause-small c =
    c.requires.small c.loop-file.file _ (slice_get-get_or c.args.u.now.trees.now c.loop-file.file c.index-u-file.result (omega (arith, c.loop-file-test.true)))

pub loop-file-preserved : goal.loop-file-preserved
loop-file-preserved c =
    rows_more (λ f tree n. counted_at (unit_of c.args.u.now) (filled Quiet (so_far c.args.s.now)) (cell c.args.methods.now.items) c.args.counted (place f n)) c.args.u.now.trees.now c.loop-file.rows.items c.push.new.self.items c.loop-file.file _
    c.in_ok-row.row c.loop-file.invariant (slice_get-get_or c.args.u.now.trees.now c.loop-file.file c.index-u-file.result (omega (arith, c.loop-file-test.true))) c.in_ok-row.ensures
    c.in_ok-push.ensures.items
