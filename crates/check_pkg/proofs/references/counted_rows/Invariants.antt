use Rattle.mark_walk.specs.Asks.{filled}
use Rattle.object_order.specs.Spots.{place}
use Rattle.typed_marks.specs.Meanings.{Quiet}
use Rattle.typed_marks.specs.States.{so_far}
use Rattle.unit_read.specs.Rows.{AreRows}
use Rattle.unit_read.specs.Subjects.{unit_of, cell}
use Rattle.check_pkg.specs.References.{counted_at}
use Rattle.check_pkg.proofs.references.counted_rows.Given as goal

abbrev pub invariant-loop-file : goal.invariant-loop-file
invariant-loop-file l = AreRows (λ f tree n. counted_at (unit_of l.u) (filled Quiet (so_far l.s)) (cell l.methods.items) l.counted (place f n)) l.u.trees.now l.rows.items l.file
