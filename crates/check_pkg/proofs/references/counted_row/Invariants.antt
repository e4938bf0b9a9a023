use Rattle.mark_walk.specs.Asks.{filled}
use Rattle.object_order.specs.Spots.{place}
use Rattle.typed_marks.specs.Meanings.{Quiet}
use Rattle.typed_marks.specs.States.{so_far}
use Rattle.unit_read.specs.Rows.{IsRow}
use Rattle.unit_read.specs.Subjects.{unit_of, cell}
use Rattle.check_pkg.specs.References.{counted_at}
use Rattle.check_pkg.proofs.references.counted_row.Given as goal

abbrev pub invariant-loop-node : goal.invariant-loop-node
invariant-loop-node l = IsRow (λ n. counted_at (unit_of l.u) (filled Quiet (so_far l.s)) (cell l.methods.items) l.counted (place l.file n)) l.row.items l.node
