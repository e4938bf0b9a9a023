use Rattle.object_order.specs.Spots.{place}
use Rattle.unit_read.specs.Rows.{IsRow}
use Rattle.unit_read.specs.Subjects.{unit_of}
use Rattle.unit_rows.specs.Circular.{named_at}
use Rattle.unit_rows.proofs.circular.named_row.Given as goal

abbrev pub invariant-loop-node : goal.invariant-loop-node
invariant-loop-node l = IsRow (λ n. named_at (unit_of l.s) (place l.file n)) l.row.items l.node
