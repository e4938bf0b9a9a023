use Rattle.object_order.specs.Spots.{place}
use Rattle.unit_read.specs.Rows.{AreRows}
use Rattle.unit_read.specs.Subjects.{unit_of}
use Rattle.unit_rows.specs.Circular.{named_at}
use Rattle.unit_rows.proofs.circular.named_rows.Given as goal

abbrev pub invariant-loop-file : goal.invariant-loop-file
invariant-loop-file l = AreRows (λ f tree n. named_at (unit_of l.s) (place f n)) l.s.trees.now l.rows.items l.file
