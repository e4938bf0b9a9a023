use Rattle.std.proofs.Common.{length, take}
use Rattle.unit_read.specs.Rows.{AreRows}
use Rattle.unit_read.specs.Subjects.{unit_of}
use Rattle.unit_rows.specs.Rows.{local_in}
use Rattle.unit_rows.proofs.locals.rows_of.Given as goal

abbrev pub invariant-loop-k : goal.invariant-loop-k
invariant-loop-k l = AreRows (local_in (unit_of l.s) (take l.k l.list)) l.s.trees.now l.rows.items (length l.s.trees.now)
