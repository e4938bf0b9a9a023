use Rattle.std.proofs.Common.{length, take}
use Rattle.unit_read.specs.Rows.{AreRows}
use Rattle.unit_rows.specs.Rows.{object_for}
use Rattle.unit_rows.proofs.objects.rows_of.Given as goal

abbrev pub invariant-loop-k : goal.invariant-loop-k
invariant-loop-k l = AreRows (object_for (take l.k l.entries)) l.trees l.rows.items (length l.trees)
