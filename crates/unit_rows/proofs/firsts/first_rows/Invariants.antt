use Rattle.std.proofs.Common.{length, take}
use Rattle.unit_read.specs.Rows.{AreRows}
use Rattle.unit_rows.specs.Rows.{first_in}
use Rattle.unit_rows.proofs.firsts.first_rows.Given as goal

abbrev pub invariant-loop-place : goal.invariant-loop-place
invariant-loop-place l = AreRows (first_in (take l.place l.list)) l.trees l.rows.items (length l.trees)
