use Rattle.unit_read.specs.Rows.{AreRows}
use Rattle.unit_rows.specs.Tables.{nothing}
use Rattle.unit_rows.proofs.tables.blank_rows.Given as goal

abbrev pub invariant-loop-file : goal.invariant-loop-file
invariant-loop-file g l = AreRows nothing l.trees l.rows.items l.file
