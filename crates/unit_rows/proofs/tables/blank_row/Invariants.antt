use Rattle.std.proofs.Common.{None}
use Rattle.unit_read.specs.Rows.{IsRow}
use Rattle.unit_rows.proofs.tables.blank_row.Given as goal

abbrev pub invariant-loop-n : goal.invariant-loop-n
invariant-loop-n g l = IsRow (λ n. None) l.row.items l._n
