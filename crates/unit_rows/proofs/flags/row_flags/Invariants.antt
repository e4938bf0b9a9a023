use Rattle.std.proofs.Common.{◌≡◌, map, take, is_some}
use Rattle.unit_rows.proofs.flags.row_flags.Given as goal

abbrev pub invariant-loop-cell : goal.invariant-loop-cell
invariant-loop-cell l = l.flags.items ≡ map is_some (take l.cell-index l.row)
