use Rattle.std.proofs.Common.{◌≡◌, map, take}
use Rattle.unit_rows.specs.Tables.{items_of, flags_of}
use Rattle.unit_rows.proofs.flags.flag_rows.Given as goal

abbrev pub invariant-loop-row : goal.invariant-loop-row
invariant-loop-row l = map items_of l.flags.items ≡ map flags_of (take l.row-index l.rows)
