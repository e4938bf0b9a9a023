use Rattle.std.proofs.Common.{◌+◌, ◌-◌, length}
use Rattle.object_order.specs.SpotRows.{IsSameRow}
use Rattle.object_order.proofs.rows.reach.Given as goal

abbrev pub invariant-loop-row : goal.invariant-loop-row
invariant-loop-row l = IsSameRow l.fn.row.items l.row.items

abbrev pub decreases-loop-row : goal.decreases-loop-row
decreases-loop-row l = l.at + 1 - length l.row.items
