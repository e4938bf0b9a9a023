use Rattle.std.proofs.Common.{◌+◌, ◌-◌, length}
use Rattle.object_order.specs.SpotRows.{AreSameRows}
use Rattle.object_order.proofs.rows.reach_file.Given as goal

abbrev pub invariant-loop-alloc : goal.invariant-loop-alloc
invariant-loop-alloc l = AreSameRows l.fn.rows.items l.rows.items

abbrev pub decreases-loop-alloc : goal.decreases-loop-alloc
decreases-loop-alloc l = l.file + 1 - length l.rows.items
