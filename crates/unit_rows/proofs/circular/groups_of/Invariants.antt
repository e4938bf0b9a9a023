use Rattle.std.proofs.Common.{◌≡◌, map, take}
use Rattle.unit_read.specs.Subjects.{unit_of}
use Rattle.unit_rows.specs.Circular.{group_items, methods_by}
use Rattle.unit_rows.proofs.circular.groups_of.Given as goal

abbrev pub invariant-loop-entry : goal.invariant-loop-entry
invariant-loop-entry l = map group_items l.groups.items ≡ map (methods_by (unit_of l.s)) (take l.entry-index l.entries.items)
