use Rattle.std.proofs.Common.{◌≡◌, map, take}
use Rattle.name_circles.specs.Values.{value_entry}
use Rattle.name_circles.proofs.values.value_flags.Given as goal

abbrev pub invariant-loop-entry : goal.invariant-loop-entry
invariant-loop-entry l = l.flags.items ≡ map value_entry (take l.entry-index l.entries.items)
