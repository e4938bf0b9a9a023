use Rattle.std.proofs.Common.{◌≡◌, map, take}
use Rattle.name_circles.specs.Values.{leads_on}
use Rattle.name_circles.proofs.values.leading_flags.Given as goal

abbrev pub invariant-loop-entry : goal.invariant-loop-entry
invariant-loop-entry l = l.flags.items ≡ map (leads_on l.quiet.items) (take l.entry-index l.entries.items)
