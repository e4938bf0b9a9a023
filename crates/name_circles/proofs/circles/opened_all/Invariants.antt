use Rattle.std.proofs.Common.{◌≡◌, map, take}
use Rattle.name_circles.specs.Circles.{opened}
use Rattle.name_circles.proofs.circles.opened_all.Given as goal

abbrev pub invariant-loop-entry : goal.invariant-loop-entry
invariant-loop-entry l = l.list.items ≡ map opened (take l.entry-index l.entries.items)
