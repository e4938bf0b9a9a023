use Rattle.std.proofs.Common.{◌≡◌, map, take}
use Rattle.name_circles.specs.Values.{chosen}
use Rattle.name_circles.proofs.values.chosen_row.Given as goal

abbrev pub invariant-loop-cell : goal.invariant-loop-cell
invariant-loop-cell l = l.cells.items ≡ map (chosen l.numbers l.flags.items) (take l.cell-index l.row)
