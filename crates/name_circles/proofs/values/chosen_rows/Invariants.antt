use Rattle.std.proofs.Common.{◌≡◌, map, take}
use Rattle.name_circles.specs.Values.{cells_of, chosen_items}
use Rattle.name_circles.proofs.values.chosen_rows.Given as goal

abbrev pub invariant-loop-row : goal.invariant-loop-row
invariant-loop-row l = map cells_of l.rows.items ≡ map (chosen_items l.view.numbers l.flags.items) (take l.row-index l.meant)
