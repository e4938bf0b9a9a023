use Rattle.std.proofs.Common.{◌≡◌, take}
use Rattle.std.specs.List.{flat_map}
use Rattle.value_circles.specs.Chosen.{if_chosen}
use Rattle.value_circles.proofs.circles.chosen.Given as goal

abbrev pub invariant-loop-needed : goal.invariant-loop-needed
invariant-loop-needed l = l.out.items ≡ flat_map (if_chosen l.variables l.cyclic) (take l.needed-index l.order)
