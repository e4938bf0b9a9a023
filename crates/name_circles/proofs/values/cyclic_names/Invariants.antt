use Rattle.std.proofs.Common.{◌≡◌, take}
use Rattle.std.specs.List.{flat_map}
use Rattle.name_circles.specs.Values.{if_cyclic}
use Rattle.name_circles.proofs.values.cyclic_names.Given as goal

abbrev pub invariant-loop-needed : goal.invariant-loop-needed
invariant-loop-needed l = l.names.items ≡ flat_map if_cyclic (take l.needed-index l.order)
