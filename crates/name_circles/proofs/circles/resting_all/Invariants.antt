use Rattle.std.proofs.Common.{◌≡◌, map, take}
use Rattle.name_circles.specs.Circles.{resting}
use Rattle.name_circles.proofs.circles.resting_all.Given as goal

abbrev pub invariant-loop-root : goal.invariant-loop-root
invariant-loop-root l = l.list.items ≡ map resting (take l.root-index l.roots)
