use Rattle.std.proofs.Common.{◌≡◌}
use Rattle.package_objects.specs.Declares.{gather}
use Rattle.value_circles.specs.Bodies.{nth_block}
use Rattle.value_circles.proofs.bodies.body_roots.Given as goal

abbrev pub invariant-loop-i : goal.invariant-loop-i
invariant-loop-i l = l.list.items ≡ gather (nth_block l.nodes l.node) l.i
