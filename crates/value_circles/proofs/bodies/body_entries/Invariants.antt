use Rattle.std.proofs.Common.{◌≡◌}
use Rattle.package_objects.specs.Declares.{gather}
use Rattle.value_circles.specs.Bodies.{file_bodies}
use Rattle.value_circles.proofs.bodies.body_entries.Given as goal

abbrev pub invariant-loop-file : goal.invariant-loop-file
invariant-loop-file l = l.entries.items ≡ gather (file_bodies l.trees) l.file
