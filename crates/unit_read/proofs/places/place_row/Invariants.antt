use Rattle.package_objects.specs.Declares.{gather}
use Rattle.unit_read.specs.Places.{standing_at, PutsAll}
use Rattle.std.proofs.Common.{None, replicate, length}
use Rattle.unit_read.proofs.places.place_row.Given as goal

abbrev pub invariant-loop-n : goal.invariant-loop-n
invariant-loop-n l = PutsAll (replicate (length l.nodes) None) l.row.items (gather (standing_at l.nodes) l.n)
