use Rattle.package_objects.specs.Declares.{gather}
use Rattle.unit_read.specs.Places.{nth_part, PutsAll}
use Rattle.unit_read.proofs.places.put_parts.Given as goal

abbrev pub invariant-loop-slot : goal.invariant-loop-slot
invariant-loop-slot l = PutsAll l.fn.row.items l.row.items (gather (nth_part l.nodes l.around l.node) l.slot)
