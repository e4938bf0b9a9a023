use Rattle.package_objects.specs.Declares.{gather}
use Rattle.unit_read.specs.Places.{nth_item, PutsAll}
use Rattle.unit_read.proofs.places.put_part.Given as goal

abbrev pub invariant-loop-index : goal.invariant-loop-index
invariant-loop-index l = PutsAll l.fn.row.items l.row.items (gather (nth_item l.nodes l.around l.slot l.list) l.index)
