use Rattle.object_order.specs.SpotRows.{AreBlank}
use Rattle.object_order.proofs.rows.SpotRows.new.Given as goal

abbrev pub invariant-loop-tree : goal.invariant-loop-tree
invariant-loop-tree l = AreBlank l.rows.items
