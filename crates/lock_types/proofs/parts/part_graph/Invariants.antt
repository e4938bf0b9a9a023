use Rattle.lock_types.specs.InTable.{ArePartsTo}
use Rattle.lock_types.proofs.parts.part_graph.Given as goal

abbrev pub invariant-loop-n : goal.invariant-loop-n
invariant-loop-n l = ArePartsTo l.t l.n l.graph
