use Rattle.node_values.specs.Parents.{AreParents}
use Rattle.node_values.proofs.parents.parents_of.Given as goal

abbrev pub invariant-loop-at : goal.invariant-loop-at
invariant-loop-at l = AreParents l.nodes l.at l.parents.items
