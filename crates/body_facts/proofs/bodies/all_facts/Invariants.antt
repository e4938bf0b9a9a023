use Rattle.unit_read.specs.Subjects.{unit_of, cell}
use Rattle.body_facts.specs.Bodies.{AreFactsTo}
use Rattle.body_facts.proofs.bodies.all_facts.Given as goal

abbrev pub invariant-loop-k : goal.invariant-loop-k
invariant-loop-k l = AreFactsTo (unit_of l.u) (cell l.meant.items) l.k l.list.items
