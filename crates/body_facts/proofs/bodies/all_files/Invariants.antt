use Rattle.unit_read.specs.Subjects.{unit_of, cell}
use Rattle.body_facts.specs.Bodies.{AreFilesTo}
use Rattle.body_facts.proofs.bodies.all_files.Given as goal

abbrev pub invariant-loop-k : goal.invariant-loop-k
invariant-loop-k l = AreFilesTo (unit_of l.u) (cell l.meant.items) l.k l.list.items
