use Rattle.unit_read.specs.Subjects.{unit_of}
use Rattle.check_pkg.specs.Gains.{Gains, SomeBelow}
use Rattle.check_pkg.specs.Late.{NthLateAt}
use Rattle.check_pkg.proofs.late_rules.refuse_nodes.Given as goal

abbrev pub invariant-loop-at : goal.invariant-loop-at
invariant-loop-at l = Gains (SomeBelow l.at-index (NthLateAt (unit_of l.u) l.late l.nodes)) l.fn.list.items l.list.items
