use Rattle.check_pkg.specs.Gains.{Gains, SomeBelow}
use Rattle.check_pkg.specs.InBodies.{NthOfFault}
use Rattle.check_pkg.proofs.in_bodies.refuse_faults.Given as goal

abbrev pub invariant-loop-fault : goal.invariant-loop-fault
invariant-loop-fault l = Gains (SomeBelow l.fault-index (NthOfFault l.found)) l.fn.list.items l.list.items
