use Rattle.least.specs.Work.{IsSoFar, left_to_do}
use Rattle.least.proofs.work.least.Given as goal

abbrev pub invariant-loop-at : goal.invariant-loop-at
invariant-loop-at g l = IsSoFar (g.A.Admission.count l.admission) (g.A.Admission.admits l.admission) l.flags.items l.marks.items l.queue.items

abbrev pub decreases-loop-at : goal.decreases-loop-at
decreases-loop-at g l = left_to_do (g.A.Admission.readers l.admission) l.flags.items l.queue.items
