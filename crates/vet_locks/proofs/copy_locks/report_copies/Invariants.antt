use Rattle.findings.specs.Gains.{Gains, SomeBelow}
use Rattle.findings.specs.Passes.{unit_in, marks_in}
use Rattle.vet_locks.specs.CopyLocks.{IsNthTold}
use Rattle.vet_locks.proofs.copy_locks.report_copies.Given as goal

abbrev pub invariant-loop-i : goal.invariant-loop-i
invariant-loop-i l = Gains (SomeBelow l.i (IsNthTold (unit_in l.p) (marks_in l.p) l.at.file l.node)) l.fn.found.items l.found.items
