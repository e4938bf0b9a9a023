use Rattle.findings.specs.Passes.{unit_in, marks_in}
use Rattle.vet_locks.specs.Held.{MayTellNth}
use Rattle.vet_locks.proofs.ReportLemmas.{NoneBelow}
use Rattle.vet_locks.proofs.held.may_tell.Given as goal

abbrev pub invariant-loop-i : goal.invariant-loop-i
invariant-loop-i l = NoneBelow l.i (MayTellNth (unit_in l.p) (marks_in l.p) l.file l.node)
