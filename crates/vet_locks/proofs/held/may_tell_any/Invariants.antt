use Rattle.findings.specs.Passes.{unit_in, marks_in}
use Rattle.vet_locks.specs.Held.{MayTellIn}
use Rattle.vet_locks.proofs.ReportLemmas.{NoneBelow}
use Rattle.vet_locks.proofs.held.may_tell_any.Given as goal

abbrev pub invariant-loop-file : goal.invariant-loop-file
invariant-loop-file l = NoneBelow l.file (MayTellIn (unit_in l.p) (marks_in l.p))
