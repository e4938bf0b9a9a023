use Rattle.findings.specs.Passes.{unit_in, marks_in}
use Rattle.vet_locks.specs.Held.{MayTellNode}
use Rattle.vet_locks.proofs.ReportLemmas.{NoneBelow}
use Rattle.vet_locks.proofs.held.may_tell_in.Given as goal

abbrev pub invariant-loop-n : goal.invariant-loop-n
invariant-loop-n l = NoneBelow l.n (MayTellNode (unit_in l.p) (marks_in l.p) l.file)
