use Rattle.findings.specs.Passes.{unit_in, marks_in}
use Rattle.vet_never.specs.InCode.{AreCallsOf}
use Rattle.vet_never.specs.Knowing.{handed_in}
use Rattle.vet_never.proofs.calls.call_row.Given as goal

abbrev pub invariant-loop-n : goal.invariant-loop-n
invariant-loop-n l = AreCallsOf (unit_in l.p) (marks_in l.p) (handed_in l.known) l.file l.n l.calls.items
