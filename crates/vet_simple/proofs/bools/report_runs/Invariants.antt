use Rattle.findings.specs.Passes.{unit_in, marks_in}
use Rattle.vet_simple.specs.InRuns.{AreSeen}
use Rattle.vet_simple.proofs.bools.report_runs.Given as goal

abbrev pub invariant-loop-i : goal.invariant-loop-i
invariant-loop-i l = AreSeen (unit_in l.p) (marks_in l.p) l.file l.c l.list l.fn.found.items l.found.items l.i l.operands l.compared
