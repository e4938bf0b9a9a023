use Rattle.findings.specs.Passes.{unit_in}
use Rattle.vet_flow.specs.Unreachable.{AreDeadRows}
use Rattle.vet_flow.proofs.dead.dead_rows.Given as goal

abbrev pub invariant-loop-file : goal.invariant-loop-file
invariant-loop-file l = AreDeadRows (unit_in l.p) l.file l.rows.items
