use Rattle.findings.specs.Passes.{unit_in}
use Rattle.vet_never.specs.Knowing.{AreFlaggedNames}
use Rattle.vet_never.proofs.never.table_of.Given as goal

abbrev pub invariant-loop-i : goal.invariant-loop-i
invariant-loop-i l = AreFlaggedNames (unit_in l.p) l.flags l.i l.table
