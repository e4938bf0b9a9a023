use Rattle.findings.specs.Passes.{unit_in}
use Rattle.vet_never.specs.Knowing.{AreFunctions}
use Rattle.vet_never.proofs.bodies.functions_by_number.Given as goal

abbrev pub invariant-loop-i : goal.invariant-loop-i
invariant-loop-i l = AreFunctions (unit_in l.p) l.i l.all.items
