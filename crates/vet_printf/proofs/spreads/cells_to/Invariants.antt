use Rattle.findings.specs.Passes.{unit_in, marks_in}
use Rattle.vet_printf.specs.Handing.{AreCells}
use Rattle.vet_printf.proofs.spreads.cells_to.Given as goal

abbrev pub invariant-loop-n : goal.invariant-loop-n
invariant-loop-n l = AreCells (unit_in l.p) (marks_in l.p) l.file l.n l.row.items
