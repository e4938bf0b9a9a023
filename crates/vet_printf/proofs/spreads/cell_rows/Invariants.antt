use Rattle.findings.specs.Passes.{unit_in, marks_in}
use Rattle.vet_printf.specs.Handing.{AreCellRow}
use Rattle.vet_printf.specs.InTable.{AreEach}
use Rattle.vet_printf.proofs.spreads.cell_rows.Given as goal

abbrev pub invariant-loop-file : goal.invariant-loop-file
invariant-loop-file l = AreEach (AreCellRow (unit_in l.p) (marks_in l.p)) l.file l.rows.items
