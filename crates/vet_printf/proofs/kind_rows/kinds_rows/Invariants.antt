use Rattle.findings.specs.Passes.{unit_in, marks_in}
use Rattle.vet_printf.specs.InTable.{AreEach}
use Rattle.vet_printf.specs.Items.{AreKindsRow}
use Rattle.vet_printf.proofs.kind_rows.kinds_rows.Given as goal

abbrev pub invariant-loop-file : goal.invariant-loop-file
invariant-loop-file l = AreEach (AreKindsRow l.known (unit_in l.p) (marks_in l.p) l.x) l.file l.rows.items
