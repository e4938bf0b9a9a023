use Rattle.findings.specs.Passes.{unit_in, marks_in}
use Rattle.vet_printf.specs.Items.{AreKindsCells}
use Rattle.vet_printf.proofs.kind_rows.kinds_to.Given as goal

abbrev pub invariant-loop-n : goal.invariant-loop-n
invariant-loop-n l = AreKindsCells l.known (unit_in l.p) (marks_in l.p) l.x l.file l.n l.row.items
