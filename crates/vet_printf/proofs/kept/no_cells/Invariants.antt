use Rattle.vet_printf.specs.InTable.{AreEach}
use Rattle.vet_printf.specs.Tables.{IsJudged}
use Rattle.vet_printf.proofs.kept.no_cells.Given as goal

abbrev pub invariant-loop-id : goal.invariant-loop-id
invariant-loop-id l = AreEach (IsJudged l.t) l.id l.cells.items
