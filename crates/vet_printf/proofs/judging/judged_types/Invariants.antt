use Rattle.vet_printf.specs.Tables.{AreJudged}
use Rattle.vet_printf.proofs.judging.judged_types.Given as goal

abbrev pub invariant-loop-file : goal.invariant-loop-file
invariant-loop-file l = AreJudged l.p.state.now.table l.cells.items
