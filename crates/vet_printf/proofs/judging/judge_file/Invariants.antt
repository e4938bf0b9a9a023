use Rattle.vet_printf.specs.Tables.{AreJudged}
use Rattle.vet_printf.proofs.judging.judge_file.Given as goal

abbrev pub invariant-loop-n : goal.invariant-loop-n
invariant-loop-n l = AreJudged l.p.state.now.table l.cells.items
