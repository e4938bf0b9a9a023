use Rattle.flow.specs.Passing.{AreFlagged}
use Rattle.flow.proofs.statements.flagged.Given as goal

abbrev pub invariant-loop-n : goal.invariant-loop-n
invariant-loop-n l = AreFlagged l.flags l.n l.numbers.items
