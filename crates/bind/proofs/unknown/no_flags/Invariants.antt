use Rattle.std.proofs.Common.{false}
use Rattle.bind.specs.Undeclared.{AreFlagged}
use Rattle.bind.proofs.unknown.no_flags.Given as goal

abbrev pub invariant-loop-n : goal.invariant-loop-n
invariant-loop-n l = AreFlagged (λ n. false) l._n l.row.items
