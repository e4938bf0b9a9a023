use Rattle.flow.specs.Edges.{before}
use Rattle.flow.specs.Passing.{flag_of, AreMarkedBehind}
use Rattle.flow.proofs.statements.mark_behind.Given as goal

abbrev pub invariant-loop-i : goal.invariant-loop-i
invariant-loop-i l = AreMarkedBehind (flag_of l.passing) (λ n. flag_of l.named (before n)) l.parts l.i l.initial.flags.items l.flags.items
