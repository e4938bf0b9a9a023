use Rattle.std.proofs.Common.{length}
use Rattle.flow.specs.Edges.{before}
use Rattle.flow.specs.Passing.{flag_of, AreMarked, IsCutOffIn}
use Rattle.flow.proofs.statements.cut_off.Given as goal

abbrev pub invariant-loop-n : goal.invariant-loop-n
invariant-loop-n l = AreMarked (IsCutOffIn (flag_of l.passing) (λ n. flag_of l.named (before n)) l.nodes) l.n (length l.nodes) l.flags.items
