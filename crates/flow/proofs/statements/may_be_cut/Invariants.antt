use Rattle.std.proofs.Common.{ℕ, ◌<◌}
use Rattle.flow.specs.Passing.{flag_of, nowhere_named, IsCutOffIn}
use Rattle.flow.proofs.statements.may_be_cut.Given as goal

abbrev pub invariant-loop-p : goal.invariant-loop-p
invariant-loop-p l = (n q : ℕ) → q < l.p → IsCutOffIn (flag_of l.passing) nowhere_named l.nodes n q → ⊥
