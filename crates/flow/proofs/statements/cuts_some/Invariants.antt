use Rattle.std.proofs.Common.{ℕ}
use Rattle.flow.specs.Passing.{flag_of, nowhere_named, IsCutOff}
use Rattle.flow.proofs.statements.cuts_some.Given as goal

abbrev pub invariant-loop-i : goal.invariant-loop-i
invariant-loop-i l = (n : ℕ) → IsCutOff (flag_of l.passing) nowhere_named l.parts l.i n → ⊥
