use Rattle.std.proofs.Common.{ℕ, ◌<◌}
use Rattle.body_rules.specs.Jumping.{IsBareAt}
use Rattle.body_rules.proofs.branches.has_bare.Given as goal

abbrev pub invariant-loop-n : goal.invariant-loop-n
invariant-loop-n l = (m : ℕ) → m < l.n → IsBareAt l.which l.nodes m → ⊥
