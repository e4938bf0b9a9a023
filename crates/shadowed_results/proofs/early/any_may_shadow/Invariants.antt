use Rattle.std.proofs.Common.{ℕ, ◌<◌}
use Rattle.shadowed_results.specs.Early.{MayShadow}
use Rattle.shadowed_results.proofs.early.any_may_shadow.Given as goal

abbrev pub invariant-loop-f : goal.invariant-loop-f
invariant-loop-f l = (f n : ℕ) → f < l.f → MayShadow l.nodes f n → ⊥
