use Rattle.std.proofs.Common.{ℕ, ◌<◌, get_or}
use Rattle.shadowed_results.specs.Early.{ReturnsBare}
use Rattle.shadowed_results.proofs.early.+returns_bare.Given as goal

abbrev pub decreases-returns_bare : goal.decreases-returns_bare
decreases-returns_bare l = l.n

abbrev pub invariant-loop-part : goal.invariant-loop-part
invariant-loop-part l = (j n : ℕ) → j < l.part-index → ReturnsBare l.nodes l.f (get_or l.part-items j 0) n → ⊥
