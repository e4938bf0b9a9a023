use Rattle.std.proofs.Common.{◌≡◌, ◌<◌, ℕ, true, get_or}
use Rattle.flow.specs.Flow.{is_exit}
use Rattle.flow.proofs.never.some_exit.Given as goal

abbrev pub invariant-loop-p : goal.invariant-loop-p
invariant-loop-p l = (k : ℕ) → k < l.p-index → is_exit l.tree l.body (get_or l.points k 0) ≡ true → ⊥
