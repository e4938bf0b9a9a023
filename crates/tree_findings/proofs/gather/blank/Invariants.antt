use Rattle.std.proofs.Common.{◌≡◌, ℕ, [], length}
use Rattle.tree_findings.specs.Mending.{row_at}
use Rattle.tree_findings.proofs.gather.blank.Given as goal

abbrev pub invariant-loop-n : goal.invariant-loop-n
invariant-loop-n l = (length l.rows.items ≡ l._n) × ((n : ℕ) → row_at l.rows.items n ≡ [])
