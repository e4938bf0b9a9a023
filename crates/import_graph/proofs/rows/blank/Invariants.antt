use Rattle.std.proofs.Common.{◌≡◌, ℕ, [], length}
use Rattle.import_graph.specs.Tables.{row_at}
use Rattle.import_graph.proofs.rows.blank.Given as goal

abbrev pub invariant-loop-n : goal.invariant-loop-n
invariant-loop-n l = (length l.rows.items ≡ l._n) × ((k : ℕ) → row_at l.rows.items k ≡ [])
