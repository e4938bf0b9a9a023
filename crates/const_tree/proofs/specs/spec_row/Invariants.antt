use Rattle.std.proofs.Common.{◌≡◌, ◌≤◌, ◌<◌, ℕ, length, slice_index_or, None}
use Rattle.const_tree.specs.Constants.{first_from, AreBefore}
use Rattle.const_tree.proofs.specs.spec_row.Given as goal

abbrev pub invariant-loop-n : goal.invariant-loop-n
invariant-loop-n l = record {
  within : l.at ≤ length l.specs;
  before : AreBefore l.specs l.at l.n;
  size : length l.row.items ≡ l.n;
  each : (k : ℕ) → k < l.n → slice_index_or l.row.items k None ≡ first_from k l.specs;
}
