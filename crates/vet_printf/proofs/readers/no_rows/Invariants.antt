use Rattle.std.proofs.Common.{◌≡◌, ℕ, length, []}
use Rattle.vet_printf.specs.InTable.{row_of}
use Rattle.vet_printf.proofs.readers.no_rows.Given as goal

abbrev pub invariant-loop-i : goal.invariant-loop-i
invariant-loop-i l = record {
  size : length l.rows.items ≡ l.i;
  empty : (j : ℕ) → row_of l.rows.items j ≡ [];
}
