-- The numbers of spots, in a row for each file.
use Rattle.std.specs.Prelude.{◌≡◌, ℕ, zero, suc, List, Option, Some, None, if◌then◌else◌, nat_eq, slice_get, option_and_then}
use Rattle.std.specs.Global.{Vec}
use Rattle.object_order.specs.declared.rows.SpotRows.{SpotRows}

-- what a place of a row keeps: a number and one more, or 0
abbrev pub number_kept : ℕ → Option ℕ
number_kept zero = None
number_kept (suc n) = Some n

abbrev pub kept_at : List ℕ → ℕ → Option ℕ
kept_at row k = option_and_then number_kept (slice_get row k)

abbrev pub kept_row : List (Vec ℕ) → ℕ × ℕ → Option ℕ
kept_row rows key = option_and_then (λ (row : Vec ℕ). kept_at row.items key.1) (slice_get rows key.0)

-- the number that is kept under a key: its row, and its place there
abbrev pub kept_in : SpotRows → ℕ × ℕ → Option ℕ
kept_in numbers key = kept_row numbers.rows.items key

-- the number is kept at the place, and the other places have what they had
abbrev pub KeepsAt : List ℕ → List ℕ → ℕ → ℕ → Type 0
KeepsAt old new at number = (k : ℕ) → kept_at new k ≡ (if nat_eq at k then Some number else kept_at old k)

-- no place keeps another number than it did
abbrev pub IsSameRow : List ℕ → List ℕ → Type 0
IsSameRow old new = (k : ℕ) → kept_at new k ≡ kept_at old k

abbrev pub AreSameRows : List (Vec ℕ) → List (Vec ℕ) → Type 0
AreSameRows old new = (q : ℕ × ℕ) → kept_row new q ≡ kept_row old q

-- nothing is kept
abbrev pub AreBlank : List (Vec ℕ) → Type 0
AreBlank rows = (q : ℕ × ℕ) → kept_row rows q ≡ None

abbrev pub IsBlank : List ℕ → Type 0
IsBlank row = (k : ℕ) → kept_at row k ≡ None
