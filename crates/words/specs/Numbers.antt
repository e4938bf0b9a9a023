-- Numbers in words.
use Rattle.std.specs.Prelude.{◌≡◌, ◌≢◌, ℕ, ◌+◌, ◌-◌, ◌*◌, ◌≤◌, List, [], ◌∷◌, ◌&&◌, nat_le, bytes_eq, Option, Some, None, if◌then◌else◌}
use Rattle.std.specs.Fmt.{decimal}

-- the number that digits write after a number
abbrev pub value_of : ℕ → List ℕ → ℕ
value_of n [] = n
value_of n (d ∷ ds) = value_of (10 * n + (d - 48)) ds

-- the number of 1 to `most` of which a text is the decimal, if it is one
abbrev pub numeral : ℕ → List ℕ → Option ℕ
numeral most text = if bytes_eq text (decimal (value_of 0 text)) && (nat_le 1 (value_of 0 text) && nat_le (value_of 0 text) most) then Some (value_of 0 text) else None

-- the same of an answer
abbrev pub IsNumeralOf : ℕ → List ℕ → Option ℕ → Type 0
IsNumeralOf most text (Some n) = (text ≡ decimal n) × (1 ≤ n) × (n ≤ most)
IsNumeralOf most text None = (n : ℕ) → 1 ≤ n → n ≤ most → text ≢ decimal n
