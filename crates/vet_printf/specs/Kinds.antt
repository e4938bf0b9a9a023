-- The kinds of a function as a number.
use Rattle.std.specs.Prelude.{ℕ, ◌+◌, Bool, if◌then◌else◌}

abbrev pub weight : Bool → ℕ → ℕ
weight holds number = if holds then number else 0

abbrev pub kinds_number : Bool → Bool → Bool → ℕ
kinds_number print printf errorf = weight print 1 + (weight printf 2 + weight errorf 4)
