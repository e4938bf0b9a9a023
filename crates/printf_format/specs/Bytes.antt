-- Bytes of a format, and runs of them.
use Rattle.std.specs.Prelude.{ℕ, ◌+◌, ◌==◌, ◌||◌, ◌&&◌, Bool, not, nat_le, List, drop}
use Rattle.std.specs.List.{prefix_len}

-- one of the flags + - # 0 and space
abbrev pub is_flag : ℕ → Bool
is_flag b = b == 43 || b == 45 || b == 35 || b == 48 || b == 32

abbrev pub is_digit : ℕ → Bool
is_digit b = nat_le 48 b && nat_le b 57

-- not a %
abbrev pub is_other : ℕ → Bool
is_other b = not (b == 37)

-- where the run of bytes that pass the test ends, from an offset on
abbrev pub run_end : (ℕ → Bool) → List ℕ → ℕ → ℕ
run_end test text at = at + prefix_len test (drop at text)
