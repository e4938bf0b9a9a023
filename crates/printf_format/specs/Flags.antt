-- The set of the flags that stand in some bytes.
use Rattle.std.specs.Prelude.{ℕ, ◌+◌, ◌==◌, List, if◌then◌else◌}
use Rattle.std.specs.List.{list_any}

-- the weight, if the flag stands among the bytes
abbrev pub weight_of : List ℕ → ℕ → ℕ → ℕ
weight_of bytes flag weight = if list_any (λ b. b == flag) bytes then weight else 0

-- 1 for +, 2 for -, 4 for #, 8 for 0 and 16 for the space
abbrev pub flags_of : List ℕ → ℕ
flags_of bytes = weight_of bytes 43 1 + weight_of bytes 45 2 + weight_of bytes 35 4 + weight_of bytes 48 8 + weight_of bytes 32 16
