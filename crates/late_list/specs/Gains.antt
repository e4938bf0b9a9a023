-- What a list of refusals gains.
use Rattle.std.specs.Prelude.{ℕ, ◌<◌, ◌⊎◌, ◌↔◌, List}
use Rattle.std.specs.List.{Contains}
use Rattle.late_list.specs.declared.late.LateFault.{LateFault}

-- the list has what it had and these, and nothing else
pub record Gains (Gained : LateFault → Type 0) (old new : List LateFault) : Type 0 where
  pub all : (x : LateFault) → Contains new x ↔ (Contains old x ⊎ Gained x)

-- one of the first few
abbrev pub SomeBelow : ℕ → (ℕ → LateFault → Type 0) → LateFault → Type 0
SomeBelow count Nth x = (k : ℕ) × (k < count) × Nth k x
