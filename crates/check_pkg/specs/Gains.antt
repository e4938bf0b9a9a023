-- What a list of refusals gains.
use Rattle.std.specs.Prelude.{◌≡◌, ℕ, ◌<◌, ◌≤◌, ◌⊎◌, ◌↔◌, List, Option, Some}
use Rattle.std.specs.List.{Contains}
use Rattle.check_pkg.specs.declared.refusal.Refusal.{Refusal}

-- the list has what it had and these, and nothing else
pub record Gains (Gained : Refusal → Type 0) (old new : List Refusal) : Type 0 where
  pub all : (x : Refusal) → Contains new x ↔ (Contains old x ⊎ Gained x)

-- one of the first few
abbrev pub SomeBelow : ℕ → (ℕ → Refusal → Type 0) → Refusal → Type 0
SomeBelow count Nth x = (k : ℕ) × (k < count) × Nth k x

-- one from a number on and before another
abbrev pub SomeBetween : ℕ → ℕ → (ℕ → Refusal → Type 0) → Refusal → Type 0
SomeBetween low end Nth x = (k : ℕ) × (low ≤ k) × (k < end) × Nth k x

-- what one thing gives that is there, or nothing
abbrev pub OfSome : {X : Type 0} → Option X → (X → Refusal → Type 0) → Refusal → Type 0
OfSome {X} o P x = (c : X) × (o ≡ Some c) × P c x
