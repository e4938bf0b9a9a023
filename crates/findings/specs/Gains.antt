-- What a list gains.
use Rattle.std.specs.Prelude.{◌≡◌, ℕ, ◌<◌, ◌⊎◌, ◌↔◌, List, Option, Some}
use Rattle.std.specs.List.{Contains}

-- the list has what it had and these, and nothing else
pub record Gains {A : Type 0} (Gained : A → Type 0) (old new : List A) : Type 0 where
  pub all : (x : A) → Contains new x ↔ (Contains old x ⊎ Gained x)

-- one of the first few
abbrev pub SomeBelow : {A : Type 0} → ℕ → (ℕ → A → Type 0) → A → Type 0
SomeBelow count Nth x = (k : ℕ) × (k < count) × Nth k x

-- what one thing gives that is there, or nothing
abbrev pub OfSome : {A X : Type 0} → Option X → (X → A → Type 0) → A → Type 0
OfSome {A} {X} o P x = (c : X) × (o ≡ Some c) × P c x
