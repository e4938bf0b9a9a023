-- Answers with their numbers, and in the order of these.
use Rattle.std.specs.Prelude.{◌≡◌, ℕ, ◌<◌, ◌⊎◌, Option, Some, List, length, slice_get}
use Rattle.wave_run.specs.Numbers.{Among}

-- each answer was found with its place as its number
pub record AreByNumber {D : Type 0} (found : List (ℕ × D)) (count : ℕ) (answers : List D) : Type 0 where
  pub size : length answers ≡ count
  pub each : (k : ℕ) (d : D) → slice_get answers k ≡ Some d → Among (k, d) found

-- no place is empty
abbrev pub AreFull : {D : Type 0} → List (Option D) → Type 0
AreFull {D} slots = (k : ℕ) → k < length slots → (d : D) × (slice_get slots k ≡ Some (Some d))

pub record ArePlaced {D : Type 0} (found : List (ℕ × D)) (count : ℕ) (slots : List (Option D)) : Type 0 where
  pub size : length slots ≡ count
  pub right : (k : ℕ) (d : D) → slice_get slots k ≡ Some (Some d) → Among (k, d) found
  pub full : AreFull slots

-- some answers are placed, and the rest isn't yet
pub record ArePlacing {D : Type 0} (all rest : List (ℕ × D)) (count : ℕ) (slots : List (Option D)) : Type 0 where
  pub size : length slots ≡ count
  pub right : (k : ℕ) (d : D) → slice_get slots k ≡ Some (Some d) → Among (k, d) all
  pub inside : (a : ℕ × D) → Among a rest → Among a all
  pub seen : (a : ℕ × D) → Among a all → Among a rest ⊎ ((d : D) × (slice_get slots a.0 ≡ Some (Some d)))
