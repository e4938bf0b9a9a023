-- Cells of which each has a mark or none, by the number of its mark in a list.
use Rattle.std.specs.Prelude.{◌≡◌, ◌⊎◌, ℕ, ◌<◌, ◌≤◌, List, length, map, Option, Some, None, option_and_then, slice_get}
use Rattle.typed_marks.specs.declared.mark.Mark.{Mark}

-- what cells have, as contracts see them
pub record Filled : Type 0 where
  pub items : List (Option Mark)

-- the mark at a place
abbrev pub cell : List (Option Mark) → ℕ → Option Mark
cell cells n = option_and_then (λ (o : Option Mark). o) (slice_get cells n)

abbrev pub AllNone : List (Option Mark) → Type 0
AllNone cells = (n : ℕ) → cell cells n ≡ None

-- what cells have that have these numbers
abbrev pub filled : List (Option Mark) → List ℕ → List (Option Mark)
filled marks numbers = map (cell marks) numbers

-- the first of the marks is none, the others aren't, and each number is that of one
pub record AreNumbered (marks : List (Option Mark)) (numbers : List ℕ) : Type 0 where
  pub none : slice_get marks 0 ≡ Some None
  pub others : (n : ℕ) → 0 < n → n < length marks → cell marks n ≡ None → ⊥
  pub within : (k n : ℕ) → slice_get numbers k ≡ Some n → n < length marks

-- marks keep their numbers, and this number has this mark; at most this one is new
pub record Holds (old new : List (Option Mark)) (mark : Mark) (number : ℕ) : Type 0 where
  pub still : (n : ℕ) → n < length old → slice_get new n ≡ slice_get old n
  pub more : length old ≤ length new
  pub here : cell new number ≡ Some mark
  pub only : (n : ℕ) → n < length new → (n < length old) ⊎ (n ≡ number)
