-- Items that are numbered, and one step of marking.
use Rattle.std.specs.Prelude.{◌≡◌, ℕ, ◌<◌, Option, Some, None}
use Rattle.mark_walk.specs.Asks.{Ask, Gives, Awaits, Sound, Keeps, Adds, Stays}

-- each item has a number below the count, and no two have the same
pub record AreNumbers {I : Type 0} (IsItem : I → Type 0) (number : I → ℕ) (count : ℕ) : Type 0 where
  pub within : (i : I) → IsItem i → number i < count
  pub apart : (i j : I) → IsItem i → IsItem j → number i ≡ number j → i ≡ j

-- the item was marked by its rule, or the rule waits for another that has no mark
abbrev pub Steps : {I M Q A : Type 0} → ((I → Option M) → Q → A → Type 0) → ((I → Option M) → Q → I → Type 0) → (I → Type 0) → (I → Ask I M Q A M) → (I → Option M) → (I → Option M) → I → Option I → Type 0
Steps {I} {M} says pends IsItem rule so_far next i None = (m : M) × Gives says so_far (rule i) m × Adds so_far next i m
Steps says pends IsItem rule so_far next i (Some j) = IsItem j × Awaits says pends so_far (rule i) j × Stays so_far next

-- from these marks to those: no mark is changed, and the marks are sound if they were
pub record Goes {I M Q A : Type 0} (says : (I → Option M) → Q → A → Type 0) (rule : I → Ask I M Q A M) (so_far next : I → Option M) : Type 0 where
  pub keeps : Keeps so_far next
  pub sound : Sound says rule so_far → Sound says rule next
