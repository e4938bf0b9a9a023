-- Items that wait to be marked, each for the one behind it.
use Rattle.std.specs.Prelude.{◌≡◌, ◌⊎◌, ℕ, suc, ◌<◌, ◌+◌, ◌*◌, List, [], ◌∷◌, Bool, true, Option, None, Some, length, slice_get, if◌then◌else◌}
use Rattle.mark_walk.specs.Asks.{IsMarked, WaitsFor}
use Rattle.mark_walk.specs.declared.walk.Walk.{Walk}
use Rattle.mark_walk.specs.declared.walk.Walked.{Walked}
use Rattle.mark_walk.specs.declared.walk.Walked.TheVariants.{Marked, Circle}

-- the item waits
abbrev pub IsWaiting : {I : Type 0} → List I → I → Type 0
IsWaiting waiting item = (i : ℕ) × (slice_get waiting i ≡ Some item)

-- an item whose number is noted is marked, or waits
abbrev pub AreMet : {I M : Type 0} → (I → Type 0) → (I → ℕ) → (I → Option M) → List I → List Bool → Type 0
AreMet {I} IsItem number so_far waiting met = (i : I) → IsItem i → slice_get met (number i) ≡ Some true → IsMarked so_far i ⊎ IsWaiting waiting i

-- What holds while items wait: each is an item without a mark, noted, and waits for the one behind it.
pub record Waits {I M : Type 0} (IsItem : I → Type 0) (number : I → ℕ) (count : ℕ) (awaits : I → I → Type 0) (so_far : I → Option M) (waiting : List I) (met : List Bool) : Type 0 where
  pub size : length met ≡ count
  pub items : (i : ℕ) (x : I) → slice_get waiting i ≡ Some x → IsItem x
  pub unmarked : (i : ℕ) (x : I) → slice_get waiting i ≡ Some x → so_far x ≡ None
  pub noted : (i : ℕ) (x : I) → slice_get waiting i ≡ Some x → slice_get met (number x) ≡ Some true
  pub apart : (i j : ℕ) (x y : I) → i < j → slice_get waiting i ≡ Some x → slice_get waiting j ≡ Some y → number x ≡ number y → ⊥
  pub chain : (i : ℕ) (x y : I) → slice_get waiting i ≡ Some x → slice_get waiting (suc i) ≡ Some y → awaits x y
  pub known : AreMet IsItem number so_far waiting met

-- nothing waits, and an item whose number is noted is marked
pub record Rests {I M : Type 0} (IsItem : I → Type 0) (number : I → ℕ) (count : ℕ) (so_far : I → Option M) (walk : Walk I) : Type 0 where
  pub idle : walk.waiting.items ≡ []
  pub size : length walk.met.items ≡ count
  pub met : (i : I) → IsItem i → slice_get walk.met.items (number i) ≡ Some true → IsMarked so_far i

-- how many aren't noted
abbrev pub unnoted : List Bool → ℕ
unnoted [] = 0
unnoted (b ∷ met) = (if b then 0 else 1) + unnoted met

-- how often an item can still be looked at
abbrev pub left_to_do : {I : Type 0} → List I → List Bool → ℕ
left_to_do waiting met = 2 * unnoted met + length waiting

-- what was noted is noted
abbrev pub NotesStay : List Bool → List Bool → Type 0
NotesStay old new = (n : ℕ) → slice_get old n ≡ Some true → slice_get new n ≡ Some true

-- what came of a step that met a circle, or didn't: an item waits for itself, and one of these waits for it
abbrev pub IsCircle : {I : Type 0} → (I → I → Type 0) → (I → Type 0) → Option I → Type 0
IsCircle awaits Waiting None = Unit {0}
IsCircle {I} awaits Waiting (Some i) = WaitsFor awaits i i × (k : I) × Waiting k × WaitsFor awaits k i

-- it waits before all others
abbrev pub IsFirst : {I : Type 0} → List I → I → Type 0
IsFirst waiting item = slice_get waiting 0 ≡ Some item

-- the item is marked, or waits for one that waits for itself
abbrev pub Ends : {I M : Type 0} → (I → I → Type 0) → (I → Option M) → I → Walked I → Type 0
Ends awaits so_far item Marked = IsMarked so_far item
Ends awaits so_far item (Circle i) = IsCircle awaits (λ k. k ≡ item) (Some i)
