-- Items that are admitted by others, as a list of flags, and the work that is left.
use Rattle.std.specs.Prelude.{◌≡◌, ◌⊎◌, ◌<◌, ◌≤◌, ◌+◌, ℕ, suc, Bool, true, false, List, [], ◌∷◌, length, slice_index_or, if◌then◌else◌}
use Rattle.std.specs.List.{Contains}
use Rattle.least.specs.Least.{IsWithin, IsClosed}

-- the set of the items whose flag is set
abbrev pub set_of : List Bool → ℕ → Bool
set_of flags i = slice_index_or flags i false

-- an item is admitted, and one of these
abbrev pub among : ℕ → ((ℕ → Bool) → ℕ → Type 0) → (ℕ → Bool) → ℕ → Type 0
among count admits N i = (i < count) × admits N i

-- what is marked waits
abbrev pub IsMarked : List Bool → List ℕ → Type 0
IsMarked marks queue = (i : ℕ) → set_of marks i ≡ true → Contains queue i

-- The flags so far: within each closed set, and what they admit has its flag or waits.
pub record IsSoFar (count : ℕ) (admits : (ℕ → Bool) → ℕ → Type 0) (flags marks : List Bool) (queue : List ℕ) : Type 0 where
  pub size : length flags ≡ count
  pub marks_size : length marks ≡ count
  pub sound : (M : ℕ → Bool) → IsClosed (among count admits) M → IsWithin (set_of flags) M
  pub settled : (i : ℕ) → i < count → admits (set_of flags) i → (set_of flags i ≡ true) ⊎ Contains queue i
  pub items : (i : ℕ) → Contains queue i → i < count
  pub marked : IsMarked marks queue

-- more items wait than before, and no others
pub record IsQueued (more : List ℕ) (marks : List Bool) (queue : List ℕ) (new_marks : List Bool) (new_queue : List ℕ) : Type 0 where
  pub size : length new_marks ≡ length marks
  pub kept : (i : ℕ) → Contains queue i → Contains new_queue i
  pub each : (i : ℕ) → Contains more i → Contains new_queue i
  pub only : (i : ℕ) → Contains new_queue i → Contains queue i ⊎ Contains more i
  pub marked : IsMarked new_marks new_queue
  pub few : length new_queue ≤ length queue + length more

-- what an item whose flag isn't set may still add to the work
abbrev pub owed : (ℕ → List ℕ) → List Bool → ℕ → ℕ
owed readers [] i = 0
owed readers (f ∷ flags) i = (if f then 0 else suc (length (readers i))) + owed readers flags (suc i)

-- how often an item can still be looked at
abbrev pub left_to_do : (ℕ → List ℕ) → List Bool → List ℕ → ℕ
left_to_do readers flags queue = owed readers flags 0 + length queue
