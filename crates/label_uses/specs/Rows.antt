-- Rows of labels and jumps, as they are gathered.
use Rattle.std.specs.Prelude.{ℕ, ◌<◌, ◌≡◌, ◌⊎◌, Bool, true, false, List, [], ◌∷◌, ◌++◌, length, Option, Some, None, get_or, slice_get, unwrap_or}
use Rattle.label_uses.specs.declared.answer.Label.{Label}
use Rattle.label_uses.specs.declared.answer.Jump.{Jump}

-- a row more, or none where there is none to add
abbrev pub Appends : {A : Type 0} → (A → Type 0) → Type 0 → List A → List A → Type 0
Appends {A} Is Absent old new = ((a : A) × (new ≡ old ++ a ∷ []) × Is a) ⊎ ((new ≡ old) × Absent)

-- the rows of the first few nodes
pub record AreGathered {A : Type 0} (name : A → ℕ) (Is : A → Type 0) (Has : ℕ → Type 0) (i : ℕ) (rows : List A) : Type 0 where
  pub order : (j k : ℕ) (a b : A) → j < k → slice_get rows j ≡ Some a → slice_get rows k ≡ Some b → name a < name b
  pub each : (k : ℕ) (a : A) → slice_get rows k ≡ Some a → Is a × (name a < i)
  pub all : (n : ℕ) → n < i → Has n → (k : ℕ) × (a : A) × (slice_get rows k ≡ Some a) × (name a ≡ n)

-- there is a name of which it holds
abbrev pub HasName : (List ℕ → Type 0) → Type 0
HasName P = (q : List ℕ) × P q

abbrev pub IsJumpRow : (ℕ → List ℕ → Type 0) → (ℕ → ℕ) → (ℕ → List ℕ → Option ℕ) → Jump → Type 0
IsJumpRow Is function table j = (q : List ℕ) × Is j.name q × (j.label ≡ table (function j.name) q)

abbrev pub IsLabelRow : (ℕ → List ℕ → Type 0) → (ℕ → ℕ) → (ℕ → List ℕ → Option ℕ) → List Bool → Label → Type 0
IsLabelRow Is function table used l = (q : List ℕ) × Is l.name q × (l.first ≡ unwrap_or (table (function l.name) q) l.name) × (l.used ≡ get_or used l.name false)

-- one flag more is set, if it is there
pub record Sets (old new : List Bool) (n : ℕ) : Type 0 where
  pub size : length new ≡ length old
  pub sound : (m : ℕ) → get_or new m false ≡ true → (get_or old m false ≡ true) ⊎ (n ≡ m)
  pub kept : (m : ℕ) → get_or old m false ≡ true → get_or new m false ≡ true
  pub set : n < length old → get_or new n false ≡ true

abbrev pub Marks : Option ℕ → List Bool → List Bool → Type 0
Marks None old new = new ≡ old
Marks (Some n) old new = Sets old new n

-- a flag is set exactly where one of the first few jumps denotes the node
pub record AreUsed (jumps : List Jump) (i count : ℕ) (used : List Bool) : Type 0 where
  pub size : length used ≡ count
  pub sound : (n : ℕ) → get_or used n false ≡ true → (k : ℕ) × (j : Jump) × (slice_get jumps k ≡ Some j) × (j.label ≡ Some n)
  pub all : (k : ℕ) (j : Jump) (n : ℕ) → k < i → slice_get jumps k ≡ Some j → j.label ≡ Some n → n < count → get_or used n false ≡ true
