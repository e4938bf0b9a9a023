-- Rows in which few cells have something: these cells, by their numbers.
use Rattle.std.specs.Prelude.{◌≡◌, ℕ, ◌<◌, ◌≤◌, ◌==◌, if◌then◌else◌, List, [], ◌∷◌, Option, Some, None, length, slice_get, option_and_then}
use Rattle.std.specs.Global.{Vec}
use Rattle.go_tree.specs.declared.tree.NodeRef.{NodeRef}

-- what stands under a number in a list
abbrev pub stored : {X : Type 0} → List (ℕ × X) → ℕ → Option X
stored [] n = None
stored (e ∷ list) n = if e.0 == n then Some e.1 else stored list n

-- each number is lower than those after it
abbrev pub AreAscending : {X : Type 0} → List (ℕ × X) → Type 0
AreAscending {X} list = (j k : ℕ) (a b : ℕ × X) → j < k → slice_get list j ≡ Some a → slice_get list k ≡ Some b → a.0 < b.0

-- the numbers in front of a place are lower
abbrev pub AreBelow : {X : Type 0} → List (ℕ × X) → ℕ → ℕ → Type 0
AreBelow {X} list n place = (k : ℕ) (a : ℕ × X) → k < place → slice_get list k ≡ Some a → a.0 < n

-- those from a place on aren't
abbrev pub AreAbove : {X : Type 0} → List (ℕ × X) → ℕ → ℕ → Type 0
AreAbove {X} list n place = (k : ℕ) (a : ℕ × X) → place ≤ k → slice_get list k ≡ Some a → n ≤ a.0

-- what an entry has, if it has this number
abbrev pub value_at : {X : Type 0} → ℕ → Option (ℕ × X) → Option X
value_at n None = None
value_at n (Some e) = if e.0 == n then Some e.1 else None

-- what a row of cells has under a number
abbrev pub cell_in : {X : Type 0} → List (Option X) → ℕ → Option X
cell_in {X} row n = option_and_then (λ (o : Option X). o) (slice_get row n)

-- what one cell adds
abbrev pub entry_of : {X : Type 0} → ℕ → Option X → List (ℕ × X)
entry_of n None = []
entry_of n (Some x) = (n, x) ∷ []

-- the cells in front of a number are kept
pub record AreKept {X : Type 0} (list : List (ℕ × X)) (row : List (Option X)) (n : ℕ) : Type 0 where
  pub each : (k : ℕ) → k < n → stored list k ≡ cell_in row k
  pub rest : (k : ℕ) → n ≤ k → stored list k ≡ None
  pub below : (j : ℕ) (a : ℕ × X) → slice_get list j ≡ Some a → a.0 < n
  pub ascending : AreAscending list

-- what a table of such rows, one for each file, has for a node
abbrev pub entry : {X : Type 0} → List (List (ℕ × X)) → NodeRef → Option X
entry {X} rows at = option_and_then (λ (row : List (ℕ × X)). stored row at.node) (slice_get rows at.file)

-- the rows of the first few files have what the full rows have
pub record AreEntries {X : Type 0} (rows : List (Vec (Option X))) (table : List (List (ℕ × X))) (count : ℕ) : Type 0 where
  pub size : length table ≡ count
  pub each : (f : ℕ) (row : Vec (Option X)) (e : List (ℕ × X)) → slice_get rows f ≡ Some row → slice_get table f ≡ Some e → (n : ℕ) → stored e n ≡ cell_in row.items n
