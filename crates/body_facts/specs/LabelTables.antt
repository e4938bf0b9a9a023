-- The labels and jumps of a file, by node.
use Rattle.std.specs.Prelude.{ℕ, ◌<◌, ◌≡◌, ◌⊎◌, ◌↔◌, Bool, true, false, List, length, Option, Some, None, get_or, slice_get}
use Rattle.go_tree.specs.declared.tree.FileTree.{FileTree}
use Rattle.label_uses.specs.declared.answer.Label.{Label}
use Rattle.label_uses.specs.declared.answer.Jump.{Jump}
use Rattle.label_uses.specs.Labels.{IsLabel, DenotesLabel}

-- the label that the name behind each jump denotes
pub record AreDenoted (bytes : List ℕ) (tree : FileTree) (found : List (Option ℕ)) : Type 0 where
  pub size : length found ≡ length tree.nodes
  pub each : (m l : ℕ) → m < length tree.nodes → (get_or found m None ≡ Some l) ↔ DenotesLabel bytes tree m l

-- the nodes with a property
pub record AreFlagsOf (P : ℕ → Type 0) (count : ℕ) (flags : List Bool) : Type 0 where
  pub size : length flags ≡ count
  pub each : (n : ℕ) → n < count → (get_or flags n false ≡ true) ↔ P n

-- a label that no jump denotes; one that stands second in its function is denoted by none
pub record IsIdle (bytes : List ℕ) (tree : FileTree) (n : ℕ) : Type 0 where
  pub name : List ℕ
  pub label : IsLabel bytes tree n name
  pub idle : (jump : ℕ) → DenotesLabel bytes tree jump n → ⊥

-- ---- as they are gathered

-- one of the first few jumps has this name and denotes this label
abbrev pub IsTold : List Jump → ℕ → ℕ → ℕ → Type 0
IsTold jumps few m l = (k : ℕ) × (j : Jump) × (k < few) × (slice_get jumps k ≡ Some j) × (j.name ≡ m) × (j.label ≡ Some l)

pub record AreTold (jumps : List Jump) (few count : ℕ) (found : List (Option ℕ)) : Type 0 where
  pub size : length found ≡ count
  pub each : (m l : ℕ) → m < count → (get_or found m None ≡ Some l) ↔ IsTold jumps few m l

-- each jump stands before those behind it
abbrev pub AreRising : List Jump → Type 0
AreRising jumps = (i k : ℕ) (a b : Jump) → i < k → slice_get jumps i ≡ Some a → slice_get jumps k ≡ Some b → a.name < b.name

-- one number has this answer now, and the others what they had
pub record Tells (n : ℕ) (label : Option ℕ) (old new : List (Option ℕ)) : Type 0 where
  pub size : length new ≡ length old
  pub each : (m : ℕ) → m < length old → ((m ≡ n) × (get_or new m None ≡ label)) ⊎ ((m ≡ n → ⊥) × (get_or new m None ≡ get_or old m None))

-- a row of a label that stands second
abbrev pub TellsRepeated : List Label → ℕ → ℕ → Type 0
TellsRepeated rows k n = (l : Label) × (slice_get rows k ≡ Some l) × (l.first < l.name) × (l.name ≡ n)

-- a row of a label that no jump denotes
abbrev pub TellsIdle : List Label → ℕ → ℕ → Type 0
TellsIdle rows k n = (l : Label) × (slice_get rows k ≡ Some l) × (l.used ≡ false) × (l.name ≡ n)
