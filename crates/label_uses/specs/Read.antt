-- What is known of the labels and jumps of a file.
use Rattle.std.specs.Prelude.{ℕ, ◌<◌, ◌≡◌, ◌↔◌, true, List, Option, Some, None, slice_get}
use Rattle.go_tree.specs.declared.tree.FileTree.{FileTree}
use Rattle.label_uses.specs.declared.answer.Label.{Label}
use Rattle.label_uses.specs.declared.answer.Jump.{Jump}
use Rattle.label_uses.specs.declared.answer.Labels.{Labels}
use Rattle.label_uses.specs.Labels.{IsLabel, IsJump, IsFirst, DenotesLabel, IsRepeated}

-- the rows of the nodes that have a property, in the order of the file, and no others
pub record AreListed {A : Type 0} (name : A → ℕ) (Is : ℕ → Type 0) (rows : List A) : Type 0 where
  pub order : (j k : ℕ) (a b : A) → j < k → slice_get rows j ≡ Some a → slice_get rows k ≡ Some b → name a < name b
  pub each : (k : ℕ) (a : A) → slice_get rows k ≡ Some a → Is (name a)
  pub all : (n : ℕ) → Is n → (k : ℕ) × (a : A) × (slice_get rows k ≡ Some a) × (name a ≡ n)

-- what an answer for a jump says
abbrev pub JumpAnswer : List ℕ → FileTree → ℕ → Option ℕ → Type 0
JumpAnswer bytes tree jump (Some label) = DenotesLabel bytes tree jump label
JumpAnswer bytes tree jump None = (label : ℕ) → DenotesLabel bytes tree jump label → ⊥

-- what is said of a label: the first of its name in its function, whether it is repeated, and whether a jump denotes it
pub record IsRow (bytes : List ℕ) (tree : FileTree) (l : Label) : Type 0 where
  pub first : (name : List ℕ) × IsLabel bytes tree l.name name × IsFirst bytes tree l.name name l.first
  pub repeated : (l.first < l.name) ↔ IsRepeated bytes tree l.name
  pub used : (l.used ≡ true) ↔ ((jump : ℕ) × DenotesLabel bytes tree jump l.name)

-- the labels and jumps of a file
pub record AreLabels (bytes : List ℕ) (tree : FileTree) (r : Labels) : Type 0 where
  pub labels : AreListed (λ (l : Label). l.name) (λ n. (name : List ℕ) × IsLabel bytes tree n name) r.labels.items
  pub rows : (k : ℕ) (l : Label) → slice_get r.labels.items k ≡ Some l → IsRow bytes tree l
  pub jumps : AreListed (λ (j : Jump). j.name) (λ n. (name : List ℕ) × IsJump bytes tree n name) r.jumps.items
  pub denoted : (k : ℕ) (j : Jump) → slice_get r.jumps.items k ≡ Some j → JumpAnswer bytes tree j.name j.label
