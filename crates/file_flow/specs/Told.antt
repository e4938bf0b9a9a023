-- The labeled statements that a file's jumps denote.
use Rattle.std.specs.Prelude.{ℕ, ◌≡◌, ◌<◌, ◌≤◌, true, List, length, Option, Some, None, cond, slice_get, slice_index_or}
use Rattle.go_tree.specs.declared.tree.FileTree.{FileTree}
use Rattle.go_tree.specs.declared.tree.Node.{Node}
use Rattle.flow.specs.Around.{label_at}
use Rattle.label_uses.specs.Labels.{is_label, DenotesLabel}
use Rattle.label_uses.specs.declared.answer.Jump.{Jump}

-- l is the statement labeled by the name that is this node
pub record IsLabeledBy (tree : FileTree) (name l : ℕ) : Type 0 where
  pub node : Node
  pub there : slice_get tree.nodes l ≡ Some node
  pub labels : is_label node.kind ≡ true
  pub first : slice_get node.parts 0 ≡ Some name

-- a jump's name denotes the label of a statement
pub record DenotesStatement (bytes : List ℕ) (tree : FileTree) (jump l : ℕ) : Type 0 where
  pub name : ℕ
  pub denotes : DenotesLabel bytes tree jump name
  pub labeled : IsLabeledBy tree name l

-- For each node the labeled statement that it denotes, if it is the name behind a jump and denotes one.
pub record AreTold (bytes : List ℕ) (tree : FileTree) (labels : List (Option ℕ)) : Type 0 where
  pub sound : (j l : ℕ) → label_at labels j ≡ Some l → DenotesStatement bytes tree j l
  pub every : (j l : ℕ) → DenotesStatement bytes tree j l → label_at labels j ≡ Some l

-- the label's name that a node has, if it is a labeled statement
abbrev pub named_by : Node → Option ℕ
named_by node = cond (is_label node.kind) (slice_get node.parts 0) None

-- for names of labels among the first few nodes, the statement that is labeled
pub record AreOwners (tree : FileTree) (few : ℕ) (owners : List (Option ℕ)) : Type 0 where
  pub size : length owners ≡ length tree.nodes
  pub sound : (n l : ℕ) → label_at owners n ≡ Some l → IsLabeledBy tree n l
  pub every : (n l : ℕ) → l < few → IsLabeledBy tree n l → label_at owners n ≡ Some l

-- the statement of a label
abbrev pub owner_of : List (Option ℕ) → Option ℕ → Option ℕ
owner_of owners None = None
owner_of owners (Some name) = label_at owners name

-- each of the first few jumps has the statement of its label
pub record AreGivenTo (jumps : List Jump) (owners : List (Option ℕ)) (few : ℕ) (labels : List (Option ℕ)) : Type 0 where
  pub sound : (j l : ℕ) → label_at labels j ≡ Some l → (i : ℕ) × (jump : Jump) × (slice_get jumps i ≡ Some jump) × (jump.name ≡ j) × (owner_of owners jump.label ≡ Some l)
  pub every : (i : ℕ) (jump : Jump) → i < few → slice_get jumps i ≡ Some jump → jump.name < length labels → label_at labels jump.name ≡ owner_of owners jump.label

-- one place has a value, where there is such a place
pub record IsPut (at : ℕ) (value : Option ℕ) (old new : List (Option ℕ)) : Type 0 where
  pub size : length new ≡ length old
  pub here : at < length old → label_at new at ≡ value
  pub there : (j : ℕ) → (j ≡ at → ⊥) → label_at new j ≡ label_at old j
  pub outside : length old ≤ at → label_at new at ≡ label_at old at
