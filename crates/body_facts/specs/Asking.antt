-- In which files the late rules of bodies may find anything: most declare only.
use Rattle.std.specs.Prelude.{ℕ, suc, ◌<◌, ◌≡◌, ◌⊎◌, ◌||◌, Bool, true, if◌then◌else◌, List, Some, slice_get}
use Rattle.go_tree.specs.declared.tree.FileTree.{FileTree}
use Rattle.go_tree.specs.declared.tree.Node.{Node}
use Rattle.go_tree.specs.declared.tree.NodeKind.{NodeKind}
use Rattle.go_tree.specs.Kinds.{is_function}
use Rattle.node_values.specs.Trees.{IsOfKind, Holds}
use Rattle.label_uses.specs.Labels.{is_label}
use Rattle.shadowed_results.specs.Kinds.{is_bare}
use Rattle.body_rules.specs.Asked.{acts}
use Rattle.body_facts.specs.NameTables.{is_declaring}

-- a function with results and a body, a jump, a `fallthrough`, a label, or a `return` without values
abbrev pub leads : List Node → Node → Bool
leads nodes node = acts nodes node || (is_label node.kind || is_bare node)

abbrev pub LeadsAt : List Node → ℕ → Type 0
LeadsAt nodes n = (node : Node) × (slice_get nodes n ≡ Some node) × (leads nodes node ≡ true)

-- the function f holds d, which declares variables
abbrev pub DeclaresIn : List Node → ℕ → ℕ → Type 0
DeclaresIn nodes f d = IsOfKind is_function nodes f × IsOfKind is_declaring nodes d × Holds nodes f d

-- something of the file may be a fault
abbrev pub MayFail : List Node → Type 0
MayFail nodes = ((n : ℕ) × LeadsAt nodes n) ⊎ ((f : ℕ) × (d : ℕ) × DeclaresIn nodes f d)

-- so it is in one of the first few files
abbrev pub MayFailBelow : List FileTree → ℕ → Type 0
MayFailBelow trees few = (k : ℕ) × (tree : FileTree) × (k < few) × (slice_get trees k ≡ Some tree) × MayFail tree.nodes

-- so it is in one of the files
abbrev pub Asks : List FileTree → Type 0
Asks trees = (k : ℕ) × (tree : FileTree) × (slice_get trees k ≡ Some tree) × MayFail tree.nodes

-- ---- as it is looked for

-- one more than the last node so far that declares variables, or 0
abbrev pub past_of : NodeKind → ℕ → ℕ → ℕ
past_of kind n past = if is_declaring kind then suc n else past

-- of the first few nodes the last that declares variables stands before this number, and none does if it is 0
pub record IsPast (nodes : List Node) (few past : ℕ) : Type 0 where
  pub all : (d : ℕ) → d < few → IsOfKind is_declaring nodes d → d < past
  pub one : (d : ℕ) → past ≡ suc d → (d < few) × IsOfKind is_declaring nodes d
