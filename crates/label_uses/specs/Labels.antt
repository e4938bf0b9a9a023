-- Which label a jump denotes (Go 1.17, "Labeled statements", "Label scopes", "Break statements", "Continue statements", "Goto statements").
use Rattle.std.specs.Prelude.{ℕ, ◌<◌, ◌≡◌, Bool, true, false, List, Some, slice_get, codes}
use Rattle.go_tree.specs.declared.tree.FileTree.{FileTree}
use Rattle.go_tree.specs.declared.tree.Node.{Node}
use Rattle.go_tree.specs.declared.tree.NodeKind.{NodeKind}
use Rattle.go_tree.specs.declared.tree.NodeKind.TheVariants as k
use Rattle.file_uses.specs.Numbers.{name_in}
use Rattle.label_uses.specs.Functions.{SameFunction}

-- a labeled statement
abbrev pub is_label : NodeKind → Bool
is_label k.Label = true
is_label _ = false

-- a statement that may name a label
abbrev pub is_jump : NodeKind → Bool
is_jump k.Break = true
is_jump k.Continue = true
is_jump k.Goto = true
is_jump _ = false

-- n is the first part of a statement of such a kind
abbrev pub Heads : (NodeKind → Bool) → List Node → ℕ → Type 0
Heads kinds nodes n = (p : ℕ) × (node : Node) × (slice_get nodes p ≡ Some node) × (kinds node.kind ≡ true) × (slice_get node.parts 0 ≡ Some n)

-- n is the name of a label. `_` declares none.
abbrev pub IsLabel : List ℕ → FileTree → ℕ → List ℕ → Type 0
IsLabel bytes tree n name = Heads is_label tree.nodes n × (name_in bytes tree n ≡ Some name) × (name ≡ codes "_" → ⊥)

-- n is the name behind `break`, `continue` or `goto`
abbrev pub IsJump : List ℕ → FileTree → ℕ → List ℕ → Type 0
IsJump bytes tree n name = Heads is_jump tree.nodes n × (name_in bytes tree n ≡ Some name)

-- the label is the first of the name, in the file, in the innermost function that holds n
pub record IsFirst (bytes : List ℕ) (tree : FileTree) (n : ℕ) (name : List ℕ) (label : ℕ) : Type 0 where
  pub declared : IsLabel bytes tree label name
  pub function : SameFunction tree.nodes n label
  pub earliest : (e : ℕ) → e < label → IsLabel bytes tree e name → SameFunction tree.nodes n e → ⊥

-- a jump's name denotes the first label of its name in its function
abbrev pub DenotesLabel : List ℕ → FileTree → ℕ → ℕ → Type 0
DenotesLabel bytes tree jump label = (name : List ℕ) × IsJump bytes tree jump name × IsFirst bytes tree jump name label

-- a label of its name stands before it in its function
abbrev pub IsRepeated : List ℕ → FileTree → ℕ → Type 0
IsRepeated bytes tree label = (name : List ℕ) × IsLabel bytes tree label name × (e : ℕ) × (e < label) × IsLabel bytes tree e name × SameFunction tree.nodes label e
