-- What the uses of a package's files denote, as a list.
use Rattle.std.specs.Prelude.{ℕ, ◌<◌, ◌≤◌, ◌≡◌, ◌⊎◌, List, Option, Some, None, slice_get}
use Rattle.std.specs.List.{Contains}
use Rattle.go_tree.specs.declared.tree.NodeRef.{NodeRef}
use Rattle.go_tree.specs.declared.bindings.Object.{Object}

-- a comes before b: by file, then by node
abbrev pub IsBefore : NodeRef → NodeRef → Type 0
IsBefore a b = (a.file < b.file) ⊎ ((a.file ≡ b.file) × (a.node < b.node))

-- Each use comes before those after it, so that the uses are distinct.
abbrev pub AreInOrder : List (NodeRef × Object) → Type 0
AreInOrder uses = (j k : ℕ) (a b : NodeRef × Object) → j < k → slice_get uses j ≡ Some a → slice_get uses k ≡ Some b → IsBefore a.0 b.0

-- what the list has for a node: an object, or nothing
abbrev pub Has : List (NodeRef × Object) → NodeRef → Option Object → Type 0
Has uses at (Some o) = Contains uses (at, o)
Has uses at None = (o : Object) → Contains uses (at, o) → ⊥

-- the uses in front of a place come before the node
abbrev pub AreBelow : List (NodeRef × Object) → NodeRef → ℕ → Type 0
AreBelow uses at n = (k : ℕ) (a : NodeRef × Object) → k < n → slice_get uses k ≡ Some a → IsBefore a.0 at

-- the uses from a place on don't
abbrev pub AreAbove : List (NodeRef × Object) → NodeRef → ℕ → Type 0
AreAbove uses at n = (k : ℕ) (a : NodeRef × Object) → n ≤ k → slice_get uses k ≡ Some a → IsBefore a.0 at → ⊥
