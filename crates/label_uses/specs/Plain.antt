-- Whether a file has a label, or a jump to one (Go 1.17, "Labeled statements").
use Rattle.std.specs.Prelude.{ℕ, ◌≡◌, ◌||◌, Bool, true, false, cond, List, Some, is_some, slice_get}
use Rattle.go_tree.specs.declared.tree.Node.{Node}
use Rattle.label_uses.specs.Labels.{is_label, is_jump}

-- a label, or a jump with a name behind it
abbrev pub names_label : Node → Bool
names_label node = cond (is_label node.kind || is_jump node.kind) (is_some (slice_get node.parts 0)) false

-- a node of the file is one
abbrev pub NamesAt : List Node → ℕ → Type 0
NamesAt nodes p = (node : Node) × (slice_get nodes p ≡ Some node) × (names_label node ≡ true)
