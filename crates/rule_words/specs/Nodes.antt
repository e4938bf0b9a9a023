-- Nodes, wherever they stand.
use Rattle.std.specs.Prelude.{ℕ, Bool, true, false}
use Rattle.go_tree.specs.declared.tree.NodeKind.{NodeKind}
use Rattle.go_tree.specs.declared.tree.NodeKind.TheVariants as k

abbrev pub is_paren : NodeKind → Bool
is_paren k.Paren = true
is_paren _ = false

-- nodes nest no deeper
unfoldable pub deepest : ℕ
deepest = 256
