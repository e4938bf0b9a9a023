-- Functions, and `return`s without values.
use Rattle.std.specs.Prelude.{ℕ, ◌-◌, ◌==◌, ◌&&◌, Bool, true, false, List, [], ◌∷◌, length, get_or, slice_get}
use Rattle.std.specs.Option.{option_map_or}
use Rattle.go_tree.specs.declared.tree.Node.{Node}
use Rattle.go_tree.specs.declared.tree.NodeKind.{NodeKind}
use Rattle.go_tree.specs.declared.tree.NodeKind.TheVariants as k

-- With so many parts or fewer a function has no results, or no body.
abbrev pub bare_parts : NodeKind → ℕ
bare_parts k.FuncDecl = 3
bare_parts k.MethodDecl = 4
bare_parts _ = 2

-- the last part but this many
abbrev pub from_last : List ℕ → ℕ → ℕ
from_last parts i = get_or parts (length parts - i) 0

-- b is the body of the function f, its last part
abbrev pub is_body_of : List Node → ℕ → ℕ → Bool
is_body_of nodes f b = option_map_or (λ (node : Node). from_last node.parts 1 == b) (slice_get nodes f) false

abbrev pub is_return : NodeKind → Bool
is_return k.Return = true
is_return _ = false

abbrev pub is_nil : List ℕ → Bool
is_nil [] = true
is_nil (x ∷ xs) = false

abbrev pub is_bare : Node → Bool
is_bare node = is_return node.kind && is_nil node.parts

-- n is a `return` without values
abbrev pub is_bare_at : List Node → ℕ → Bool
is_bare_at nodes n = option_map_or is_bare (slice_get nodes n) false
