-- The trees that nodes by number show.
use Rattle.std.specs.Prelude.{◌≡◌, Bool, cond, ℕ, suc, ◌<◌, ◌+◌, List, [], ◌∷◌, slice_get, Some}
use Rattle.std.specs.List.{All}
use Rattle.scopes.specs.declared.scope.Form.{Form}
use Rattle.go_tree.specs.declared.tree.Node.{Node}
use Rattle.go_tree.specs.Arena.{size}
use Rattle.go_tree.specs.Forest.{Forest, Empty, Grow}
use Rattle.scopes.specs.Regions.{is_param, is_bind}

-- the nodes of these numbers are the trees, whose nodes are numbered from m
abbrev pub Shows : List Node → ℕ → List ℕ → Forest → Type 0
Shows nodes m [] Empty = Unit {0}
Shows nodes m [] (Grow k a z ps rest) = ⊥
Shows nodes m (n ∷ ns) Empty = ⊥
Shows nodes m (n ∷ ns) (Grow k a z ps rest) =
    (node : Node) × (slice_get nodes n ≡ Some node) × (node.kind ≡ k) × (n ≡ m + size ps) × Shows nodes m node.parts ps × Shows nodes (m + suc (size ps)) ns rest

-- the parts of a node come before it
abbrev pub IsFormed : List Node → Type 0
IsFormed nodes = (n : ℕ) (node : Node) → slice_get nodes n ≡ Some node → All (λ k. k < n) node.parts

-- the form of a parameter, or that of a type switch's name
abbrev pub has_names : Bool → Form → Bool
has_names bind f = cond bind (is_bind f) (is_param f)
