-- The nodes of a tree lie side by side: from where it starts up to its top.
use Rattle.std.specs.Prelude.{ℕ, suc, ◌<◌, ◌≤◌, ◌≡◌, List, [], ◌∷◌, length, Some, get_or, slice_get}
use Rattle.go_tree.specs.declared.tree.Node.{Node}
use Rattle.node_values.specs.Filled.{values}

-- where a tree starts: where its first part does, or at its top where there is none
abbrev pub start_from : List ℕ → List ℕ → ℕ
start_from so_far [] = length so_far
start_from so_far (x ∷ xs) = get_or so_far x 0

abbrev pub start_of : List ℕ → Node → ℕ
start_of so_far node = start_from so_far node.parts

-- where the tree of each node starts
abbrev pub starts : List Node → List ℕ
starts nodes = values start_of nodes

-- trees with these tops lie side by side, from here up to there
abbrev pub Tile : List ℕ → List ℕ → ℕ → ℕ → Type 0
Tile found [] here there = here ≡ there
Tile found (x ∷ xs) here there = (get_or found x 0 ≡ here) × (x < there) × Tile found xs (suc x) there

-- a node comes directly after its parts
abbrev pub IsTiled : List Node → Type 0
IsTiled nodes = (p : ℕ) (node : Node) → slice_get nodes p ≡ Some node → Tile (starts nodes) node.parts (get_or (starts nodes) p 0) p

-- the numbers of what p holds
abbrev pub IsWithin : List ℕ → ℕ → ℕ → Type 0
IsWithin found p n = (get_or found p 0 ≤ n) × (n < p)
