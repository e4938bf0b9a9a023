-- The nodes of trees in one list: a node comes directly after the nodes of its parts.
use Rattle.std.specs.Prelude.{ℕ, ◌+◌, List, [], ◌∷◌, ◌++◌, suc, max}
use Rattle.go_tree.specs.declared.token.Token.{Token}
use Rattle.go_tree.specs.declared.tree.NodeKind.{NodeKind}
use Rattle.go_tree.specs.declared.tree.Node.{Node}
use Rattle.go_tree.specs.declared.tree.FileTree.{FileTree}
use Rattle.go_tree.specs.Forest.{Forest, Empty, Grow}

abbrev pub node_of : NodeKind → ℕ → ℕ → List ℕ → Node
node_of k a b ps = record { kind = k; first = a; last = b; parts = ps }

-- how many nodes trees have
abbrev pub size : Forest → ℕ
size Empty = 0
size (Grow k a b ps f) = size ps + suc (size f)

-- the numbers of the top nodes of trees whose nodes are numbered from m
abbrev pub roots : ℕ → Forest → List ℕ
roots m Empty = []
roots m (Grow k a b ps f) = (m + size ps) ∷ roots (m + suc (size ps)) f

-- their nodes in order
abbrev pub flat : ℕ → Forest → List Node
flat m Empty = []
flat m (Grow k a b ps f) = flat m ps ++ (node_of k a b (roots m ps) ∷ flat (m + suc (size ps)) f)

-- the tree of a file of these tokens
abbrev pub arena_of : List Token → Forest → FileTree
arena_of tokens f = record { tokens = tokens; nodes = flat 0 f; tops = roots 0 f }

-- how deep trees nest: a leaf has depth 1
abbrev pub depth : Forest → ℕ
depth Empty = 0
depth (Grow k a b ps f) = max (suc (depth ps)) (depth f)

-- the greatest of depths
abbrev pub highest : List ℕ → ℕ
highest [] = 0
highest (h ∷ hs) = max h (highest hs)

-- the depth of each of the trees
abbrev pub heights : Forest → List ℕ
heights Empty = []
heights (Grow k a b ps f) = suc (depth ps) ∷ heights f

-- the kinds of the trees' top nodes
abbrev pub kinds : Forest → List NodeKind
kinds Empty = []
kinds (Grow k a b ps f) = k ∷ kinds f
