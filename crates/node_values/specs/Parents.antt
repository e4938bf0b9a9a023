-- What each node is a part of, by node.
use Rattle.std.specs.Prelude.{ℕ, ◌<◌, ◌≡◌, ◌⊎◌, List, length, get_or}
use Rattle.std.specs.List.{Contains}
use Rattle.go_tree.specs.declared.tree.Node.{Node}
use Rattle.node_values.specs.Trees.{IsPart}

-- the number of a node: 0 where there is none
abbrev pub at : List ℕ → ℕ → ℕ
at numbers n = get_or numbers n 0

-- the parts have the number p, and the other nodes what they had
pub record AreGiven (parts : List ℕ) (p : ℕ) (old new : List ℕ) : Type 0 where
  pub size : length new ≡ length old
  pub each : (n : ℕ) → n < length old → ((at new n ≡ p) × Contains parts n) ⊎ ((at new n ≡ at old n) × (Contains parts n → ⊥))

-- p is what n is a part of, of the first few nodes, or the number of all nodes where n is a part of none
abbrev pub IsParent : List Node → ℕ → ℕ → ℕ → Type 0
IsParent nodes few n p = IsPart nodes p n ⊎ ((p ≡ length nodes) × ((q : ℕ) → q < few → IsPart nodes q n → ⊥))

pub record AreParents (nodes : List Node) (few : ℕ) (parents : List ℕ) : Type 0 where
  pub size : length parents ≡ length nodes
  pub each : (n : ℕ) → n < length nodes → IsParent nodes few n (at parents n)
