-- Nodes of trees in one list, and what holds what.
use Rattle.std.specs.Prelude.{ℕ, ◌<◌, ◌≡◌, ◌⊎◌, Bool, true, List, length, Option, Some, None, get_or, slice_get}
use Rattle.std.specs.List.{Contains}
use Rattle.go_tree.specs.declared.tree.Node.{Node}
use Rattle.go_tree.specs.declared.tree.NodeKind.{NodeKind}

-- n is a part of p
abbrev pub IsPart : List Node → ℕ → ℕ → Type 0
IsPart nodes p n = (node : Node) × (slice_get nodes p ≡ Some node) × Contains node.parts n

-- p holds its parts, and the parts of what it holds
pub data Holds (nodes : List Node) (p : ℕ) : ℕ → Type 0 where
  part : {n : ℕ} → IsPart nodes p n → Holds nodes p n
  deep : {q n : ℕ} → Holds nodes p q → IsPart nodes q n → Holds nodes p n

-- a node is a part of one node at most, which comes after it
pub record IsTree (nodes : List Node) : Type 0 where
  pub one : (p q n : ℕ) → IsPart nodes p n → IsPart nodes q n → p ≡ q
  pub after : (p n : ℕ) → IsPart nodes p n → n < p

-- a node of such a kind
abbrev pub IsOfKind : (NodeKind → Bool) → List Node → ℕ → Type 0
IsOfKind kinds nodes f = (node : Node) × (slice_get nodes f ≡ Some node) × (kinds node.kind ≡ true)

-- f is the innermost node of such a kind that holds n
pub record InnermostOf (kinds : NodeKind → Bool) (nodes : List Node) (n f : ℕ) : Type 0 where
  pub kind : IsOfKind kinds nodes f
  pub holds : Holds nodes f n
  pub innermost : (g : ℕ) → IsOfKind kinds nodes g → Holds nodes g n → (g ≡ f) ⊎ Holds nodes g f

abbrev pub IsInnermost : (NodeKind → Bool) → List Node → ℕ → Option ℕ → Type 0
IsInnermost kinds nodes n (Some f) = InnermostOf kinds nodes n f
IsInnermost kinds nodes n None = (g : ℕ) → IsOfKind kinds nodes g → Holds nodes g n → ⊥

-- each node has the innermost that holds it
pub record AreInnermost (kinds : NodeKind → Bool) (nodes : List Node) (found : List (Option ℕ)) : Type 0 where
  pub size : length found ≡ length nodes
  pub each : (n : ℕ) → n < length nodes → IsInnermost kinds nodes n (get_or found n None)
