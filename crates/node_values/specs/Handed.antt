-- A value for each node, from the node that it is a part of.
use Rattle.std.specs.Prelude.{ℕ, ◌<◌, ◌≤◌, ◌≡◌, List, length, Some, get_or, slice_get}
use Rattle.std.specs.List.{Contains}
use Rattle.std.specs.Option.{option_map_or}
use Rattle.go_tree.specs.declared.tree.Node.{Node}
use Rattle.node_values.specs.Parents.{AreParents}
use Rattle.node_values.specs.Trees.{IsPart}

-- Each part has what its node hands to it, and what is a part of nothing has the value at the top.
pub record AreHanded {A : Type 0} (rule : ℕ → Node → ℕ → A → A) (top : A) (nodes : List Node) (found : List A) : Type 0 where
  pub size : length found ≡ length nodes
  pub given : (p n : ℕ) (node : Node) → slice_get nodes p ≡ Some node → Contains node.parts n → n < length nodes → get_or found n top ≡ rule p node n (get_or found p top)
  pub root : (n : ℕ) → ((p : ℕ) → IsPart nodes p n → ⊥) → get_or found n top ≡ top

-- what p hands to n, or what stands at the top where there is no p
abbrev pub handed : {A : Type 0} → (ℕ → Node → ℕ → A → A) → A → List Node → List A → ℕ → ℕ → A
handed rule top nodes found n p = option_map_or (λ node. rule p node n (get_or found p top)) (slice_get nodes p) top

-- so many times the value at the top
pub record AreTops {A : Type 0} (count : ℕ) (top : A) (found : List A) : Type 0 where
  pub size : length found ≡ count
  pub each : (n : ℕ) → get_or found n top ≡ top

-- the nodes from a few on have their values
pub record AreHandedFrom {A : Type 0} (rule : ℕ → Node → ℕ → A → A) (top : A) (nodes : List Node) (parents : ℕ → ℕ) (few : ℕ) (found : List A) : Type 0 where
  pub size : length found ≡ length nodes
  pub each : (n : ℕ) → few ≤ n → n < length nodes → get_or found n top ≡ handed rule top nodes found n (parents n)

-- the same, over some list of what each node is a part of
pub record IsHandedDown {A : Type 0} (rule : ℕ → Node → ℕ → A → A) (top : A) (nodes : List Node) (found : List A) : Type 0 where
  pub parents : List ℕ
  pub are_parents : AreParents nodes (length nodes) parents
  pub handed : AreHanded rule top nodes found
