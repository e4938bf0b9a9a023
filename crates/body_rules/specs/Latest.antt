-- The last of some nodes before a node, in its block.
use Rattle.std.specs.Prelude.{ℕ, ◌<◌, ◌≤◌, ◌≡◌, List, length, Option, Some, None, get_or}
use Rattle.std.specs.Prelude.{true}
use Rattle.go_tree.specs.declared.tree.Node.{Node}
use Rattle.body_rules.specs.Endings.{kind_of}
use Rattle.body_rules.specs.Kinds.{declares}

-- a node that declares, directly in the block, before this number
abbrev pub IsEarlier : List Node → List (Option ℕ) → ℕ → ℕ → ℕ → Type 0
IsEarlier nodes blocks b n d = (d < n) × (declares (kind_of nodes d) ≡ true) × (get_or blocks d None ≡ Some b)

-- the last of them
abbrev pub IsLatest : List Node → List (Option ℕ) → ℕ → ℕ → Option ℕ → Type 0
IsLatest nodes blocks b n (Some d) = IsEarlier nodes blocks b n d × ((e : ℕ) → IsEarlier nodes blocks b n e → e ≤ d)
IsLatest nodes blocks b n None = (e : ℕ) → IsEarlier nodes blocks b n e → ⊥

-- each block has the last before a number
pub record IsTable (nodes : List Node) (blocks : List (Option ℕ)) (n : ℕ) (table : List (Option ℕ)) : Type 0 where
  pub size : length table ≡ length nodes
  pub each : (b : ℕ) → b < length nodes → IsLatest nodes blocks b n (get_or table b None)

-- the first few nodes have the last before them
pub record AreLatest (nodes : List Node) (blocks : List (Option ℕ)) (few : ℕ) (found : List (Option ℕ)) : Type 0 where
  pub size : length found ≡ few
  pub each : (n b : ℕ) → n < few → get_or blocks n None ≡ Some b → b < length nodes → IsLatest nodes blocks b n (get_or found n None)
