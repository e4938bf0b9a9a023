-- What is known of the nodes of a file when its branches are judged.
use Rattle.std.specs.Prelude.{ℕ, ◌≤◌, ◌^◌, ◌≡◌, true, List, [], length, Option, Some, slice_get}
use Rattle.go_tree.specs.declared.tree.Node.{Node}
use Rattle.node_values.specs.Parents.{AreParents}
use Rattle.node_values.specs.Ranges.{starts, IsTiled}
use Rattle.node_values.specs.Trees.{Holds, IsTree, IsOfKind, AreInnermost}
use Rattle.body_rules.specs.declared.branches.Branch.{Branch}
use Rattle.body_rules.specs.declared.branches.Jumping.{Jumping}
use Rattle.body_rules.specs.Branches.{is_of, can_leave, stops}

-- a statement of this word that names no label
abbrev pub IsBareAt : Branch → List Node → ℕ → Type 0
IsBareAt which nodes n = (node : Node) × (slice_get nodes n ≡ Some node) × (is_of which node.kind ≡ true) × (node.parts ≡ [])

-- round each node the innermost statement that this word leaves, or function, where a statement of this word names no label
abbrev pub AreNearest : Branch → List Node → List (Option ℕ) → Type 0
AreNearest which nodes found = (n : ℕ) → IsBareAt which nodes n → AreInnermost (stops which) nodes found

pub record IsKnown (j : Jumping) : Type 0 where
  pub few : length j.nodes.now ≤ 2 ^ 32
  pub tree : IsTree j.nodes.now
  pub tiled : IsTiled j.nodes.now
  pub parents : AreParents j.nodes.now (length j.nodes.now) j.parents.now
  pub begins : j.begins.now ≡ starts j.nodes.now
  pub nearest : AreNearest j.which j.nodes.now j.nearest.now

-- u is t, which holds n and can be left
pub record LeavesRound (which : Branch) (nodes : List Node) (t n u : ℕ) : Type 0 where
  pub same : u ≡ t
  pub kind : IsOfKind (can_leave which) nodes t
  pub holds : Holds nodes t n
