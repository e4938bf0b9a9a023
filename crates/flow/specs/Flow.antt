-- Where control may pass in a file, and functions that never return.
use Rattle.std.specs.Prelude.{ℕ, ◌≡◌, ◌+◌, ◌/◌, ◌%◌, Bool, true, false, ◌&&◌, ◌||◌, ◌==◌, List, [], ◌∷◌, ◌++◌, Option, Some, None, slice_get, slice_index_or}
use Rattle.std.specs.List.{Contains}
use Rattle.go_tree.specs.declared.tree.FileTree.{FileTree}
use Rattle.go_tree.specs.declared.tree.Node.{Node}
use Rattle.go_tree.specs.declared.tree.NodeKind.{NodeKind}
use Rattle.go_tree.specs.declared.tree.NodeKind.TheVariants as k
use Rattle.flow.specs.declared.point.Around.{Around}
use Rattle.flow.specs.declared.point.Call.{Call}
use Rattle.flow.specs.declared.point.Call.TheVariants as c
use Rattle.flow.specs.declared.point.Edge.{Edge}
use Rattle.flow.specs.Around.{IsAround, around_at, target_of}
use Rattle.flow.specs.Edges.{before, after, edge, edges_of, jump_edges}

-- Control leads from one point to another where nothing that is called stops it: within a statement, or by a jump.
pub data Leads (tree : FileTree) (labels : List (Option ℕ)) (p q : ℕ) : Type 0 where
  within : (n : ℕ) (node : Node) → slice_get tree.nodes n ≡ Some node → Contains (edges_of tree n node.kind node.parts) (edge p q) → Leads tree labels p q
  jump : (n : ℕ) (node : Node) (a : Around) → slice_get tree.nodes n ≡ Some node → p ≡ before n → IsAround tree n a → target_of tree labels node a ≡ Some q → Leads tree labels p q

-- a call stops control, where these functions never return
abbrev pub stops_by : (ℕ → Bool) → Call → Bool
stops_by N c.Passes = false
stops_by N c.Stops = true
stops_by N (c.Function f) = N f

-- what the statement of a node calls, as it is told
abbrev pub call_at : List Call → ℕ → Call
call_at calls n = slice_index_or calls n c.Passes

-- the statement stops control
abbrev pub stops_of : List Call → (ℕ → Bool) → ℕ → Bool
stops_of calls N n = stops_by N (call_at calls n)

-- the point is before a statement that stops control
abbrev pub is_stopped : (ℕ → Bool) → ℕ → Bool
is_stopped stops p = p % 2 == 0 && stops (p / 2)

-- Control may pass from one point to another.
abbrev pub Flow : FileTree → List (Option ℕ) → (ℕ → Bool) → ℕ → ℕ → Type 0
Flow tree labels stops p q = (is_stopped stops p ≡ false) × Leads tree labels p q

-- what is reached from a point by steps
pub data Reached (Steps : ℕ → ℕ → Type 0) (start : ℕ) : ℕ → Type 0 where
  here : Reached Steps start start
  further : {p q : ℕ} → Reached Steps start p → Steps p q → Reached Steps start q

abbrev pub is_return : NodeKind → Bool
is_return k.Return = true
is_return _ = false

abbrev pub returns_at : Option Node → Bool
returns_at None = false
returns_at (Some node) = is_return node.kind

abbrev pub is_before_return : FileTree → ℕ → Bool
is_before_return tree p = p % 2 == 0 && returns_at (slice_get tree.nodes (p / 2))

-- the point is the end of the body, or before a return
abbrev pub is_exit : FileTree → ℕ → ℕ → Bool
is_exit tree body p = p == after body || is_before_return tree p

-- Neither a return nor the end is reached from the start of the body.
abbrev pub NeverReturns : FileTree → List (Option ℕ) → (ℕ → Bool) → ℕ → Type 0
NeverReturns tree labels stops body = (p : ℕ) → is_exit tree body p ≡ true → Reached (Flow tree labels stops) (before body) p → ⊥

-- what a node lets control do
abbrev pub edges_at : FileTree → List (Option ℕ) → List Around → ℕ → Node → List Edge
edges_at tree labels table n node = edges_of tree n node.kind node.parts ++ jump_edges n (target_of tree labels node (around_at table n))

-- the edges of the nodes from n on
abbrev pub edges_from : FileTree → List (Option ℕ) → List Around → ℕ → List Node → List Edge
edges_from tree labels table n [] = []
edges_from tree labels table n (node ∷ nodes) = edges_at tree labels table n node ++ edges_from tree labels table (n + 1) nodes

-- the function of this number is called by a statement to which the body's control leads where no call stops it
abbrev pub Mentions : FileTree → List (Option ℕ) → List Call → ℕ → ℕ → Type 0
Mentions tree labels calls body f = (n : ℕ) × Reached (Leads tree labels) (before body) (before n) × (call_at calls n ≡ c.Function f)
