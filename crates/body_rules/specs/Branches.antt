-- What a `break` leaves, and what a `continue` goes on with (Go 1.17, "Break statements", "Continue statements").
use Rattle.std.specs.Prelude.{ℕ, ◌≡◌, ◌==◌, ◌&&◌, ◌||◌, cond, if◌then◌else◌, option_and_then, Bool, true, false, List, [], ◌∷◌, length, Option, Some, None, get_or, slice_get}
use Rattle.go_tree.specs.declared.tree.Node.{Node}
use Rattle.go_tree.specs.declared.tree.NodeKind.{NodeKind}
use Rattle.go_tree.specs.Kinds.{is_function}
use Rattle.node_values.specs.Flagged.{AreFlagged}
use Rattle.node_values.specs.Trees.{Holds, IsOfKind, InnermostOf}
use Rattle.body_rules.specs.declared.branches.Branch.{Branch}
use Rattle.body_rules.specs.declared.branches.Branch.TheVariants as w
use Rattle.body_rules.specs.Kinds.{is_loop, can_break, is_label, is_break, is_continue}

-- a statement of this word
abbrev pub is_of : Branch → NodeKind → Bool
is_of w.Break kind = is_break kind
is_of w.Continue kind = is_continue kind

abbrev pub branch_of : NodeKind → Option Branch
branch_of kind = if is_break kind then Some w.Break else (if is_continue kind then Some w.Continue else None)

-- what it leaves or goes on with
abbrev pub can_leave : Branch → NodeKind → Bool
can_leave w.Break kind = can_break kind
can_leave w.Continue kind = is_loop kind

-- where the search for it ends
abbrev pub stops : Branch → NodeKind → Bool
stops which kind = is_function kind || can_leave which kind

-- the label with this name stands on the statement t
abbrev pub IsLabelOn : List Node → ℕ → ℕ → Type 0
IsLabelOn nodes l t = (q : ℕ) × (node : Node) × (slice_get nodes q ≡ Some node) × (is_label node.kind ≡ true) × (slice_get node.parts 0 ≡ Some l) × (slice_get node.parts 1 ≡ Some t)

-- without a label: the innermost such statement of the function
pub record LeavesNearest (which : Branch) (nodes : List Node) (n t : ℕ) : Type 0 where
  pub nearest : InnermostOf (stops which) nodes n t
  pub kind : IsOfKind (can_leave which) nodes t

-- with a label: such a statement round the jump, on which the label stands
pub record LeavesNamed (which : Branch) (nodes : List Node) (label : Option ℕ) (n t : ℕ) : Type 0 where
  pub l : ℕ
  pub denoted : label ≡ Some l
  pub on : IsLabelOn nodes l t
  pub kind : IsOfKind (can_leave which) nodes t
  pub holds : Holds nodes t n

abbrev pub LeavesBy : Branch → List Node → List (Option ℕ) → List ℕ → ℕ → ℕ → Type 0
LeavesBy which nodes labels [] n t = LeavesNearest which nodes n t
LeavesBy which nodes labels (m ∷ ms) n t = LeavesNamed which nodes (get_or labels m None) n t

-- n is such a statement and leaves t, or goes on with it
abbrev pub Leaves : Branch → List Node → List (Option ℕ) → ℕ → ℕ → Type 0
Leaves which nodes labels n t = (node : Node) × (slice_get nodes n ≡ Some node) × (is_of which node.kind ≡ true) × LeavesBy which nodes labels node.parts n t

-- the statements that a `break` leaves
abbrev pub AreLeft : List Node → List (Option ℕ) → List Bool → Type 0
AreLeft nodes labels left = AreFlagged (Leaves w.Break nodes labels) (length nodes) (length nodes) left

-- a label's name stands first, and what it stands on second
abbrev pub is_first : List ℕ → ℕ → Bool
is_first [] l = false
is_first (x ∷ xs) l = x == l

abbrev pub labelled : ℕ → Node → Option ℕ
labelled l node = cond (is_label node.kind && is_first node.parts l) (slice_get node.parts 1) None

-- what stands behind the label's name in the node q
abbrev pub stand_of : List Node → ℕ → ℕ → Option ℕ
stand_of nodes q l = option_and_then (labelled l) (slice_get nodes q)
