-- Terminating statements (Go 1.17, "Terminating statements").
use Rattle.std.specs.Prelude.{ℕ, ◌-◌, nat_lt, ◌==◌, ◌&&◌, ◌||◌, not, cond, if◌then◌else◌, Bool, true, false, List, [], ◌∷◌, length, get_or, slice_get}
use Rattle.std.specs.Option.{option_map_or}
use Rattle.go_tree.specs.declared.tree.Node.{Node}
use Rattle.go_tree.specs.declared.tree.NodeKind.{NodeKind}
use Rattle.go_tree.specs.declared.tree.NodeKind.TheVariants as k
use Rattle.node_values.specs.Filled.{values}
use Rattle.body_rules.specs.declared.endings.Ending.{Ending}
use Rattle.body_rules.specs.declared.endings.Ending.TheVariants as e
use Rattle.body_rules.specs.Kinds.{is_clause, is_default, is_condition, is_body, is_if, is_goto, is_return, is_fall, is_call, is_paren, is_list, is_label, is_plain_for, is_clause_for, is_switch, is_type_switch, is_select}

-- the kind of a node, by its number
abbrev pub kind_of : List Node → ℕ → NodeKind
kind_of nodes n = option_map_or (λ (node : Node). node.kind) (slice_get nodes n) k.Name

abbrev pub flag_of : List Bool → ℕ → Bool
flag_of flags n = get_or flags n false

abbrev pub is_closed : Ending → Bool
is_closed e.Open = false
is_closed e.Closed = true
is_closed e.Falls = false

abbrev pub is_shut : Ending → Bool
is_shut e.Open = false
is_shut e.Closed = true
is_shut e.Falls = true

abbrev pub closed_if : Bool → Ending
closed_if b = cond b e.Closed e.Open

-- how the last of them ends
abbrev pub last_of : (ℕ → Ending) → Ending → List ℕ → Ending
last_of M before [] = before
last_of M before (x ∷ xs) = last_of M (M x) xs

-- some of them is of such a kind
abbrev pub has_kind : (NodeKind → Bool) → (ℕ → NodeKind) → List ℕ → Bool
has_kind kinds K [] = false
has_kind kinds K (x ∷ xs) = kinds (K x) || has_kind kinds K xs

-- each clause among them ends so
abbrev pub clauses_end : (Ending → Bool) → (ℕ → NodeKind) → (ℕ → Ending) → List ℕ → Bool
clauses_end ends K M [] = true
clauses_end ends K M (x ∷ xs) = (not (is_clause (K x)) || ends (M x)) && clauses_end ends K M xs

-- the last part but this many
abbrev pub from_last : List ℕ → ℕ → ℕ
from_last parts i = get_or parts (length parts - i) 0

-- the last two parts are the branches of an `if`, and both end so
abbrev pub branches_end : (ℕ → NodeKind) → (ℕ → Ending) → List ℕ → Bool
branches_end K M parts = nat_lt 1 (length parts) && (is_body (K (from_last parts 2)) && (is_closed (M (from_last parts 2)) && is_closed (M (from_last parts 1))))

-- what ends as its last part does
abbrev pub is_passed : NodeKind → Bool
is_passed kind = is_paren kind || (is_list kind || (is_label kind || is_clause kind))

-- control doesn't pass these
abbrev pub is_final : NodeKind → Bool
is_final kind = is_return kind || is_goto kind

-- How a statement ends, a kind a line: `left` are those that a `break` leaves, `panics` the calls of `panic`, K the kinds of parts and M how they end.
abbrev pub loop_ends : Bool → (ℕ → NodeKind) → NodeKind → List ℕ → Bool
loop_ends left K kind parts =
    if is_plain_for kind then not left && (length parts == 1)
    else (is_clause_for kind && (not left && not (has_kind is_condition K parts)))

abbrev pub choice_ends : Bool → (ℕ → NodeKind) → (ℕ → Ending) → NodeKind → List ℕ → Bool
choice_ends left K M kind parts =
    if is_select kind then not left && clauses_end is_closed K M parts
    else ((is_switch kind || is_type_switch kind) && (not left && (has_kind is_default K parts && clauses_end is_shut K M parts)))

abbrev pub whole_ending : Bool → (ℕ → NodeKind) → (ℕ → Ending) → NodeKind → List ℕ → Ending
whole_ending left K M kind parts =
    if is_if kind then closed_if (branches_end K M parts)
    else closed_if (loop_ends left K kind parts || choice_ends left K M kind parts)

abbrev pub part_ending : Bool → (ℕ → NodeKind) → (ℕ → Ending) → NodeKind → List ℕ → Ending
part_ending left K M kind parts =
    if is_passed kind then last_of M e.Open parts
    else (if is_body kind then closed_if (is_closed (last_of M e.Open parts))
    else whole_ending left K M kind parts)

abbrev pub ending_by : Bool → Bool → (ℕ → NodeKind) → (ℕ → Ending) → NodeKind → List ℕ → Ending
ending_by left panics K M kind parts =
    if is_final kind then e.Closed
    else (if is_fall kind then e.Falls
    else (if is_call kind then closed_if panics
    else part_ending left K M kind parts))

abbrev pub ending_of : (ℕ → Bool) → (ℕ → Bool) → List Node → List Ending → Node → Ending
ending_of left panics nodes so_far node = ending_by (left (length so_far)) (panics (length so_far)) (kind_of nodes) (λ x. get_or so_far x e.Open) node.kind node.parts

-- how each node ends
abbrev pub endings : (ℕ → Bool) → (ℕ → Bool) → List Node → List Ending
endings left panics nodes = values (ending_of left panics nodes) nodes
