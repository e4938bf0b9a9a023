-- Select statements (Go 1.17, "Select statements").
use Rattle.std.specs.Prelude.{ℕ, ◌==◌, ◌&&◌, not, Bool, true, false, List, length, slice_get}
use Rattle.std.specs.Option.{option_map_or}
use Rattle.go_tree.specs.declared.tree.Node.{Node}
use Rattle.go_tree.specs.declared.tree.NodeKind.{NodeKind}
use Rattle.go_tree.specs.declared.tree.NodeKind.TheVariants as k
use Rattle.go_tree.specs.declared.tree.NodeRef.{NodeRef}
use Rattle.package_objects.specs.Declares.{items, part, kind_at}
use Rattle.unit_read.specs.declared.place.Place.{Place}
use Rattle.unit_read.specs.Units.{Unit, nodes_at, place_at}
use Rattle.rule_words.specs.Asking.{Rule}
use Rattle.variable_rules.specs.Forms.{bare, is_receive, value_count}
use Rattle.typed_tree.specs.declared.rule.TheConstants.{BAD_SELECT_CASE}
use Rattle.assign_rules.specs.Kinds.{is_unary}
use Rattle.assign_rules.specs.Words.{held_if}

-- a receive operation
abbrev pub receives : Unit → ℕ → Node → Bool
receives u file node = is_unary node.kind && is_receive u file node

abbrev pub receives_at : Unit → ℕ → ℕ → Bool
receives_at u file n = option_map_or (receives u file) (slice_get (nodes_at u file) n) false

abbrev pub is_comm : NodeKind → Bool
is_comm k.Comm = true
is_comm _ = false

-- "RecvStmt": what is assigned or declared with one receive operation, "which may be parenthesized"
abbrev pub receives_first : Unit → ℕ → List Node → ℕ → Bool
receives_first u file nodes n = receives_at u file (bare nodes n)

abbrev pub receives_one : Unit → ℕ → List Node → Node → Bool
receives_one u file nodes node =
    value_count nodes 1 node == 1 && option_map_or (receives_first u file nodes) (slice_get (items nodes (part node 1)) 0) false

abbrev pub communicates : Unit → ℕ → NodeKind → Node → Bool
communicates u file k.Assign node = receives_one u file (nodes_at u file) node
communicates u file k.Define node = receives_one u file (nodes_at u file) node
communicates u file k.Send node = true
communicates u file _ node = false

abbrev pub is_case : Unit → ℕ → Place → Bool
is_case u file p = is_comm (kind_at (nodes_at u file) p.around)

abbrev pub in_select : Unit → NodeRef → Bool
in_select u at = option_map_or (is_case u at.file) (place_at u at) false

-- E86: a statement in a clause of a select statement that neither sends nor receives
abbrev pub is_bad_case : Unit → NodeRef → Node → Bool
is_bad_case u at node = in_select u at && not (communicates u at.file node.kind node)

-- The rule of a clause: E86 where it has no statement.
abbrev pub comm_rule : Node → Rule
comm_rule node = held_if (not (length node.parts == 1)) BAD_SELECT_CASE
