-- Items of which nothing is said, as far as the node and its place show it: most nodes declare nothing, and many are no expressions.
use Rattle.std.specs.Prelude.{ℕ, Bool, true, false, not, ◌==◌, if◌then◌else◌, Option}
use Rattle.std.specs.Option.{option_map_or}
use Rattle.go_tree.specs.declared.tree.Node.{Node}
use Rattle.go_tree.specs.declared.tree.NodeKind.{NodeKind}
use Rattle.go_tree.specs.declared.tree.NodeRef.{NodeRef}
use Rattle.object_order.specs.Spots.{place}
use Rattle.typed_marks.specs.declared.item.Item.{Item}
use Rattle.typed_marks.specs.declared.item.Stage.{Stage}
use Rattle.typed_marks.specs.declared.item.Stage.TheVariants as s
use Rattle.unit_read.specs.declared.passage.Passage.{Passage}
use Rattle.unit_read.specs.declared.place.Place.{Place}
use Rattle.unit_read.specs.Units.{Unit, node_at, place_at, passage_at, is_among, defined}
use Rattle.decl_rules.specs.Wants.{declares_names}
use Rattle.go_rules.specs.Families.{family, is_expression}
use Rattle.go_rules.specs.Roles.{is_name, states_names}
use Rattle.go_rules.specs.Stages.{is_late, number}
use Rattle.go_rules.specs.Statements.{is_type_clause}

-- ---- before anything is wanted of it

-- the node is neither an expression nor a type
abbrev pub is_quiet_before : Node → Bool
is_quiet_before node = if is_name node.kind then false else not (is_expression (family node.kind))

-- ---- what is declared at it

-- a name that stands there may be declared
abbrev pub may_declare : NodeKind → ℕ → Bool
may_declare around slot = if states_names around slot then true else declares_names around slot

-- nothing is declared at a node of this kind that stands there
abbrev pub declares_nothing : NodeKind → NodeKind → ℕ → Bool
declares_nothing kind around slot = if is_name kind then not (may_declare around slot) else true

abbrev pub is_quiet_in : NodeKind → Place → Node → Bool
is_quiet_in kind p around = if is_late around.kind then false else declares_nothing kind around.kind p.slot

abbrev pub is_quiet_beside : Unit → NodeRef → Node → Place → Bool
is_quiet_beside u at node p = option_map_or (is_quiet_in node.kind p) (node_at u (place at.file p.around)) false

abbrev pub is_quiet_part : Unit → NodeRef → Node → Bool
is_quiet_part u at node = option_map_or (is_quiet_beside u at node) (place_at u at) false

-- no variable of a clause, no name that is declared, nothing that is tested late
abbrev pub is_quiet_object : Unit → NodeRef → Node → Bool
is_quiet_object u at node = if is_type_clause node.kind then false else is_quiet_part u at node

-- no name of a type
abbrev pub is_quiet_under : Unit → NodeRef → Bool
is_quiet_under u at = not (is_among at (defined u))

-- a list that is repeated declares nothing
abbrev pub is_quiet_own : ℕ → NodeRef → Bool → Bool
is_quiet_own block at rest = if block == at.file then rest else true

-- ---- items

abbrev pub is_quiet_stage : Stage → Unit → ℕ → NodeRef → Node → Bool
is_quiet_stage s.Before u block at node = is_quiet_before node
is_quiet_stage s.Wanted u block at node = false
is_quiet_stage s.Judged u block at node = false
is_quiet_stage s.Placed u block at node = false
is_quiet_stage s.Object u block at node = is_quiet_own block at (is_quiet_object u at node)
is_quiet_stage s.Under u block at node = is_quiet_own block at (is_quiet_under u at)

abbrev pub is_quiet_node : Unit → Item → NodeRef → Node → Bool
is_quiet_node u i at node = is_quiet_stage i.stage u i.block at node

abbrev pub is_quiet_at : Unit → Item → NodeRef → Bool
is_quiet_at u i at = option_map_or (is_quiet_node u i at) (node_at u at) true

abbrev pub is_quiet_nth : Unit → Item → ℕ → ℕ → Bool
is_quiet_nth u i file n = is_quiet_at u i (place file n)

abbrev pub is_quiet_in_file : Unit → Item → ℕ → Bool
is_quiet_in_file u i file = option_map_or (is_quiet_nth u i file) (number i.node) true

abbrev pub is_quiet_passage : Unit → Item → Passage → Bool
is_quiet_passage u i p = is_quiet_in_file u i p.file

-- its rule says nothing, without a look at any mark
abbrev pub is_quiet : Unit → Item → Bool
is_quiet u i = option_map_or (is_quiet_passage u i) (passage_at u i.block) true
