-- Assignments, short variable declarations, `++` and `--` (Go 1.17, "Assignments", "Short variable declarations", "IncDec statements").
use Rattle.std.specs.Prelude.{ℕ, zero, suc, ◌==◌, ◌&&◌, ◌||◌, Bool, true, false, not, if◌then◌else◌, is_some, List, Option, slice_get}
use Rattle.std.specs.Option.{option_map_or}
use Rattle.go_tree.specs.declared.tree.Node.{Node}
use Rattle.go_tree.specs.declared.tree.NodeKind.{NodeKind}
use Rattle.go_tree.specs.declared.tree.NodeKind.TheVariants as k
use Rattle.go_tree.specs.declared.tree.NodeRef.{NodeRef}
use Rattle.object_order.specs.Spots.{place}
use Rattle.package_objects.specs.Declares.{items, part}
use Rattle.mark_walk.specs.Asks.{done, bind}
use Rattle.type_model.specs.GoTypes.{GoType}
use Rattle.type_rel.specs.Kinds.{is_integer}
use Rattle.typed_tree.specs.declared.mark.Mode.{Mode}
use Rattle.typed_tree.specs.declared.mark.Mode.TheVariants as mode
use Rattle.typed_tree.specs.declared.place.Want.TheVariants as demand
use Rattle.typed_tree.specs.declared.rule.TheConstants.{OPERATOR_NOT_DEFINED, NO_NEW_VARIABLE, CANNOT_ASSIGN, WRONG_NUMBER_OF_OPERANDS}
use Rattle.typed_marks.specs.declared.item.Stage.TheVariants as s
use Rattle.typed_marks.specs.Meanings.{Known, Assigned, Meaning, Right, Wrong, Quiet}
use Rattle.unit_read.specs.declared.place.Place.{Place}
use Rattle.unit_read.specs.Units.{Unit, nodes_at, name_at, object_at, is_blank}
use Rattle.rule_words.specs.Asking.{Rule, mark_ask, under_ask}
use Rattle.rule_words.specs.Good.{known_told, given}
use Rattle.rule_words.specs.Words.{need_type}
use Rattle.rule_words.specs.Types.{is_of}
use Rattle.rule_words.specs.Wishes.{free_operand, nothing_wanted, wants}
use Rattle.variable_rules.specs.Forms.{name_count, value_count, shared_value}
use Rattle.variable_rules.specs.Several.{given_to}
use Rattle.assign_rules.specs.Around.{is_ignored}
use Rattle.assign_rules.specs.Selecting.{is_bad_case}
use Rattle.assign_rules.specs.Words.{holds, settled_if, placed_good, loose_operand}

-- ---- E72: "each left-hand side operand must be addressable, a map index expression, or (for = assignments only) the blank identifier"

-- what has an address stands for a variable
abbrev pub is_target_mode : Mode → Bool
is_target_mode mode.Variable = true
is_target_mode mode.MapIndex = true
is_target_mode _ = false

abbrev pub target_known : Known → Rule
target_known x = if is_target_mode x.mode then done (Right x) else done (Wrong CANNOT_ASSIGN)

-- The mark of an operand to which something is assigned. Of a blank nothing is tested: where one may not stand, it is marked itself.
abbrev pub target_rule : Unit → ℕ → ℕ → Meaning → Rule
target_rule u file n m = if is_ignored u file (nodes_at u file) n then holds else placed_good target_known m

-- ---- E8: "at least one of the non-blank variables is new"

abbrev pub is_used : Unit → ℕ → ℕ → Bool
is_used u file n = is_some (object_at u (place file n))

-- a name that its block has already is a use: it is assigned
abbrev pub is_new : Unit → ℕ → ℕ → Bool
is_new u file n = not (is_blank (name_at u (place file n))) && not (is_used u file n)

abbrev pub is_new_at : Unit → ℕ → Option ℕ → Bool
is_new_at u file o = option_map_or (is_new u file) o false

abbrev pub any_new : Unit → ℕ → List ℕ → ℕ → Bool
any_new u file list zero = false
any_new u file list (suc i) = any_new u file list i || is_new_at u file (slice_get list i)

-- one of the first so many names on the left
abbrev pub has_new : Unit → ℕ → List Node → Node → Bool
has_new u file nodes node = any_new u file (items nodes (part node 0)) (name_count nodes node)

-- ---- E73: as many values as operands; but for two or more operands of one call's results, and two of a value with its second

abbrev pub shared_mark : ℕ → Bool → Known → Rule
shared_mark count bad x = settled_if (is_some (given_to x count 0)) WRONG_NUMBER_OF_OPERANDS bad

-- nothing is said where the one value isn't good
abbrev pub shared_told : ℕ → Bool → Meaning → Rule
shared_told count bad m = given m (shared_mark count bad)

abbrev pub shared_rule : Unit → ℕ → ℕ → Bool → ℕ → Rule
shared_rule u block count bad n = bind (mark_ask u s.Placed block n) (shared_told count bad)

abbrev pub equal_rule : ℕ → ℕ → Bool → Rule
equal_rule names values bad = settled_if (names == values) WRONG_NUMBER_OF_OPERANDS bad

abbrev pub counted_rule : Unit → ℕ → ℕ → List Node → Node → Bool → Rule
counted_rule u block file nodes node bad =
    option_map_or (shared_rule u block (name_count nodes node) bad) (shared_value u file nodes 1 node) (equal_rule (name_count nodes node) (value_count nodes 1 node) bad)

-- `=`: E73, E86; each operand and each value is tested in its place
abbrev pub assign_rule : Unit → ℕ → NodeRef → Node → Rule
assign_rule u block at node = counted_rule u block at.file (nodes_at u at.file) node (is_bad_case u at node)

-- `:=`: E8, E73, E86
abbrev pub define_rule : Unit → ℕ → NodeRef → Node → Rule
define_rule u block at node = if has_new u at.file (nodes_at u at.file) node then assign_rule u block at node else done (Wrong NO_NEW_VARIABLE)

-- ---- `++`, `--`: E34, since "the operand" is a number; E86

abbrev pub counts_under : Bool → GoType → Rule
counts_under bad under = settled_if (is_of is_integer under) OPERATOR_NOT_DEFINED bad

abbrev pub counts_told : Bool → Option GoType → Rule
counts_told bad under = need_type under (counts_under bad)

abbrev pub counts_known : Unit → Bool → Known → Rule
counts_known u bad x = bind (under_ask u x.of) (counts_told bad)

abbrev pub counts_placed : Unit → Bool → Meaning → Rule
counts_placed u bad m = given m (counts_known u bad)

abbrev pub counts_part : Unit → ℕ → Bool → ℕ → Rule
counts_part u block bad n = bind (mark_ask u s.Placed block n) (counts_placed u bad)

abbrev pub step_rule : Unit → ℕ → NodeRef → Node → Rule
step_rule u block at node = option_map_or (counts_part u block (is_bad_case u at node)) (part node 0) (done Quiet)

-- ---- what the places of values want

-- the name is declared by `:=`; the operand is a blank: what is assigned has any type
abbrev pub takes_any : Unit → ℕ → List Node → NodeKind → ℕ → Bool
takes_any u file nodes k.Define n = not (is_used u file n)
takes_any u file nodes _ n = is_ignored u file nodes n

-- "In assignments, each value must be assignable to the type of the operand to which it is assigned"
abbrev pub target_wants : Known → Rule
target_wants x = wants demand.Operand (Assigned x.of)

abbrev pub target_told : Unit → ℕ → ℕ → Meaning → Rule
target_told u block n m = option_map_or target_wants (known_told m) (loose_operand u block n)

abbrev pub aimed_wants : Unit → ℕ → ℕ → ℕ → Rule
aimed_wants u block n t = bind (mark_ask u s.Placed block t) (target_told u block n)

abbrev pub value_for : Unit → ℕ → ℕ → List Node → NodeKind → ℕ → ℕ → Rule
value_for u block file nodes kind n t = if takes_any u file nodes kind t then free_operand else aimed_wants u block n t

abbrev pub value_beside : Unit → ℕ → ℕ → List Node → Node → ℕ → ℕ → Rule
value_beside u block file nodes around n i =
    option_map_or (value_for u block file nodes around.kind n) (slice_get (items nodes (part around 0)) i) (loose_operand u block n)

-- where the numbers differ no value belongs to an operand
abbrev pub uneven_wants : Unit → ℕ → NodeKind → ℕ → Rule
uneven_wants u block k.Define n = free_operand
uneven_wants u block _ n = loose_operand u block n

abbrev pub value_wants : Unit → ℕ → ℕ → List Node → Node → ℕ → ℕ → Rule
value_wants u block file nodes around i n =
    if name_count nodes around == value_count nodes 1 around then value_beside u block file nodes around n i else uneven_wants u block around.kind n

abbrev pub own_wants : Unit → ℕ → ℕ → List Node → Node → ℕ → Rule
own_wants u block file nodes around i =
    option_map_or (value_wants u block file nodes around i) (slice_get (items nodes (part around 1)) i) nothing_wanted

-- one value for all operands is looked at by the statement
abbrev pub right_wants : Unit → ℕ → ℕ → List Node → Node → ℕ → Rule
right_wants u block file nodes around i =
    if is_some (shared_value u file nodes 1 around) then nothing_wanted else own_wants u block file nodes around i

-- What the places in an assignment or a short variable declaration want.
abbrev pub assign_wants : Unit → ℕ → ℕ → Place → Node → Rule
assign_wants u block file p around = if p.slot == 1 then right_wants u block file (nodes_at u file) around p.index else nothing_wanted
