-- The rule of each item of a package, by its stage.
use Rattle.std.specs.Prelude.{ℕ, Bool, true, false, ◌==◌, nat_lt, if◌then◌else◌, List, Option, Some, None, option_and_then}
use Rattle.std.specs.Option.{option_map_or}
use Rattle.go_tree.specs.declared.tree.Node.{Node}
use Rattle.go_tree.specs.declared.tree.NodeKind.{NodeKind}
use Rattle.go_tree.specs.declared.tree.NodeKind.TheVariants as k
use Rattle.go_tree.specs.declared.tree.NodeRef.{NodeRef}
use Rattle.object_order.specs.Spots.{place}
use Rattle.mark_walk.specs.Asks.{done, bind}
use Rattle.typed_tree.specs.declared.place.Want.TheVariants as demand
use Rattle.typed_marks.specs.declared.item.Item.{Item}
use Rattle.typed_marks.specs.declared.item.Stage.{Stage}
use Rattle.typed_marks.specs.declared.item.Stage.TheVariants as s
use Rattle.typed_tree.specs.declared.rule.TheConstants.{NOT_A_TYPE}
use Rattle.typed_marks.specs.Meanings.{Known, Meaning, Free, Right, Wrong, Beyond, Quiet, Wishes, Declares}
use Rattle.unit_read.specs.declared.passage.Passage.{Passage}
use Rattle.unit_read.specs.declared.place.Place.{Place}
use Rattle.unit_read.specs.Units.{Unit, nodes_at, node_at, place_at, passage_at}
use Rattle.rule_words.specs.Asking.{Asks, Rule, mark_ask, parts_ask}
use Rattle.rule_words.specs.Parts.{Part}
use Rattle.rule_words.specs.Words.{Wanted, wanted_in, nothing}
use Rattle.op_rules.specs.Placed.{placed_rule}
use Rattle.call_rules.specs.Passing.{is_passed, passed_rule}
use Rattle.literal_rules.specs.Keys.{key_role}
use Rattle.literal_rules.specs.declared.keys.KeyRole.{KeyRole}
use Rattle.literal_rules.specs.declared.keys.KeyRole.TheVariants as key
use Rattle.variable_rules.specs.Sharing.{is_shared, shared_placed}
use Rattle.statement_rules.specs.declared.placing.Placing.{Placing as StatementPlacing}
use Rattle.statement_rules.specs.Placing.{placed_by}
use Rattle.statement_rules.specs.TypeSwitching.{clause_object}
use Rattle.type_rules.specs.Joining.{element_rule}
use Rattle.decl_rules.specs.Objects.{object_rule}
use Rattle.decl_rules.specs.Specifications.{declared_name_rule}
use Rattle.decl_rules.specs.Under.{under_rule}
use Rattle.go_rules.specs.declared.role.Placing.{Placing}
use Rattle.go_rules.specs.declared.role.Placing.TheVariants as pl
use Rattle.go_rules.specs.declared.role.Role.{Role}
use Rattle.go_rules.specs.declared.role.Role.TheVariants as r
use Rattle.go_rules.specs.Families.{family, is_expression, node_reads, rule_by, wants_by}
use Rattle.go_rules.specs.Own.{is_own_type}
use Rattle.go_rules.specs.Roles.{role_at, clause_for, placing_at}
use Rattle.go_rules.specs.Statements.{switched_rule, declared_object, is_type_clause}

-- ---- a node by its parts, and by what is wanted of it

abbrev pub from_parts : Unit → ℕ → NodeRef → Node → Wanted → List Part → Rule
from_parts u block at node w ps = rule_by (family node.kind) u block at node ps w

-- the parts, as they are read at this stage
abbrev pub parts_read : Unit → Stage → ℕ → NodeRef → Node → Asks (List Part)
parts_read u stage block at node = parts_ask u stage block (node_reads (nodes_at u at.file) node)

abbrev pub with_parts : Unit → Stage → ℕ → NodeRef → Node → Wanted → Rule
with_parts u stage block at node w = bind (parts_read u stage block at node) (from_parts u block at node w)

-- ---- before anything is wanted of it

abbrev pub nothing_wanted : Wanted
nothing_wanted = record { demand = demand.Nothing; wish = Free }

-- an expression or a type, over its parts by themselves
abbrev pub before_plain : Unit → ℕ → NodeRef → Node → Rule
before_plain u block at node = if is_expression (family node.kind) then with_parts u s.Before block at node nothing_wanted else done Quiet

abbrev pub before_in : Unit → ℕ → NodeRef → Node → Rule
before_in u block at node = option_map_or (switched_rule u at.file) (clause_for u at node) (before_plain u block at node)

abbrev pub before_as : Role → Unit → ℕ → NodeRef → Node → Rule
before_as r.Part u block at node = before_in u block at node
before_as r.Key u block at node = done Quiet
before_as r.Declared u block at node = done Quiet
before_as r.Blank u block at node = done Quiet
before_as r.Untold u block at node = done Quiet

-- ---- with what its place wants

-- E10 of a name that leads back to itself
abbrev pub judged_wanting : Unit → ℕ → NodeRef → Node → Wanted → Rule
judged_wanting u block at node w = if is_own_type u at node w then done (Wrong NOT_A_TYPE) else with_parts u s.Placed block at node w

abbrev pub judged_with : Unit → ℕ → NodeRef → Node → Meaning → Rule
judged_with u block at node m = judged_wanting u block at node (wanted_in m)

abbrev pub judged_plain : Unit → ℕ → NodeRef → Node → Rule
judged_plain u block at node = bind (mark_ask u s.Wanted block at.node) (judged_with u block at node)

abbrev pub judged_in : Unit → ℕ → NodeRef → Node → Rule
judged_in u block at node = option_map_or (switched_rule u at.file) (clause_for u at node) (judged_plain u block at node)

-- The name of a field is no expression; where the type of the literal isn't known, nothing is said of a name before a colon.
abbrev pub judged_key : Unit → ℕ → NodeRef → Node → KeyRole → Rule
judged_key u block at node key.Field = done nothing
judged_key u block at node key.Use = judged_in u block at node
judged_key u block at node key.Unknown = done Quiet

abbrev pub key_judged : Unit → ℕ → NodeRef → Node → Rule
key_judged u block at node = bind (key_role u block at) (judged_key u block at node)

-- E14 of a name that is declared. Nothing reads the mark of such a name, so a rule of it is late. A blank to which something is assigned has no value.
abbrev pub judged_as : Role → Unit → ℕ → NodeRef → Node → Rule
judged_as r.Part u block at node = judged_in u block at node
judged_as r.Key u block at node = key_judged u block at node
judged_as r.Declared u block at node = declared_name_rule u at
judged_as r.Blank u block at node = done nothing
judged_as r.Untold u block at node = done Quiet

-- ---- in its place

abbrev pub placed_with : Unit → Meaning → Meaning → Rule
placed_with u j m = placed_rule u (wanted_in m) j

-- what is wanted there is tested
abbrev pub placed_plain : Unit → ℕ → NodeRef → Meaning → Rule
placed_plain u block at j = bind (mark_ask u s.Wanted block at.node) (placed_with u j)

-- An interface embeds types, E10; of these interfaces alone, E15, whose methods agree with those of its other elements, E14.
abbrev pub type_wanted : Wanted
type_wanted = record { demand = demand.Type; wish = Free }

abbrev pub placed_embedded : Unit → ℕ → NodeRef → Place → Node → Meaning → Rule
placed_embedded u block at p around j = bind (placed_rule u type_wanted j) (element_rule u block at.file around p.slot)

-- E24, E25, E32: the results of a call may be the arguments of another
abbrev pub placed_argument : Unit → ℕ → NodeRef → Place → Node → Meaning → Rule
placed_argument u block at p around j = if is_passed around p.slot j then passed_rule u block around j else placed_plain u block at j

-- E32: one value may stand for several variables of a type that is written
abbrev pub placed_shared : Unit → ℕ → NodeRef → Place → Node → Meaning → Rule
placed_shared u block at p around j = if is_shared u block p around then shared_placed u block (nodes_at u at.file) around j else placed_plain u block at j

abbrev pub stated_good : Unit → ℕ → NodeRef → Place → Node → StatementPlacing → Known → Rule
stated_good u block at p around placing x = placed_by u block at.file p around at.node (Right x) placing

-- What a statement makes of it. What isn't good stays: a blank is one only where it isn't dropped.
abbrev pub placed_stated : Unit → ℕ → NodeRef → Place → Node → Meaning → StatementPlacing → Rule
placed_stated u block at p around (Right x) placing = stated_good u block at p around placing x
placed_stated u block at p around (Wrong rule) _ = done (Wrong rule)
placed_stated u block at p around (Beyond limit) _ = done (Beyond limit)
placed_stated u block at p around Quiet _ = done Quiet
placed_stated u block at p around (Wishes demand wish) _ = done Quiet
placed_stated u block at p around (Declares d) _ = done Quiet

-- what is around a body wants nothing of it
abbrev pub placed_body : Unit → Meaning → Rule
placed_body u j = placed_rule u nothing_wanted j

abbrev pub placed_as : Placing → Unit → ℕ → NodeRef → Place → Node → Meaning → Rule
placed_as pl.Plain u block at p around j = placed_plain u block at j
placed_as pl.Embedded u block at p around j = placed_embedded u block at p around j
placed_as pl.Argument u block at p around j = placed_argument u block at p around j
placed_as pl.Shared u block at p around j = placed_shared u block at p around j
placed_as pl.Body u block at p around j = placed_body u j
placed_as (pl.Stated placing) u block at p around j = placed_stated u block at p around j placing

abbrev pub placed_beside : Unit → ℕ → NodeRef → Node → Meaning → Place → Node → Rule
placed_beside u block at node j p around = placed_as (placing_at u at node p around) u block at p around j

abbrev pub placed_at : Unit → ℕ → NodeRef → Node → Meaning → Place → Rule
placed_at u block at node j p = option_map_or (placed_beside u block at node j p) (node_at u (place at.file p.around)) (placed_plain u block at j)

abbrev pub placed_after : Unit → ℕ → NodeRef → Node → Meaning → Rule
placed_after u block at node j = option_map_or (placed_at u block at node j) (place_at u at) (placed_plain u block at j)

abbrev pub placed_in : Unit → ℕ → NodeRef → Node → Rule
placed_in u block at node = bind (mark_ask u s.Judged block at.node) (placed_after u block at node)

-- ---- what its place wants

abbrev pub wish_of : Wanted → Meaning
wish_of w = Wishes w.demand w.wish

abbrev pub wished : Meaning → Rule
wished m = done (wish_of (wanted_in m))

abbrev pub wants_in : Unit → ℕ → Place → Node → Rule
wants_in u block p around = wants_by (family around.kind) u block p around

abbrev pub wants_of : Unit → ℕ → Place → Node → Rule
wants_of u block p around = bind (wants_in u block p around) wished

abbrev pub wants_at : Unit → ℕ → NodeRef → Place → Rule
wants_at u block at p = option_map_or (wants_of u block p) (node_at u (place at.file p.around)) (done Quiet)

abbrev pub wanted_rule : Unit → ℕ → NodeRef → Rule
wanted_rule u block at = option_map_or (wants_at u block at) (place_at u at) (done Quiet)

-- ---- what is declared at it

-- a part of these is tested late
abbrev pub is_late : NodeKind → Bool
is_late k.MapType = true
is_late k.StructType = true
is_late _ = false

abbrev pub object_beside : Unit → NodeRef → Node → Rule
object_beside u at around = if is_late around.kind then object_rule u at else done Quiet

abbrev pub object_in_place : Unit → NodeRef → Place → Rule
object_in_place u at p = option_map_or (object_beside u at) (node_at u (place at.file p.around)) (done Quiet)

abbrev pub object_of_part : Unit → NodeRef → Rule
object_of_part u at = option_map_or (object_in_place u at) (place_at u at) (done Quiet)

-- of a clause its variable
abbrev pub object_of : Unit → NodeRef → Node → Rule
object_of u at node = if is_type_clause node.kind then clause_object u at node else object_of_part u at

-- of a name that is declared the object; of another node what is tested late
abbrev pub object_as : Role → Unit → NodeRef → Node → Rule
object_as r.Part u at node = object_of u at node
object_as r.Key u at node = done Quiet
object_as r.Declared u at node = declared_object u at
object_as r.Blank u at node = done Quiet
object_as r.Untold u at node = done Quiet

-- A list that is repeated declares nothing: what is declared is told in the block of its file.
abbrev pub in_own : ℕ → NodeRef → Rule → Rule
in_own block at rest = if block == at.file then rest else done Quiet

-- ---- items

abbrev pub stage_rule : Stage → Unit → ℕ → NodeRef → Node → Rule
stage_rule s.Before u block at node = before_as (role_at u at node) u block at node
stage_rule s.Wanted u block at node = wanted_rule u block at
stage_rule s.Judged u block at node = judged_as (role_at u at node) u block at node
stage_rule s.Placed u block at node = placed_in u block at node
stage_rule s.Object u block at node = in_own block at (object_as (role_at u at node) u at node)
stage_rule s.Under u block at node = in_own block at (under_rule u at)

abbrev pub node_rule : Unit → Item → NodeRef → Node → Rule
node_rule u i at node = stage_rule i.stage u i.block at node

abbrev pub at_node : Unit → Item → NodeRef → Rule
at_node u i at = option_map_or (node_rule u i at) (node_at u at) (done Quiet)

-- nodes have numbers below 2^32
abbrev pub number : ℕ → Option ℕ
number n = if nat_lt n 4294967296 then Some n else None

abbrev pub nth_rule : Unit → Item → ℕ → ℕ → Rule
nth_rule u i file n = at_node u i (place file n)

abbrev pub in_file : Unit → Item → ℕ → Rule
in_file u i file = option_map_or (nth_rule u i file) (number i.node) (done Quiet)

abbrev pub file_rule : Unit → Item → Passage → Rule
file_rule u i p = in_file u i p.file

-- The rule of an item.
abbrev pub rule : Unit → Item → Rule
rule u i = option_map_or (file_rule u i) (passage_at u i.block) (done Quiet)
