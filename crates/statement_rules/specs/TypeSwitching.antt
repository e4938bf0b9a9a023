-- Type switches (Go 1.17, "Type switches", "Type assertions").
use Rattle.std.specs.Prelude.{ℕ, Bool, true, false, if◌then◌else◌, List, Option, Some, None, option_and_then, slice_get}
use Rattle.std.specs.Option.{option_map_or}
use Rattle.go_tree.specs.declared.tree.Node.{Node}
use Rattle.go_tree.specs.declared.tree.NodeKind.{NodeKind}
use Rattle.go_tree.specs.declared.tree.NodeKind.TheVariants as k
use Rattle.go_tree.specs.declared.tree.NodeRef.{NodeRef}
use Rattle.object_order.specs.Spots.{place}
use Rattle.package_objects.specs.Declares.{part, kind_at}
use Rattle.mark_walk.specs.Asks.{done, bind}
use Rattle.type_model.specs.GoTypes.{GoType}
use Rattle.type_rel.specs.declared.answer.Implements.{Implements}
use Rattle.type_rel.specs.declared.answer.Implements.TheVariants.{Yes, Missing}
use Rattle.typed_tree.specs.declared.place.Want.TheVariants as demand
use Rattle.typed_tree.specs.declared.rule.TheConstants.{NOT_A_TYPE, NO_NEW_VARIABLE, NOT_AN_INTERFACE, IMPOSSIBLE_TYPE}
use Rattle.typed_marks.specs.declared.item.Stage.TheVariants as s
use Rattle.typed_marks.specs.Meanings.{Known, Free, Meaning, Right, Wrong, Quiet}
use Rattle.type_questions.specs.declared.reached.Reached.{Reached}
use Rattle.type_answers.specs.Asked.{implements_ask, need_told}
use Rattle.unit_read.specs.Units.{Unit, nodes_at, name_at, is_blank}
use Rattle.rule_words.specs.Asking.{Rule, mark_ask, under_ask}
use Rattle.rule_words.specs.Good.{known_told, given}
use Rattle.rule_words.specs.Words.{need_type}
use Rattle.rule_words.specs.Types.{is_interface}
use Rattle.rule_words.specs.Wishes.{nothing_wanted, wants}
use Rattle.typed_tree.specs.Places.{is_nil_mode, is_type}
use Rattle.assign_rules.specs.Around.{around_of}
use Rattle.assign_rules.specs.Kinds.{guard_of, part_kind, is_bind, is_type_list}
use Rattle.assign_rules.specs.Words.{held_if, placed_good, variable}

-- ---- the statement

-- the node of the name that the guard declares
abbrev pub bound_of : Node → Option ℕ
bound_of bind = if is_bind bind.kind then part bind 0 else None

abbrev pub bound_name : List Node → Node → Option ℕ
bound_name nodes switch = option_and_then bound_of (option_and_then (slice_get nodes) (guard_of nodes switch))

-- E8: the name is a blank
abbrev pub binds_blank : Unit → ℕ → List Node → Node → Bool
binds_blank u file nodes switch = option_map_or (λ n. is_blank (name_at u (place file n))) (bound_name nodes switch) false

-- E46: "the operand of a type switch guard must be of interface type"
abbrev pub guarded_under : GoType → Rule
guarded_under under = held_if (is_interface under) NOT_AN_INTERFACE

abbrev pub guarded_told : Option GoType → Rule
guarded_told under = need_type under guarded_under

abbrev pub guarded_known : Unit → Known → Rule
guarded_known u x = bind (under_ask u x.last) guarded_told

abbrev pub guarded_placed : Unit → Meaning → Rule
guarded_placed u m = given m (guarded_known u)

abbrev pub guarded_part : Unit → ℕ → ℕ → Rule
guarded_part u block n = bind (mark_ask u s.Placed block n) (guarded_placed u)

abbrev pub guarded_rule : Unit → ℕ → List Node → Node → Rule
guarded_rule u block nodes node = option_map_or (guarded_part u block) (guard_of nodes node) (done Quiet)

-- The rule of a type switch: E8, E46.
abbrev pub type_switch_rule : Unit → ℕ → ℕ → Node → Rule
type_switch_rule u block file node =
    if binds_blank u file (nodes_at u file) node then done (Wrong NO_NEW_VARIABLE) else guarded_rule u block (nodes_at u file) node

-- ---- the types of clauses

-- the clause in which a type stands that has this node around it: a list of types is a node of its own
abbrev pub clause_around : Unit → ℕ → ℕ → Option ℕ
clause_around u file around = if is_type_list (kind_at (nodes_at u file) around) then around_of u (place file around) else Some around

abbrev pub switch_node : Unit → ℕ → ℕ → Option Node
switch_node u file clause = option_and_then (slice_get (nodes_at u file)) (around_of u (place file clause))

abbrev pub guard_in : Unit → ℕ → Node → Option ℕ
guard_in u file switch = guard_of (nodes_at u file) switch

-- what the type switch of a clause switches on
unfoldable pub guard_around : Unit → ℕ → ℕ → Option ℕ
guard_around u file clause = option_and_then (guard_in u file) (switch_node u file clause)

-- E47: a type that is no interface "must implement the type of x"
abbrev pub implemented : Known → Implements → Rule
implemented x Yes = done (Right x)
implemented x (Missing name) = done (Wrong IMPOSSIBLE_TYPE)

abbrev pub implements_told : Known → Reached Implements → Rule
implements_told x told = need_told told (implemented x)

abbrev pub implements_rule : Known → GoType → Rule
implements_rule x interface = bind (implements_ask x.of interface) (implements_told x)

abbrev pub type_under : Known → GoType → GoType → Rule
type_under x interface under = if is_interface under then done (Right x) else implements_rule x interface

abbrev pub type_told : Known → GoType → Option GoType → Rule
type_told x interface under = need_type under (type_under x interface)

abbrev pub type_against : Unit → Known → GoType → Rule
type_against u x interface = bind (under_ask u x.of) (type_told x interface)

-- nothing is tested against an operand that isn't known to be of an interface type
abbrev pub guard_under : Unit → Known → GoType → Rule
guard_under u x under = if is_interface under then type_against u x under else done (Right x)

abbrev pub guard_told : Unit → Known → Option GoType → Rule
guard_told u x under = option_map_or (guard_under u x) under (done (Right x))

abbrev pub guard_known : Unit → Known → Known → Rule
guard_known u x y = bind (under_ask u y.last) (guard_told u x)

abbrev pub guard_placed : Unit → Known → Meaning → Rule
guard_placed u x m = option_map_or (guard_known u x) (known_told m) (done (Right x))

abbrev pub guard_part : Unit → ℕ → Known → ℕ → Rule
guard_part u block x n = bind (mark_ask u s.Placed block n) (guard_placed u x)

abbrev pub type_beside : Unit → ℕ → ℕ → ℕ → Known → Rule
type_beside u block file clause x = option_map_or (guard_part u block x) (guard_around u file clause) (done (Right x))

-- "the predeclared identifier nil" may stand for a type: E10 of another value
abbrev pub value_or : Known → Rule
value_or x = if is_nil_mode x.mode then done (Right x) else done (Wrong NOT_A_TYPE)

abbrev pub type_known : Unit → ℕ → ℕ → ℕ → Known → Rule
type_known u block file clause x = if is_type x.mode then type_beside u block file clause x else value_or x

abbrev pub type_in_clause : Unit → ℕ → ℕ → Meaning → ℕ → Rule
type_in_clause u block file m clause = placed_good (type_known u block file clause) m

-- The mark of a type of a clause, from its own mark and from what is around it. E81, a type that stands twice, is told once all are marked.
abbrev pub case_type_rule : Unit → ℕ → ℕ → ℕ → Meaning → Rule
case_type_rule u block file around m = option_map_or (type_in_clause u block file m) (clause_around u file around) (done Quiet)

-- ---- places

abbrev pub type_wants : List Node → Node → ℕ → Rule
type_wants nodes around slot = if is_type_list (part_kind nodes around slot) then nothing_wanted else wants demand.Case Free

-- ---- the variable of each clause: "the variable has the type" of a clause with exactly one type, else that of the operand

abbrev pub is_type_case : NodeKind → Bool
is_type_case k.TypeCase = true
is_type_case _ = false

abbrev pub only_type : List Node → Node → Option ℕ
only_type nodes clause = if is_type_list (part_kind nodes clause 0) then None else part clause 0

-- the only type of a clause
abbrev pub single_type : List Node → Node → Option ℕ
single_type nodes clause = if is_type_case clause.kind then only_type nodes clause else None

-- of nil the variable has the operand's type
abbrev pub clause_typed : Known → Known → Rule
clause_typed x t = if is_nil_mode t.mode then done (variable x.of) else done (variable t.of)

abbrev pub clause_told : Known → Meaning → Rule
clause_told x m = given m (clause_typed x)

abbrev pub clause_type : Unit → ℕ → Known → ℕ → Rule
clause_type u file x t = bind (mark_ask u s.Placed file t) (clause_told x)

abbrev pub clause_known : Unit → ℕ → Node → Known → Rule
clause_known u file clause x = option_map_or (clause_type u file x) (single_type (nodes_at u file) clause) (done (variable x.of))

-- nothing is said of it where nothing is of the name
abbrev pub clause_named : Unit → ℕ → Node → Meaning → Rule
clause_named u file clause m = given m (clause_known u file clause)

abbrev pub clause_by : Unit → ℕ → Node → ℕ → Rule
clause_by u file clause name = bind (mark_ask u s.Object file name) (clause_named u file clause)

abbrev pub clause_in : Unit → ℕ → Node → Node → Rule
clause_in u file clause switch = option_map_or (clause_by u file clause) (bound_name (nodes_at u file) switch) (done Quiet)

-- The variable that a clause of a type switch declares: the object of the clause. What the name itself stands for is in no clause.
abbrev pub clause_object : Unit → NodeRef → Node → Rule
clause_object u at clause = option_map_or (clause_in u at.file clause) (switch_node u at.file at.node) (done Quiet)
