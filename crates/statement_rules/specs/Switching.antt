-- Expression switches (Go 1.17, "Expression switches", "Comparison operators").
use Rattle.std.specs.Prelude.{ℕ, zero, suc, ◌==◌, ◌||◌, not, Bool, false, if◌then◌else◌, List, Option, Some, None, option_and_then, slice_get}
use Rattle.std.specs.Option.{option_map_or}
use Rattle.gv_base.specs.declared.constant.Kind.TheVariants as kind
use Rattle.go_tree.specs.declared.tree.Node.{Node}
use Rattle.go_tree.specs.declared.tree.NodeRef.{NodeRef}
use Rattle.object_order.specs.Spots.{place}
use Rattle.package_objects.specs.Declares.{part, kind_at}
use Rattle.mark_walk.specs.Asks.{done, bind}
use Rattle.type_model.specs.GoTypes.{GoType, BasicType}
use Rattle.type_rel.specs.Kinds.{is_untyped}
use Rattle.typed_tree.specs.declared.place.Want.TheVariants as demand
use Rattle.typed_tree.specs.declared.rule.TheConstants.{MISMATCHED_OPERANDS, NOT_COMPARABLE, SECOND_DEFAULT}
use Rattle.typed_marks.specs.declared.item.Stage.TheVariants as s
use Rattle.typed_marks.specs.Meanings.{Known, Takes, Fits, Meaning, Right, Wrong, Quiet}
use Rattle.type_questions.specs.declared.reached.Reached.{Reached}
use Rattle.type_answers.specs.Asked.{compared_ask, comparable_ask, need_told}
use Rattle.unit_read.specs.declared.place.Place.{Place}
use Rattle.unit_read.specs.Units.{Unit, nodes_at, place_at}
use Rattle.rule_words.specs.Asking.{Asks, Rule, mark_ask, under_ask}
use Rattle.rule_words.specs.Good.{known_told}
use Rattle.rule_words.specs.Words.{need_type}
use Rattle.rule_words.specs.Types.{is_interface, is_of, takes_default}
use Rattle.rule_words.specs.Values.{assigned_type}
use Rattle.rule_words.specs.Wishes.{wants}
use Rattle.assign_rules.specs.Around.{around_of}
use Rattle.assign_rules.specs.Kinds.{tag_of, is_default}
use Rattle.assign_rules.specs.Single.{value_fault, unless, fitting}
use Rattle.assign_rules.specs.Words.{held_if, placed_good, loose_operand}

-- ---- E85: "there can be at most one default case"

abbrev pub is_default_at : List Node → Node → ℕ → Bool
is_default_at nodes around i = option_map_or (λ n. is_default (kind_at nodes n)) (part around i) false

abbrev pub any_before : List Node → Node → ℕ → Bool
any_before nodes around zero = false
any_before nodes around (suc i) = is_default_at nodes around i || any_before nodes around i

abbrev pub default_in : ℕ → List Node → Node → Rule
default_in slot nodes around = held_if (not (any_before nodes around slot)) SECOND_DEFAULT

abbrev pub default_by : Unit → ℕ → Place → Rule
default_by u file p = option_map_or (default_in p.slot (nodes_at u file)) (slice_get (nodes_at u file) p.around) (done Quiet)

-- The rule of a default clause.
abbrev pub default_rule : Unit → NodeRef → Rule
default_rule u at = option_map_or (default_by u at.file) (place_at u at) (done Quiet)

-- ---- the tag: "If the switch expression evaluates to an untyped constant, it is first implicitly converted to its default type"; "A missing switch expression
-- is equivalent to the boolean value true"

abbrev pub truth : GoType
truth = BasicType kind.Bool

-- the type against which the values of clauses are compared; None where it isn't known
abbrev pub tag_told : Meaning → Asks (Option GoType)
tag_told m = done (option_map_or (λ (y : Known). Some y.last) (known_told m) None)

abbrev pub tag_mark : Unit → ℕ → ℕ → Asks (Option GoType)
tag_mark u block n = bind (mark_ask u s.Placed block n) tag_told

abbrev pub tag_in : Unit → ℕ → ℕ → Node → Asks (Option GoType)
tag_in u block file switch = option_map_or (tag_mark u block) (tag_of u file (nodes_at u file) switch) (done (Some truth))

abbrev pub switch_around : Unit → ℕ → ℕ → Option Node
switch_around u file clause = option_and_then (slice_get (nodes_at u file)) (around_of u (place file clause))

-- of the switch in which a clause stands
unfoldable pub tag_ask : Unit → ℕ → ℕ → ℕ → Asks (Option GoType)
tag_ask u block file clause = option_map_or (tag_in u block file) (switch_around u file clause) (done None)

-- ---- what the places of the values of a clause want: they are compared with the tag

-- beside an interface an untyped constant takes its default type, in which it is representable
abbrev pub case_wish : GoType → Option GoType → Rule
case_wish tag under = wants demand.Operand (if takes_default under then Fits tag else Takes tag)

abbrev pub case_against : Unit → GoType → Rule
case_against u tag = bind (under_ask u tag) (case_wish tag)

abbrev pub case_told : Unit → ℕ → ℕ → Option GoType → Rule
case_told u block n o = option_map_or (case_against u) o (loose_operand u block n)

abbrev pub case_wants : Unit → ℕ → ℕ → ℕ → ℕ → Rule
case_wants u block file clause n = bind (tag_ask u block file clause) (case_told u block n)

-- ---- E33, E35: "x == t must be valid"

-- E35: both are comparable
abbrev pub second_if : Known → Bool → Rule
second_if x b = if b then done (Right x) else done (Wrong NOT_COMPARABLE)

abbrev pub second_told : Known → Reached Bool → Rule
second_told x told = need_told told (second_if x)

abbrev pub second_compared : Known → GoType → Rule
second_compared x tag = bind (comparable_ask tag) (second_told x)

abbrev pub first_if : Known → GoType → Bool → Rule
first_if x tag b = if b then second_compared x tag else done (Wrong NOT_COMPARABLE)

abbrev pub first_told : Known → GoType → Reached Bool → Rule
first_told x tag told = need_told told (first_if x tag)

unfoldable pub both_compared : Known → GoType → Rule
both_compared x tag = bind (comparable_ask (assigned_type x)) (first_told x tag)

-- nil and untyped constants are compared with what they are assignable to
abbrev pub compared : Known → GoType → Rule
compared x tag = if is_of is_untyped x.of then done (Right x) else both_compared x tag

-- E33: "the first operand must be assignable to the type of the second operand, or vice versa"
abbrev pub other_if : Known → GoType → Bool → Rule
other_if x tag b = if b then compared x tag else done (Wrong MISMATCHED_OPERANDS)

abbrev pub other_told : Known → GoType → Reached Bool → Rule
other_told x tag told = need_told told (other_if x tag)

abbrev pub other_under : Known → GoType → Option GoType → Rule
other_under x tag under = bind (compared_ask (takes_default under) tag None x.of) (other_told x tag)

abbrev pub other_way : Unit → Known → GoType → Rule
other_way u x tag = bind (under_ask u x.of) (other_under x tag)

abbrev pub untyped_or : Unit → Known → GoType → Rule
untyped_or u x tag = if is_of is_untyped x.of then done (Wrong MISMATCHED_OPERANDS) else other_way u x tag

abbrev pub one_if : Unit → Known → GoType → Bool → Rule
one_if u x tag b = if b then compared x tag else untyped_or u x tag

abbrev pub one_told : Unit → Known → GoType → Reached Bool → Rule
one_told u x tag told = need_told told (one_if u x tag)

abbrev pub against_under : Unit → Known → GoType → GoType → Rule
against_under u x tag under = bind (compared_ask (is_interface under) (assigned_type x) x.value tag) (one_told u x tag)

abbrev pub against_told : Unit → Known → GoType → Option GoType → Rule
against_told u x tag under = need_type under (against_under u x tag)

unfoldable pub against : Unit → Known → GoType → Rule
against u x tag = bind (under_ask u tag) (against_told u x tag)

-- E30 of an untyped constant beside an interface, whose default type it takes
abbrev pub fitted : Unit → Known → GoType → Option GoType → Rule
fitted u x tag under = if takes_default under then fitting x (against u x tag) else against u x tag

abbrev pub case_fitted : Unit → Known → GoType → Rule
case_fitted u x tag = bind (under_ask u tag) (fitted u x tag)

abbrev pub case_by : Unit → Known → Option GoType → Rule
case_by u x o = option_map_or (case_fitted u x) o (done (Right x))

abbrev pub case_single : Unit → ℕ → ℕ → ℕ → Known → Rule
case_single u block file clause x = bind (tag_ask u block file clause) (case_by u x)

-- E24, E25, E30, E33, E35
abbrev pub case_known : Unit → ℕ → ℕ → ℕ → Known → Rule
case_known u block file clause x = unless (value_fault x.mode) (case_single u block file clause x)

-- The mark of a value of a clause, from its own mark. E81, a constant that stands twice, is told once all are marked.
abbrev pub case_rule : Unit → ℕ → ℕ → ℕ → Meaning → Rule
case_rule u block file clause m = placed_good (case_known u block file clause) m
