-- One value that gives several: each is assigned (Go 1.17, "Assignments": "a tuple assignment assigns the individual elements of a multi-valued operation to a list
-- of variables"; "Return statements").
use Rattle.std.specs.Prelude.{ℕ, ◌+◌, ◌==◌, Bool, true, false, if◌then◌else◌, is_some, List, [], ◌∷◌, Option, None, option_map}
use Rattle.std.specs.Option.{option_map_or}
use Rattle.gv_base.specs.declared.constant.Kind.TheVariants as kind
use Rattle.go_tree.specs.declared.tree.Node.{Node}
use Rattle.go_tree.specs.declared.tree.NodeKind.{NodeKind}
use Rattle.package_objects.specs.Declares.{items, part}
use Rattle.mark_walk.specs.Asks.{done, bind}
use Rattle.type_model.specs.GoTypes.{GoType, BasicType}
use Rattle.typed_tree.specs.declared.mark.Mode.{Mode}
use Rattle.typed_tree.specs.declared.mark.Mode.TheVariants as mode
use Rattle.typed_tree.specs.declared.rule.TheConstants.{NOT_ASSIGNABLE}
use Rattle.typed_marks.specs.declared.item.Stage.TheVariants as s
use Rattle.typed_marks.specs.Meanings.{Known, Meaning, Right, Wrong}
use Rattle.type_questions.specs.declared.reached.Reached.{Reached}
use Rattle.type_questions.specs.declared.reached.Reached.TheVariants.{Got, Lost}
use Rattle.type_answers.specs.Asked.{assignable_ask, need_told}
use Rattle.unit_read.specs.Units.{Unit}
use Rattle.rule_words.specs.Asking.{Asks, Rule, mark_ask, under_ask}
use Rattle.rule_words.specs.Good.{known_told}
use Rattle.rule_words.specs.Types.{takes_default}
use Rattle.variable_rules.specs.Forms.{name_count}
use Rattle.variable_rules.specs.Several.{given_to}
use Rattle.assign_rules.specs.Assigning.{takes_any}
use Rattle.assign_rules.specs.Words.{placed_good}

-- ---- what is given

-- whether there is a value is an untyped boolean: it is assigned to any boolean type
abbrev pub given_as : Mode → ℕ → GoType → GoType
given_as mode.Many i of = of
given_as _ i of = if i == 1 then BasicType kind.UntypedBool else of

-- the type of the value at a place, of so many; None where it doesn't give so many
abbrev pub given_type : Known → ℕ → ℕ → Option GoType
given_type x count i = option_map (given_as x.mode i) (given_to x count i)

-- ---- to a type

abbrev pub assigned_in : GoType → GoType → Option GoType → Asks (Reached Bool)
assigned_in of to under = assignable_ask (takes_default under) of None to

unfoldable pub type_assigned : Unit → GoType → GoType → Asks (Reached Bool)
type_assigned u of to = bind (under_ask u to) (assigned_in of to)

-- one and then the others, one after the other until one isn't assignable
abbrev pub then_others : Asks (Reached Bool) → Reached Bool → Asks (Reached Bool)
then_others rest (Got b) = if b then rest else done (Got false)
then_others rest Lost = done Lost

-- of each of a list, with its place, from a place on
abbrev pub all_from : {X : Type 0} → (X → ℕ → Asks (Reached Bool)) → List X → ℕ → Asks (Reached Bool)
all_from f [] i = done (Got true)
all_from f (x ∷ xs) i = bind (f x i) (then_others (all_from f xs (i + 1)))

-- ---- to the operands on the left of an assignment

abbrev pub known_assigned : Unit → GoType → Known → Asks (Reached Bool)
known_assigned u of t = type_assigned u of t.of

-- nothing is tested beside an operand that isn't good
abbrev pub target_assigned : Unit → GoType → Meaning → Asks (Reached Bool)
target_assigned u of m = option_map_or (known_assigned u of) (known_told m) (done (Got true))

abbrev pub aimed_assigned : Unit → ℕ → GoType → ℕ → Asks (Reached Bool)
aimed_assigned u block of t = bind (mark_ask u s.Placed block t) (target_assigned u of)

unfoldable pub one_assigned : Unit → ℕ → ℕ → List Node → NodeKind → ℕ → GoType → Asks (Reached Bool)
one_assigned u block file nodes kind t of = if takes_any u file nodes kind t then done (Got true) else aimed_assigned u block of t

abbrev pub nth_assigned : Unit → ℕ → ℕ → List Node → NodeKind → Known → ℕ → ℕ → ℕ → Asks (Reached Bool)
nth_assigned u block file nodes kind x count t i = option_map_or (one_assigned u block file nodes kind t) (given_type x count i) (done (Got true))

-- from the operand at a place on
abbrev pub all_assigned : Unit → ℕ → ℕ → List Node → NodeKind → Known → ℕ → List ℕ → ℕ → Asks (Reached Bool)
all_assigned u block file nodes kind x count targets i = all_from (nth_assigned u block file nodes kind x count) targets i

-- ---- to results

abbrev pub nth_returned : Unit → Known → ℕ → GoType → ℕ → Asks (Reached Bool)
nth_returned u x count to i = option_map_or (λ of. type_assigned u of to) (given_type x count i) (done (Got true))

abbrev pub all_returned : Unit → Known → ℕ → List GoType → ℕ → Asks (Reached Bool)
all_returned u x count results i = all_from (nth_returned u x count) results i

-- ---- E32 at the value

abbrev pub shared_if : Known → Bool → Rule
shared_if x b = if b then done (Right x) else done (Wrong NOT_ASSIGNABLE)

abbrev pub shared_told : Known → Reached Bool → Rule
shared_told x told = need_told told (shared_if x)

-- a value that doesn't give so many is refused by the statement: E73
abbrev pub several_by : Unit → ℕ → ℕ → List Node → Node → Known → Bool → Rule
several_by u block file nodes around x b =
    if b then bind (all_assigned u block file nodes around.kind x (name_count nodes around) (items nodes (part around 0)) 0) (shared_told x) else done (Right x)

abbrev pub several_known : Unit → ℕ → ℕ → List Node → Node → Known → Rule
several_known u block file nodes around x = several_by u block file nodes around x (is_some (given_to x (name_count nodes around) 0))

-- The mark of a value that stands for all operands of an assignment.
abbrev pub several_rule : Unit → ℕ → ℕ → List Node → Node → Meaning → Rule
several_rule u block file nodes around m = placed_good (several_known u block file nodes around) m
