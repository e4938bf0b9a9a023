-- The variables that a specification with values declares (Go 1.17, "Variable declarations": "If that value is an untyped constant, it is first implicitly
-- converted to its default type; if it is an untyped boolean value, it is first implicitly converted to type bool").
use Rattle.std.specs.Prelude.{ℕ, ◌==◌, Bool, if◌then◌else◌, List, Option, Some, None, slice_get}
use Rattle.std.specs.Option.{option_map_or}
use Rattle.go_tree.specs.declared.tree.Node.{Node}
use Rattle.package_objects.specs.Declares.{items, part}
use Rattle.mark_walk.specs.Asks.{done, bind}
use Rattle.type_model.specs.GoTypes.{GoType}
use Rattle.typed_tree.specs.declared.mark.Mode.TheVariants as mode
use Rattle.typed_marks.specs.declared.item.Stage.TheVariants as s
use Rattle.typed_marks.specs.Meanings.{Known, Meaning, Right, Quiet}
use Rattle.unit_read.specs.Units.{Unit, nodes_at}
use Rattle.rule_words.specs.Asking.{Rule, mark_ask}
use Rattle.rule_words.specs.Good.{known_told}
use Rattle.variable_rules.specs.Forms.{name_count, value_count, shared_value, value_slot}
use Rattle.variable_rules.specs.Several.{given_to}
use Rattle.variable_rules.specs.Wants.{type_of}

abbrev pub variable : GoType → Meaning
variable of = Right (record { mode = mode.Variable; of = of; value = None; last = of })

-- ---- with a type

abbrev pub typed_mark : Meaning → Meaning
typed_mark m = option_map_or (λ (x : Known). variable x.of) (known_told m) Quiet

abbrev pub typed_told : Meaning → Rule
typed_told m = done (typed_mark m)

abbrev pub typed_object : Unit → ℕ → ℕ → Rule
typed_object u file t = bind (mark_ask u s.Placed file t) typed_told

-- ---- with a value of its own

abbrev pub valued_mark : Meaning → Meaning
valued_mark m = option_map_or (λ (x : Known). variable x.last) (known_told m) Quiet

abbrev pub valued_told : Meaning → Rule
valued_told m = done (valued_mark m)

abbrev pub valued_object : Unit → ℕ → ℕ → Rule
valued_object u file n = bind (mark_ask u s.Placed file n) valued_told

-- ---- with one of several values

abbrev pub shared_of : ℕ → ℕ → Known → Meaning
shared_of count i x = option_map_or variable (given_to x count i) Quiet

abbrev pub shared_mark : ℕ → ℕ → Meaning → Meaning
shared_mark count i m = option_map_or (shared_of count i) (known_told m) Quiet

abbrev pub shared_told : ℕ → ℕ → Meaning → Rule
shared_told count i m = done (shared_mark count i m)

abbrev pub shared_object : Unit → ℕ → ℕ → ℕ → ℕ → Rule
shared_object u file count i n = bind (mark_ask u s.Placed file n) (shared_told count i)

-- ---- all

-- where names and values differ in number no value is a name's own
abbrev pub own_value : List Node → ℕ → Node → ℕ → Option ℕ
own_value nodes slot node i = if name_count nodes node == value_count nodes slot node then slice_get (items nodes (part node slot)) i else None

abbrev pub by_own : Unit → ℕ → List Node → ℕ → Node → ℕ → Rule
by_own u file nodes slot node i = option_map_or (valued_object u file) (own_value nodes slot node i) (done Quiet)

abbrev pub by_value : Unit → ℕ → List Node → Node → ℕ → ℕ → Rule
by_value u file nodes node i slot =
    option_map_or (shared_object u file (name_count nodes node) i) (shared_value u file nodes slot node) (by_own u file nodes slot node i)

abbrev pub untyped_object : Unit → ℕ → List Node → Node → ℕ → Rule
untyped_object u file nodes node i = option_map_or (by_value u file nodes node i) (value_slot node.kind) (done Quiet)

-- The object of the name at a place of a specification of variables with values.
abbrev pub variable_object : Unit → ℕ → Node → ℕ → Rule
variable_object u file node i = option_map_or (typed_object u file) (type_of node) (untyped_object u file (nodes_at u file) node i)
