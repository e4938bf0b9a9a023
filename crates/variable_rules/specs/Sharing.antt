-- One value that stands for several names of a type that is written (Go 1.17, "Variable declarations": "If a type is present, each variable is given that type";
-- "Assignments": "the right hand operand is a single multi-valued expression such as a function call, a channel or map operation, or a type assertion";
-- "Assignability").
use Rattle.std.specs.Prelude.{ℕ, ◌==◌, ◌&&◌, Bool, true, false, if◌then◌else◌, is_some, List, [], ◌∷◌, length, Option, Some, None}
use Rattle.std.specs.Option.{option_map_or}
use Rattle.gv_base.specs.declared.constant.Kind.TheVariants as kind
use Rattle.go_tree.specs.declared.tree.Node.{Node}
use Rattle.mark_walk.specs.Asks.{done, bind}
use Rattle.type_model.specs.GoTypes.{GoType, BasicType, DefinedType, PointerTo, SliceOf, ArrayOf, MapOf, ChanOf, FuncOf, StructOf, InterfaceOf}
use Rattle.type_questions.specs.declared.reached.Reached.{Reached}
use Rattle.type_questions.specs.declared.reached.Reached.TheVariants.{Got, Lost}
use Rattle.type_answers.specs.Asked.{assignable_ask, need_told}
use Rattle.typed_tree.specs.Places.{is_type}
use Rattle.typed_tree.specs.declared.mark.Mode.{Mode}
use Rattle.typed_tree.specs.declared.mark.Mode.TheVariants as mode
use Rattle.typed_tree.specs.declared.rule.TheConstants.{NOT_ASSIGNABLE}
use Rattle.typed_marks.specs.declared.item.Stage.TheVariants as s
use Rattle.typed_marks.specs.Meanings.{Known, Meaning, Right, Wrong, Beyond, Quiet, Wishes, Declares}
use Rattle.unit_read.specs.declared.place.Place.{Place}
use Rattle.unit_read.specs.Units.{Unit, nodes_at}
use Rattle.rule_words.specs.Asking.{Asks, Rule, mark_ask, under_ask}
use Rattle.rule_words.specs.Good.{known_told}
use Rattle.rule_words.specs.Files.{file_of}
use Rattle.variable_rules.specs.Forms.{name_count, value_slot, shared_value}
use Rattle.variable_rules.specs.Several.{results_of}
use Rattle.variable_rules.specs.Wants.{type_of}

-- ---- where

abbrev pub is_shared_in : Unit → ℕ → Place → Node → ℕ → Bool
is_shared_in u file p around slot = (p.slot == slot) && is_some (shared_value u file (nodes_at u file) slot around)

-- the place is that of one value that may stand for all names
abbrev pub is_shared : Unit → ℕ → Place → Node → Bool
is_shared u block p around = option_map_or (is_shared_in u (file_of u block) p around) (value_slot around.kind) false

-- ---- what is assigned

-- "The value of ok is an untyped boolean": it goes into any boolean type
abbrev pub with_second : GoType → List GoType
with_second of = of ∷ BasicType kind.UntypedBool ∷ []

-- the types of the values that are given to so many names; none where there aren't so many
abbrev pub values_by : Mode → Known → ℕ → List GoType
values_by mode.Many x count = if length (results_of x.of) == count then results_of x.of else []
values_by mode.CommaOk x count = if count == 2 then with_second x.last else []
values_by mode.MapIndex x count = if count == 2 then with_second x.last else []
values_by mode.NoValue x count = []
values_by mode.TypeName x count = []
values_by mode.Constant x count = []
values_by mode.Variable x count = []
values_by mode.Value x count = []
values_by mode.Nil x count = []
values_by mode.Builtin x count = []
values_by mode.Package x count = []

-- ---- each of them is assignable

abbrev pub is_interface : GoType → Bool
is_interface (InterfaceOf methods) = true
is_interface (BasicType kind) = false
is_interface (DefinedType name) = false
is_interface (PointerTo of) = false
is_interface (SliceOf of) = false
is_interface (ArrayOf size of) = false
is_interface (MapOf key of) = false
is_interface (ChanOf direction of) = false
is_interface (FuncOf of) = false
is_interface (StructOf fields) = false

-- methods count where the underlying type is an interface
abbrev pub by_methods : Option GoType → Bool
by_methods under = option_map_or is_interface under false

abbrev pub holds : Reached Bool → Bool
holds (Got b) = b
holds Lost = false

abbrev pub then_others : Asks (Reached Bool) → Reached Bool → Asks (Reached Bool)
then_others rest told = if holds told then rest else done told

-- one after the other, until one isn't
abbrev pub all_assigned : Bool → GoType → List GoType → Asks (Reached Bool)
all_assigned methods to [] = done (Got true)
all_assigned methods to (of ∷ list) = bind (assignable_ask methods of None to) (then_others (all_assigned methods to list))

-- ---- E32

abbrev pub shared_if : Known → Bool → Rule
shared_if x b = if b then done (Right x) else done (Wrong NOT_ASSIGNABLE)

abbrev pub all_told : Known → Reached Bool → Rule
all_told x told = need_told told (shared_if x)

abbrev pub assigned_values : Known → Bool → GoType → List GoType → Rule
assigned_values x methods to list = bind (all_assigned methods to list) (all_told x)

abbrev pub assigned_with : Known → ℕ → GoType → Option GoType → Rule
assigned_with x count to under = assigned_values x (by_methods under) to (values_by x.mode x count)

unfoldable pub assigned_to : Unit → Known → ℕ → GoType → Rule
assigned_to u x count to = bind (under_ask u to) (assigned_with x count to)

-- nothing is tested against what is no type
abbrev pub with_type : Unit → Known → ℕ → Known → Rule
with_type u x count t = if is_type t.mode then assigned_to u x count t.of else done (Right x)

abbrev pub type_told : Unit → Known → ℕ → Meaning → Rule
type_told u x count m = option_map_or (with_type u x count) (known_told m) (done (Right x))

unfoldable pub typed_shared : Unit → ℕ → Known → ℕ → ℕ → Rule
typed_shared u block x count t = bind (mark_ask u s.Placed block t) (type_told u x count)

-- without a type each variable has the type of its value
abbrev pub known_shared : Unit → ℕ → List Node → Node → Known → Rule
known_shared u block nodes around x = option_map_or (typed_shared u block x (name_count nodes around)) (type_of around) (done (Right x))

-- What the place of a value that may stand for all names makes of its mark. Where names and values differ in number the specification has a test of its own.
unfoldable pub shared_placed : Unit → ℕ → List Node → Node → Meaning → Rule
shared_placed u block nodes around (Right x) = known_shared u block nodes around x
shared_placed u block nodes around (Wrong rule) = done (Wrong rule)
shared_placed u block nodes around (Beyond limit) = done (Beyond limit)
shared_placed u block nodes around Quiet = done Quiet
shared_placed u block nodes around (Wishes demand wish) = done Quiet
shared_placed u block nodes around (Declares d) = done Quiet
