-- What the places in a call want (Go 1.17, "Calls", "Conversions", "Built-in functions").
use Rattle.std.specs.Prelude.{ℕ, ◌-◌, ◌==◌, Bool, if◌then◌else◌, Option, Some, None}
use Rattle.std.specs.Option.{option_map_or}
use Rattle.gv_base.specs.declared.constant.Const.{Const}
use Rattle.go_tree.specs.declared.tree.Node.{Node}
use Rattle.mark_walk.specs.Asks.{bind}
use Rattle.type_model.specs.GoTypes.{GoType, GoSignature}
use Rattle.typed_tree.specs.declared.place.Want.TheVariants as demand
use Rattle.typed_marks.specs.Meanings.{Known, Wish, Takes, Meaning, Right, Wrong, Beyond, Quiet, Wishes, Declares}
use Rattle.unit_read.specs.declared.place.Place.{Place}
use Rattle.unit_read.specs.Units.{Unit}
use Rattle.rule_words.specs.Asking.{Rule, mark_under, under_ask}
use Rattle.rule_words.specs.Files.{file_of}
use Rattle.rule_words.specs.Types.{takes_default}
use Rattle.rule_words.specs.Wishes.{before, by_type, default_of, fitting_default, nothing_wanted, wants}
use Rattle.builtin_rules.specs.Named.{is_spread, builtin_in}
use Rattle.builtin_rules.specs.Types.{signature_in}
use Rattle.builtin_rules.specs.Wants.{builtin_wants}
use Rattle.builtin_rules.specs.Wishes.{assigned_to}
use Rattle.call_rules.specs.Callees.{callee_of}
use Rattle.call_rules.specs.Given.{param_at}
use Rattle.call_rules.specs.declared.callee.Callee.{Callee}
use Rattle.call_rules.specs.declared.callee.Callee.TheVariants as c

-- ---- arguments of functions

-- an argument is assigned to its parameter; a single value is wanted where there is none, too
abbrev pub param_wants : Bool → ℕ → GoSignature → Rule
param_wants spread slot sig = wants demand.Operand (assigned_to (param_at sig spread (slot - 1)))

-- nothing is wanted of what a value is given that is no function
unfoldable pub argument_wants : Bool → ℕ → GoType → Rule
argument_wants spread slot of = option_map_or (param_wants spread slot) (signature_in of) nothing_wanted

abbrev pub argument_by : Bool → ℕ → Option GoType → Rule
argument_by spread slot None = nothing_wanted
argument_by spread slot (Some of) = argument_wants spread slot of

-- ---- operands of conversions

-- A constant takes its default type, in which it is representable where the type converted to is an interface: else the conversion has its own test.
-- An operand that is none takes the type converted to.
abbrev pub constant_wish : Option GoType → Known → Wish
constant_wish under x = if takes_default under then fitting_default x.of else default_of x.of

abbrev pub value_wish : GoType → Option GoType → Known → Option Const → Wish
value_wish to under x None = Takes to
value_wish to under x (Some c) = constant_wish under x

unfoldable pub converted_wish : GoType → Option GoType → Meaning → Wish
converted_wish to under own = by_type own (λ x. value_wish to under x x.value)

abbrev pub converted_in : GoType → Meaning → Option GoType → Rule
converted_in to own under = wants demand.Operand (converted_wish to under own)

abbrev pub converted_over : Unit → GoType → Meaning → Rule
converted_over u to own = bind (under_ask u to) (converted_in to own)

unfoldable pub conversion_wants : Unit → ℕ → Node → ℕ → GoType → Rule
conversion_wants u block around slot to = bind (before u block around slot) (converted_over u to)

-- ---- all

abbrev pub function_wants : Unit → Node → ℕ → Meaning → Rule
function_wants u around slot f = bind (mark_under u f) (argument_by (is_spread around.kind) slot)

unfoldable pub callee_wants : Unit → ℕ → Node → ℕ → Known → Meaning → Callee → Rule
callee_wants u block around slot x f c.Value = function_wants u around slot f
callee_wants u block around slot x f c.Type = conversion_wants u block around slot x.of
callee_wants u block around slot x f c.Builtin = builtin_wants u block around slot (builtin_in u (file_of u block) around)
callee_wants u block around slot x f (c.Refused rule) = nothing_wanted

abbrev pub known_wants : Unit → ℕ → Node → ℕ → Known → Rule
known_wants u block around slot x = callee_wants u block around slot x (Right x) (callee_of x.mode)

-- by what is called; nothing is wanted where that isn't good
unfoldable pub called_wants : Unit → ℕ → Node → ℕ → Meaning → Rule
called_wants u block around slot (Right x) = known_wants u block around slot x
called_wants u block around slot (Wrong rule) = nothing_wanted
called_wants u block around slot (Beyond limit) = nothing_wanted
called_wants u block around slot Quiet = nothing_wanted
called_wants u block around slot (Wishes demand wish) = nothing_wanted
called_wants u block around slot (Declares d) = nothing_wanted

unfoldable pub slot_wants : Unit → ℕ → Node → ℕ → Rule
slot_wants u block around slot = bind (before u block around 0) (called_wants u block around slot)

-- What the place of a part wants. What is called is a value, a type or a built-in function, which its call tests.
abbrev pub call_wants : Unit → ℕ → Place → Node → Rule
call_wants u block p around = if p.slot == 0 then nothing_wanted else slot_wants u block around p.slot
