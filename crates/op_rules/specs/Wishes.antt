-- Which types the places of operands want (Go 1.17, "Operators", "Constants", "Constant expressions").
use Rattle.std.specs.Prelude.{Bool, ◌&&◌, ◌||◌, if◌then◌else◌, Option}
use Rattle.const_eval.specs.declared.operator.Operator.{Operator}
use Rattle.type_model.specs.GoTypes.{GoType}
use Rattle.type_rel.specs.Kinds.{is_untyped}
use Rattle.typed_marks.specs.Meanings.{Known, Wish, Free, Takes, Fits, Assigned, Meaning, Right, Wrong, Beyond, Quiet, Wishes, Declares}
use Rattle.rule_words.specs.Types.{is_of, takes_default}
use Rattle.rule_words.specs.Values.{has_value, is_shifted}
use Rattle.rule_words.specs.Wishes.{by_type, default_of, fitting_default}
use Rattle.op_rules.specs.Operators.{compares}
use Rattle.op_rules.specs.Types.{common, are_alike}

-- The type that the whole takes, or the default of this one. What stands around has its own test, or there is none: in a constant
-- expression values are exact.
unfoldable pub unchecked : Wish → GoType → Wish
unchecked Free of = default_of of
unchecked (Takes to) of = Takes to
unchecked (Fits to) of = Takes to
unchecked (Assigned to) of = Takes to

-- the same, where a constant is representable in it
unfoldable pub checked : Wish → GoType → Wish
checked Free of = fitting_default of
checked (Takes to) of = Fits to
checked (Fits to) of = Fits to
checked (Assigned to) of = Fits to

unfoldable pub unchecked_type : Wish → Meaning → Wish
unchecked_type whole own = by_type own (λ x. unchecked whole x.of)

unfoldable pub default_type : Meaning → Wish
default_type own = by_type own (λ x. default_of x.of)

-- ---- shifts

-- the left operand of a constant shift takes its default type, another what the whole takes
unfoldable pub shifted_by : Wish → Known → Known → Wish
shifted_by whole x count = if has_value x.value && has_value count.value then default_of x.of else checked whole x.of

unfoldable pub shifted_over : Wish → Meaning → Known → Wish
shifted_over whole (Right count) x = shifted_by whole x count
shifted_over whole (Wrong rule) x = default_of x.of
shifted_over whole (Beyond limit) x = default_of x.of
shifted_over whole Quiet x = default_of x.of
shifted_over whole (Wishes demand wish) x = default_of x.of
shifted_over whole (Declares d) x = default_of x.of

unfoldable pub shifted_wish : Meaning → Meaning → Wish → Wish
shifted_wish own count whole = by_type own (shifted_over whole count)

-- ---- other binary operators

-- the type of two untyped operands; where they aren't of one class, the operand's own
unfoldable pub mixed : GoType → GoType → GoType
mixed a b = if are_alike a b then common a b else a

unfoldable pub one_is_shifted : Known → Known → Bool
one_is_shifted x y = is_shifted x || is_shifted y

-- untyped operands take what the whole takes
unfoldable pub untyped_wish : Wish → Known → Known → Wish
untyped_wish whole x y = if one_is_shifted x y then checked whole (mixed x.of y.of) else unchecked whole (mixed x.of y.of)

-- An untyped operand takes the type of a typed one beside it, and the operator tests it. Beside an interface it takes its default type, in
-- which a constant is representable.
unfoldable pub typed_wish : GoType → Option GoType → Wish
typed_wish of under = if takes_default under then Fits of else Takes of

-- the operand beside it has this underlying type
unfoldable pub beside_wish : Wish → Known → Option GoType → Known → Wish
beside_wish whole y under x = if is_of is_untyped y.of then untyped_wish whole x y else typed_wish y.of under

unfoldable pub by_beside : Wish → Meaning → Option GoType → Known → Wish
by_beside whole (Right y) under x = beside_wish whole y under x
by_beside whole (Wrong rule) under x = default_of x.of
by_beside whole (Beyond limit) under x = default_of x.of
by_beside whole Quiet under x = default_of x.of
by_beside whole (Wishes demand wish) under x = default_of x.of
by_beside whole (Declares d) under x = default_of x.of

-- the operands of a comparison take nothing of the whole
unfoldable pub handed : Operator → Wish → Wish
handed op whole = if compares op then Free else whole

unfoldable pub operand_wish : Operator → Meaning → Meaning → Option GoType → Wish → Wish
operand_wish op own beside under whole = by_type own (by_beside (handed op whole) beside under)
