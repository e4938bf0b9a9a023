-- What a place makes of what stands there (Go 1.17, "Operands", "Assignability", "Representability", "Constant declarations").
use Rattle.std.specs.Prelude.{Bool, true, false, not, ◌&&◌, ◌||◌, if◌then◌else◌, Option, Some, None}
use Rattle.gv_base.specs.declared.constant.Const.{Const}
use Rattle.gv_base.specs.declared.constant.Const.TheVariants as const
use Rattle.gv_base.specs.declared.constant.Kind.{Kind}
use Rattle.mark_walk.specs.Asks.{done, bind}
use Rattle.type_model.specs.GoTypes.{GoType}
use Rattle.type_rel.specs.Kinds.{is_untyped, is_integer}
use Rattle.typed_tree.specs.declared.mark.Mode.{Mode}
use Rattle.typed_tree.specs.declared.mark.Mode.TheVariants as mode
use Rattle.typed_tree.specs.declared.place.Want.{Want as Demand}
use Rattle.typed_tree.specs.declared.place.Want.TheVariants as demand
use Rattle.typed_tree.specs.declared.rule.Rule.{Rule as RuleNumber}
use Rattle.typed_tree.specs.declared.rule.TheConstants.{SEVERAL_VALUES}
use Rattle.typed_tree.specs.declared.rule.TheConstants.{NOT_A_TYPE, NOT_A_VALUE, NIL_WITHOUT_A_TYPE, CONSTANT_OVERFLOW, NOT_ASSIGNABLE, NOT_CONSTANT}
use Rattle.typed_tree.specs.Operands.{fits_in}
use Rattle.typed_tree.specs.Places.{is_single, is_type, is_constant, is_nil_mode, is_package}
use Rattle.typed_marks.specs.Meanings.{Known, Wish, Free, Takes, Fits, Assigned, Meaning, Right, Wrong, Beyond, Quiet, Wishes, Declares}
use Rattle.unit_read.specs.Units.{Unit}
use Rattle.rule_words.specs.Asking.{Rule, under_ask}
use Rattle.rule_words.specs.Words.{Wanted, test}
use Rattle.rule_words.specs.Types.{is_of, takes_default}
use Rattle.rule_words.specs.Values.{assigned_type}
use Rattle.type_questions.specs.declared.reached.Reached.{Reached}
use Rattle.type_answers.specs.Asked.{assignable_ask, need_told}
use Rattle.op_rules.specs.Operands.{tested}

-- ---- E30

abbrev pub is_whole : Const → Bool
is_whole (const.Int z) = true
is_whole (const.Truth b) = false
is_whole (const.Text t) = false

-- An integer overflows an integer type in which it isn't representable. Of other constants and types E32, E33 and E37 speak.
unfoldable pub overflows : Const → Kind → Bool
overflows c kind = is_whole c && (is_integer kind && not (fits_in c kind))

unfoldable pub goes_into : Const → GoType → Bool
goes_into c under = not (is_of (overflows c) under)

abbrev pub overflowing : Known → Const → Option GoType → Meaning
overflowing x c None = Quiet
overflowing x c (Some under) = tested (goes_into c under) CONSTANT_OVERFLOW (Right x)

-- an untyped constant is representable in the type that it takes
abbrev pub represented_value : Unit → Known → Option Const → Rule
represented_value u x None = done (Right x)
represented_value u x (Some c) = bind (under_ask u x.last) (λ under. done (overflowing x c under))

abbrev pub represented : Unit → Known → Rule
represented u x = if is_of is_untyped x.of then represented_value u x x.value else done (Right x)

-- ---- E32

abbrev pub held_if : Meaning → Bool → Rule
held_if good b = if b then done good else done (Wrong NOT_ASSIGNABLE)

abbrev pub held_told : Meaning → Reached Bool → Rule
held_told good told = need_told told (held_if good)

abbrev pub assigned_to : Known → GoType → Meaning → Option GoType → Rule
assigned_to x to good under = bind (assignable_ask (takes_default under) (assigned_type x) x.value to) (held_told good)

abbrev pub assigned_good : Unit → Known → GoType → Meaning → Rule
assigned_good u x to good = bind (under_ask u to) (assigned_to x to good)

-- E32, then E30 of an untyped constant whose default type an interface takes
abbrev pub assigned : Unit → Known → GoType → Rule
assigned u x to = bind (represented u x) (assigned_good u x to)

-- ---- what is wanted of a value

-- E26, where the default type would be needed; E30
abbrev pub wished_free : Unit → Known → Rule
wished_free u x = test (not (is_nil_mode x.mode)) NIL_WITHOUT_A_TYPE (represented u x)

abbrev pub wished_value : Unit → Wish → Known → Rule
wished_value u Free x = wished_free u x
wished_value u (Takes to) x = done (Right x)
wished_value u (Fits to) x = represented u x
wished_value u (Assigned to) x = assigned u x to

-- a constant that is declared keeps its untyped type, unless it has a type to which it is assigned
abbrev pub wished_constant : Unit → Wish → Known → Rule
wished_constant u Free x = done (Right x)
wished_constant u (Takes to) x = done (Right x)
wished_constant u (Fits to) x = done (Right x)
wished_constant u (Assigned to) x = assigned u x to

-- ---- what has to stand there

abbrev pub is_many : Mode → Bool
is_many mode.Many = true
is_many _ = false

abbrev pub is_value : Mode → Bool
is_value mode = is_single mode || is_many mode

-- E24 where no value stands, E25 where several do
abbrev pub single_fault : Mode → Option RuleNumber
single_fault mode = if is_value mode then (if is_many mode then Some SEVERAL_VALUES else None) else Some NOT_A_VALUE

-- E97, E32
abbrev pub single_constant : Unit → Wish → Known → Rule
single_constant u wish x = test (is_constant x.mode) NOT_CONSTANT (wished_constant u wish x)

-- what is wanted of a single value; nil has no type as a shift count
abbrev pub single_demanded : Unit → Wish → Known → Demand → Rule
single_demanded u wish x demand.Operand = wished_value u wish x
single_demanded u wish x demand.Count = test (not (is_nil_mode x.mode)) NIL_WITHOUT_A_TYPE (done (Right x))
single_demanded u wish x demand.Constant = single_constant u wish x
single_demanded u wish x demand.Nothing = done (Right x)
single_demanded u wish x demand.Inside = done (Right x)
single_demanded u wish x demand.Owner = done (Right x)
single_demanded u wish x demand.Type = done (Right x)
single_demanded u wish x demand.Case = done (Right x)

abbrev pub unless : Option RuleNumber → Rule → Rule
unless None rest = rest
unless (Some rule) rest = done (Wrong rule)

abbrev pub value_demanded : Unit → Wish → Known → Demand → Rule
value_demanded u wish x demand = unless (single_fault x.mode) (single_demanded u wish x demand)

-- E24, E25 before a dot, where a type or a package may stand too
abbrev pub owner_fault : Mode → Option RuleNumber
owner_fault mode = if is_type mode || is_package mode then None else single_fault mode

abbrev pub owner_demanded : Known → Rule
owner_demanded x = unless (owner_fault x.mode) (done (Right x))

-- in a case of a type switch "the predeclared identifier nil" may stand for a type
abbrev pub may_be_case : Mode → Bool
may_be_case mode = is_type mode || is_nil_mode mode

-- Between parentheses stands no package.
abbrev pub demanded : Unit → Wish → Known → Demand → Rule
demanded u wish x demand.Nothing = done (Right x)
demanded u wish x demand.Inside = test (not (is_package x.mode)) NOT_A_VALUE (done (Right x))
demanded u wish x demand.Owner = owner_demanded x
demanded u wish x demand.Type = test (is_type x.mode) NOT_A_TYPE (done (Right x))
demanded u wish x demand.Case = test (may_be_case x.mode) NOT_A_TYPE (done (Right x))
demanded u wish x demand.Operand = value_demanded u wish x demand.Operand
demanded u wish x demand.Count = value_demanded u wish x demand.Count
demanded u wish x demand.Constant = value_demanded u wish x demand.Constant

-- The mark of a node in its place; what isn't good stays.
abbrev pub placed_rule : Unit → Wanted → Meaning → Rule
placed_rule u w (Right x) = demanded u w.wish x w.demand
placed_rule u w (Wrong rule) = done (Wrong rule)
placed_rule u w (Beyond limit) = done (Beyond limit)
placed_rule u w Quiet = done Quiet
placed_rule u w (Wishes demand wish) = done Quiet
placed_rule u w (Declares d) = done Quiet
