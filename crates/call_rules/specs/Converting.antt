-- Conversions (Go 1.17, "Conversions", "Constant expressions").
use Rattle.std.specs.Prelude.{◌==◌, Bool, ◌||◌, if◌then◌else◌, List, Option, Some, None}
use Rattle.std.specs.Option.{option_map_or}
use Rattle.gv_base.specs.declared.constant.Const.{Const}
use Rattle.gv_base.specs.declared.constant.Const.TheVariants as const
use Rattle.gv_base.specs.declared.constant.Kind.{Kind}
use Rattle.const_eval.specs.declared.answer.ConstAnswer.{ConstAnswer}
use Rattle.const_eval.specs.declared.answer.ConstAnswer.TheVariants as a
use Rattle.const_eval.specs.Meaning.{convert_of}
use Rattle.type_model.specs.GoTypes.{GoType}
use Rattle.gv_base.specs.Kinds.{is_integer, is_string, is_boolean}
use Rattle.type_rel.specs.Terms.{kind_of}
use Rattle.mark_walk.specs.Asks.{done, bind}
use Rattle.typed_tree.specs.declared.rule.Rule.{Rule as RuleNumber}
use Rattle.typed_tree.specs.declared.rule.TheConstants.{CONSTANT_OVERFLOW}
use Rattle.typed_marks.specs.Meanings.{Known, Meaning, Wrong}
use Rattle.type_questions.specs.declared.reached.Reached.{Reached}
use Rattle.type_answers.specs.Asked.{convertible_ask, need_told}
use Rattle.rule_words.specs.Answers.{constant}
use Rattle.rule_words.specs.Asking.{Rule}
use Rattle.rule_words.specs.Parts.{Part, part_at}
use Rattle.rule_words.specs.Words.{need, need_type, test}
use Rattle.rule_words.specs.Types.{is_interface}
use Rattle.rule_words.specs.Values.{assigned_type}
use Rattle.typed_tree.specs.declared.rule.TheConstants.{BAD_DOTS}
use Rattle.typed_tree.specs.declared.rule.TheConstants.{CANNOT_CONVERT, CONVERSION_TAKES_ONE_ARGUMENT}
use Rattle.builtin_rules.specs.Named.{argument_count}
use Rattle.builtin_rules.specs.Values.{value_of}

-- E52: nothing is spread in a conversion
unfoldable pub unspread : Bool → Meaning → Meaning
unspread spread m = if spread then Wrong BAD_DOTS else m

-- ---- constants, where the type is boolean, integer or string

-- it is convertible to a basic type (Laws.ConstantsConvert)
unfoldable pub is_convertible : Const → Kind → Bool
is_convertible (const.Int z) kind = is_integer kind || is_string kind
is_convertible (const.Text t) kind = is_string kind
is_convertible (const.Truth b) kind = is_boolean kind

-- E53; E30 where an integer isn't representable in an integer type
unfoldable pub constant_fault : Const → Kind → RuleNumber
constant_fault c kind = if is_convertible c kind then CONSTANT_OVERFLOW else CANNOT_CONVERT

abbrev pub converted : Bool → GoType → RuleNumber → ConstAnswer → Meaning
converted spread to fault (a.Value c) = unspread spread (constant to to c)
converted spread to fault a.ZeroDivisor = Wrong fault
converted spread to fault a.Wide = Wrong fault
converted spread to fault a.LongText = Wrong fault
converted spread to fault a.BadOperands = Wrong fault

unfoldable pub constant_converted : Bool → GoType → Const → Kind → Meaning
constant_converted spread to c kind = converted spread to (constant_fault c kind) (convert_of c kind)

-- ---- other operands

-- E53
abbrev pub convertible_by : Bool → GoType → Bool → Rule
convertible_by spread to b = if b then done (unspread spread (value_of to)) else done (Wrong CANNOT_CONVERT)

abbrev pub convertible_told : Bool → GoType → Reached Bool → Rule
convertible_told spread to told = need_told told (convertible_by spread to)

-- its methods count where the type is an interface, and are asked for there alone
unfoldable pub operand_converted : Bool → GoType → GoType → Known → Rule
operand_converted spread to under x = bind (convertible_ask (is_interface under) (assigned_type x) x.value to) (convertible_told spread to)

-- ---- all

abbrev pub kind_converted : Bool → GoType → Const → Kind → Rule
kind_converted spread to c kind = done (constant_converted spread to c kind)

-- a constant gives a constant where the type is boolean, integer or string
unfoldable pub value_converted : Bool → GoType → GoType → Known → Option Const → Rule
value_converted spread to under x None = operand_converted spread to under x
value_converted spread to under x (Some c) = option_map_or (kind_converted spread to c) (kind_of under) (operand_converted spread to under x)

abbrev pub known_converted : Bool → GoType → GoType → Known → Rule
known_converted spread to under x = value_converted spread to under x x.value

-- E53, E30, E52 of what stands between the parentheses
abbrev pub one_converted : Bool → GoType → Meaning → GoType → Rule
one_converted spread to m under = need m (known_converted spread to under)

unfoldable pub single_converted : Bool → GoType → List Part → Rule
single_converted spread to ps = need_type (part_at ps 0).under (one_converted spread to (part_at ps 1).mark)

-- E54, E53, E30, E52
unfoldable pub conversion_rule : Bool → GoType → List Part → Rule
conversion_rule spread to ps = test (argument_count ps == 1) CONVERSION_TAKES_ONE_ARGUMENT (single_converted spread to ps)
