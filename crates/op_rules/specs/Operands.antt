-- Operands of operators, and values of constant expressions (Go 1.17, "Operands", "Constant expressions", "Representability").
use Rattle.std.specs.Prelude.{pos, Bool, true, false, ◌||◌, if◌then◌else◌, Option, Some, None, option_map}
use Rattle.std.specs.Option.{option_map_or}
use Rattle.std.specs.Ordering.{int_eq}
use Rattle.gv_base.specs.declared.constant.Const.{Const}
use Rattle.gv_base.specs.declared.constant.Const.TheVariants as const
use Rattle.const_eval.specs.declared.answer.ConstAnswer.{ConstAnswer}
use Rattle.const_eval.specs.declared.answer.ConstAnswer.TheVariants as a
use Rattle.type_model.specs.GoTypes.{GoType}
use Rattle.type_rel.specs.Kinds.{is_untyped}
use Rattle.typed_tree.specs.declared.mark.Mode.TheVariants as mode
use Rattle.typed_tree.specs.declared.rule.Rule.{Rule as RuleNumber}
use Rattle.typed_tree.specs.declared.rule.Limit.TheVariants.{Wide, LongText}
use Rattle.typed_tree.specs.declared.rule.TheConstants.{CONSTANT_OVERFLOW, DIVISION_BY_ZERO}
use Rattle.typed_tree.specs.Operands.{fits_in}
use Rattle.typed_marks.specs.Meanings.{Known, Wish, Meaning, Right, Wrong, Beyond, Quiet, Wishes, Declares}
use Rattle.rule_words.specs.Answers.{constant}
use Rattle.rule_words.specs.Asking.{Rule}
use Rattle.rule_words.specs.Parts.{Part}
use Rattle.mark_walk.specs.Asks.{done}
use Rattle.rule_words.specs.Words.{last_of, operand}
use Rattle.rule_words.specs.Types.{counted, is_of}

-- an operand: its type, its value where it is a constant, the type at which operators count it, and the underlying type of its final type
pub record Operand : Type 0 where
  pub of : GoType
  pub value : Option Const
  pub at : GoType
  pub under : GoType

abbrev pub operand_of : Known → GoType → Operand
operand_of x under = record { of = x.of; value = x.value; at = counted x.of under; under = under }

abbrev pub good_operand : Option GoType → Meaning → Option Operand
good_operand under (Right x) = option_map (operand_of x) under
good_operand under (Wrong rule) = None
good_operand under (Beyond limit) = None
good_operand under Quiet = None
good_operand under (Wishes demand wish) = None
good_operand under (Declares d) = None

-- the operand that a part is, where it is good
unfoldable pub operand_at : Part → Option Operand
operand_at p = good_operand p.under p.mark

-- what a rule makes of an operand
abbrev pub need_operand : Option Operand → (Operand → Rule) → Rule
need_operand None rest = done Quiet
need_operand (Some x) rest = rest x

-- the first test that fails gives its rule
abbrev pub tested : Bool → RuleNumber → Meaning → Meaning
tested true rule rest = rest
tested false rule rest = Wrong rule

-- ---- values

-- a constant at a type: an untyped one any, a typed one where it is representable
abbrev pub fits_at : Const → GoType → Bool
fits_at c at = is_of (λ kind. is_untyped kind || fits_in c kind) at

-- E30: a typed constant is representable in its type
abbrev pub valued : GoType → GoType → Wish → Const → Meaning
valued at of wish c = tested (fits_at c at) CONSTANT_OVERFLOW (constant of (last_of of wish) c)

-- An integer outside 128 bits is no value of any type, and lies outside the profile where it is untyped.
abbrev pub wide : GoType → Meaning
wide at = if is_of is_untyped at then Beyond Wide else Wrong CONSTANT_OVERFLOW

-- what an operator gives of constants: E31, E30
abbrev pub folded : GoType → GoType → Wish → ConstAnswer → Meaning
folded at of wish (a.Value c) = valued at of wish c
folded at of wish a.ZeroDivisor = Wrong DIVISION_BY_ZERO
folded at of wish a.Wide = wide at
folded at of wish a.LongText = Beyond LongText
folded at of wish a.BadOperands = Quiet

-- what is no constant
abbrev pub computed : GoType → Wish → Meaning
computed of wish = operand mode.Value of None wish

abbrev pub is_zero_integer : Const → Bool
is_zero_integer (const.Int z) = int_eq z (pos 0)
is_zero_integer (const.Truth b) = false
is_zero_integer (const.Text t) = false

abbrev pub is_zero : Option Const → Bool
is_zero value = option_map_or is_zero_integer value false
