-- Unary expressions `+x -x !x ^x` (Go 1.17, "Arithmetic operators", "Logical operators").
use Rattle.std.specs.Prelude.{Bool, true, false, if◌then◌else◌, Option, Some, None}
use Rattle.std.specs.Option.{option_map_or}
use Rattle.gv_base.specs.declared.constant.Const.{Const}
use Rattle.gv_base.specs.Fits.{values_of}
use Rattle.const_eval.specs.declared.answer.ConstAnswer.{ConstAnswer}
use Rattle.const_eval.specs.declared.answer.ConstAnswer.TheVariants as a
use Rattle.const_eval.specs.declared.operator.Operator.{Operator}
use Rattle.const_eval.specs.declared.operator.Operator.TheVariants as op
use Rattle.const_eval.specs.Integers.{ones_of}
use Rattle.const_eval.specs.Meaning.{on_operand}
use Rattle.mark_walk.specs.Asks.{done}
use Rattle.type_model.specs.GoTypes.{GoType}
use Rattle.type_rel.specs.Terms.{kind_of}
use Rattle.typed_tree.specs.declared.rule.TheConstants.{OPERATOR_NOT_DEFINED}
use Rattle.typed_tree.specs.Operands.{takes_alone}
use Rattle.typed_marks.specs.Meanings.{Wish, Meaning, Quiet}
use Rattle.rule_words.specs.Asking.{Rule}
use Rattle.rule_words.specs.Parts.{Part}
use Rattle.rule_words.specs.Types.{is_of}
use Rattle.op_rules.specs.Operands.{Operand, operand_at, need_operand, tested, folded, computed}

-- the value of an operator at a constant of this type
abbrev pub value_of_one : Operator → GoType → Const → ConstAnswer
value_of_one op at c = option_map_or (λ kind. on_operand op (ones_of (values_of kind)) c) (kind_of at) a.BadOperands

abbrev pub one_valued : Operator → Operand → Wish → Option Const → Meaning
one_valued op x wish None = computed x.of wish
one_valued op x wish (Some c) = folded x.at x.of wish (value_of_one op x.at c)

-- E34, E30
abbrev pub unary_mark : Operator → Wish → Operand → Meaning
unary_mark op wish x = tested (is_of (takes_alone op) x.at) OPERATOR_NOT_DEFINED (one_valued op x wish x.value)

abbrev pub unary_of_part : Operator → Part → Wish → Rule
unary_of_part op a wish = need_operand (operand_at a) (λ x. done (unary_mark op wish x))

abbrev pub takes_address : Operator → Bool
takes_address op.And = true
takes_address _ = false

-- Nothing is said yet of `&x`, nor of `<-x`, whose mark is none of these operators.
abbrev pub unary_with : Operator → Part → Wish → Rule
unary_with op a wish = if takes_address op then done Quiet else unary_of_part op a wish

unfoldable pub unary_by : Option Operator → Part → Wish → Rule
unary_by None a wish = done Quiet
unary_by (Some op) a wish = unary_with op a wish
