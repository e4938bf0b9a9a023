-- What a binary operator that is no shift gives of operands that agree (Go 1.17, "Arithmetic operators", "Comparison operators",
-- "Constant expressions").
use Rattle.std.specs.Prelude.{Bool, not, ◌&&◌, if◌then◌else◌, Option, Some, None}
use Rattle.gv_base.specs.declared.constant.Const.{Const}
use Rattle.gv_base.specs.declared.constant.Kind.TheVariants as k
use Rattle.const_eval.specs.declared.operator.Operator.{Operator}
use Rattle.const_eval.specs.Meaning.{on_operands}
use Rattle.type_model.specs.GoTypes.{GoType, BasicType}
use Rattle.typed_tree.specs.declared.rule.TheConstants.{DIVISION_BY_ZERO}
use Rattle.typed_marks.specs.Meanings.{Wish, Meaning}
use Rattle.op_rules.specs.Operands.{Operand, tested, folded, computed, is_zero}
use Rattle.op_rules.specs.Operators.{compares, divides}
use Rattle.op_rules.specs.Types.{common}

-- a comparison gives an untyped boolean
unfoldable pub result_type : Operator → GoType → GoType
result_type op of = if compares op then BasicType k.UntypedBool else of

-- two constants give one; else there is none
unfoldable pub beside_value : Operator → GoType → GoType → Wish → Const → Option Const → Meaning
beside_value op at of wish c None = computed of wish
beside_value op at of wish c (Some d) = folded at of wish (on_operands op c d)

unfoldable pub two_valued : Operator → GoType → GoType → Wish → Option Const → Option Const → Meaning
two_valued op at of wish None d = computed of wish
two_valued op at of wish (Some c) d = beside_value op at of wish c d

-- the type at which a constant is counted, and the type of the result
unfoldable pub result_at : Operator → Operand → Operand → GoType
result_at op x y = result_type op (common x.at y.at)

unfoldable pub result_of : Operator → Operand → Operand → GoType
result_of op x y = result_type op (common x.of y.of)

unfoldable pub undivided : Operator → Operand → Operand → Wish → Meaning
undivided op x y wish = two_valued op (result_at op x y) (result_of op x y) wish x.value y.value

unfoldable pub divides_by_zero : Operator → Operand → Bool
divides_by_zero op y = divides op && is_zero y.value

-- E31 by a constant divisor, then E30
unfoldable pub result_mark : Operator → Operand → Operand → Wish → Meaning
result_mark op x y wish = tested (not (divides_by_zero op y)) DIVISION_BY_ZERO (undivided op x y wish)
