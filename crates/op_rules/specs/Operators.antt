-- Operators by class, and at which kinds they are defined (Go 1.17, "Operators").
use Rattle.std.specs.Prelude.{Bool, true, false}
use Rattle.gv_base.specs.declared.constant.Kind.{Kind}
use Rattle.const_eval.specs.declared.operator.Operator.{Operator}
use Rattle.const_eval.specs.declared.operator.Operator.TheVariants as op
use Rattle.typed_tree.specs.Operands.{is_comparison, is_shift, takes, is_comparable}

-- `<<` or `>>`
unfoldable pub shifts : Operator → Bool
shifts op = is_shift op

-- `==`, `!=`, `<`, `<=`, `>` or `>=`
unfoldable pub compares : Operator → Bool
compares op = is_comparison op

-- `==` or `!=`
unfoldable pub equates : Operator → Bool
equates op.Equal = true
equates op.NotEqual = true
equates _ = false

-- `/` or `%`
unfoldable pub divides : Operator → Bool
divides op.Divide = true
divides op.Remainder = true
divides _ = false

-- E34: two operands of the kind have the operator
unfoldable pub takes_two : Operator → Kind → Bool
takes_two op kind = takes op kind

-- E35: two operands of the kind are compared by the operator, if it is `==` or `!=`
unfoldable pub tells_apart : Operator → Kind → Bool
tells_apart op kind = is_comparable op kind
