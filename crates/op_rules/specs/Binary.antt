-- Binary expressions (Go 1.17, "Operators", "Comparison operators"). The tests stand in the order E33, E34, E35, E31, E30; those of a shift
-- are E36, E37, E30.
use Rattle.std.specs.Prelude.{Bool, not, ◌&&◌, if◌then◌else◌, Option, Some, None}
use Rattle.const_eval.specs.declared.operator.Operator.{Operator}
use Rattle.mark_walk.specs.Asks.{done}
use Rattle.type_rel.specs.Kinds.{is_untyped}
use Rattle.typed_tree.specs.declared.rule.TheConstants.{MISMATCHED_OPERANDS}
use Rattle.typed_marks.specs.Meanings.{Wish, Quiet}
use Rattle.rule_words.specs.Asking.{Rule}
use Rattle.rule_words.specs.Parts.{Part}
use Rattle.rule_words.specs.Putting.{Compared, either_ask}
use Rattle.rule_words.specs.Words.{test}
use Rattle.rule_words.specs.Types.{is_interface, is_of}
use Rattle.op_rules.specs.Beside.{goes_beside, agrees}
use Rattle.op_rules.specs.Comparing.{truth, agreed}
use Rattle.op_rules.specs.Operands.{Operand, operand_at, need_operand}
use Rattle.op_rules.specs.Operators.{shifts, equates}
use Rattle.op_rules.specs.Shifts.{shift_of_parts}
use Rattle.op_rules.specs.Types.{are_one, is_basic}

-- ---- E33: typed operands of different types

unfoldable pub pair_of : Operand → Operand → Wish → Compared
pair_of x y wish = record { x = x.of; y = y.of; x_interface = is_interface x.at; y_interface = is_interface y.at; good = truth wish }

-- whether the one is assignable to the other, and whether both are comparable
unfoldable pub pair_ask : Compared → Rule
pair_ask p = either_ask p

unfoldable pub are_basic : Operand → Operand → Bool
are_basic x y = is_basic x.at && is_basic y.at

-- For `==` and `!=` the one is assignable to the other. Of two types whose underlying types are basic neither is, since such types count as
-- defined.
unfoldable pub is_open : Operator → Operand → Operand → Bool
is_open op x y = equates op && not (are_basic x y)

unfoldable pub different : Operator → Operand → Operand → Wish → Rule
different op x y wish = test (is_open op x y) MISMATCHED_OPERANDS (pair_ask (pair_of x y wish))

-- ---- E33

unfoldable pub both_typed : Operator → Operand → Operand → Wish → Rule
both_typed op x y wish = if are_one x.of y.of then agreed op x y wish else different op x y wish

-- the first operand is untyped
unfoldable pub first_untyped : Operator → Operand → Operand → Wish → Rule
first_untyped op x y wish = test (agrees x y) MISMATCHED_OPERANDS (agreed op x y wish)

-- the second operand alone is
unfoldable pub second_untyped : Operator → Operand → Operand → Wish → Rule
second_untyped op x y wish = test (goes_beside y x.at) MISMATCHED_OPERANDS (agreed op x y wish)

unfoldable pub first_typed : Operator → Operand → Operand → Wish → Rule
first_typed op x y wish = if is_of is_untyped y.of then second_untyped op x y wish else both_typed op x y wish

-- E33, E34, E35, E31, E30
unfoldable pub combined : Operator → Operand → Operand → Wish → Rule
combined op x y wish = if is_of is_untyped x.of then first_untyped op x y wish else first_typed op x y wish

-- ---- nodes

unfoldable pub combined_by : Operator → Part → Wish → Operand → Rule
combined_by op b wish x = need_operand (operand_at b) (λ y. combined op x y wish)

unfoldable pub combined_of_parts : Operator → Part → Part → Wish → Rule
combined_of_parts op a b wish = need_operand (operand_at a) (combined_by op b wish)

unfoldable pub binary_of_parts : Operator → Part → Part → Wish → Rule
binary_of_parts op a b wish = if shifts op then shift_of_parts op a b wish else combined_of_parts op a b wish

unfoldable pub binary_by : Option Operator → Part → Part → Wish → Rule
binary_by None a b wish = done Quiet
binary_by (Some op) a b wish = binary_of_parts op a b wish
