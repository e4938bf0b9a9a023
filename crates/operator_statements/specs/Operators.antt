-- Assignment operations (Go 1.17, "Assignments": "An assignment operation x op= y where op is a binary arithmetic operator is equivalent to x = x op (y) but evaluates
-- x only once").
use Rattle.std.specs.Prelude.{ℕ, ◌-◌, if◌then◌else◌, codes, List, Option, Some, None, slice_get, option_and_then}
use Rattle.std.specs.Str.{bytes_eq}
use Rattle.go_tree.specs.declared.tree.Node.{Node}
use Rattle.const_eval.specs.declared.operator.Operator.{Operator}
use Rattle.const_eval.specs.declared.operator.Operator.TheVariants as op
use Rattle.package_objects.specs.Declares.{part}
use Rattle.unit_read.specs.Units.{Unit, nodes_at, spelled}

abbrev pub is_text : List ℕ → List ℕ → Operator → Option Operator → Option Operator
is_text text other found rest = if bytes_eq text other then Some found else rest

-- "assign_op = [ add_op | mul_op ] "=" "
abbrev pub bit_operator : List ℕ → Option Operator
bit_operator text =
    is_text text (codes "&=") op.And (is_text text (codes "|=") op.Or (is_text text (codes "^=") op.Xor
    (is_text text (codes "&^=") op.AndNot (is_text text (codes "<<=") op.ShiftLeft (is_text text (codes ">>=") op.ShiftRight None)))))

abbrev pub assign_operator : List ℕ → Option Operator
assign_operator text =
    is_text text (codes "+=") op.Add (is_text text (codes "-=") op.Subtract (is_text text (codes "*=") op.Multiply
    (is_text text (codes "/=") op.Divide (is_text text (codes "%=") op.Remainder (bit_operator text)))))

-- the token before the right operand
abbrev pub operator_before : Unit → ℕ → Node → Option Operator
operator_before u file right = assign_operator (spelled u file (right.first - 1))

abbrev pub right_operand : Unit → ℕ → Node → Option Node
right_operand u file node = option_and_then (slice_get (nodes_at u file)) (part node 1)

abbrev pub operator_of : Unit → ℕ → Node → Option Operator
operator_of u file node = option_and_then (operator_before u file) (right_operand u file node)
