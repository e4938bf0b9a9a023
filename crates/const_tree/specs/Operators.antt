-- The operators of unary and binary expressions (Go 1.17, "Operators").
use Rattle.std.specs.Prelude.{ℕ, ◌-◌, Option, None, slice_get, option_and_then}
use Rattle.go_tree.specs.declared.token.Token.{Token}
use Rattle.go_tree.specs.declared.token.TokenKind.{TokenKind}
use Rattle.go_tree.specs.declared.token.TokenKind.TheVariants as t
use Rattle.go_tree.specs.declared.tree.FileTree.{FileTree}
use Rattle.go_tree.specs.declared.tree.Node.{Node}
use Rattle.const_eval.specs.declared.operator.Operator.{Operator}
use Rattle.const_eval.specs.Operators.{operator_of}
use Rattle.package_objects.specs.Declares.{part}

abbrev pub kind_operator : TokenKind → Option Operator
kind_operator (t.Mark place) = operator_of place
kind_operator _ = None

abbrev pub token_operator : Token → Option Operator
token_operator token = kind_operator token.kind

abbrev pub operator_at : FileTree → ℕ → Option Operator
operator_at tree i = option_and_then token_operator (slice_get tree.tokens i)

-- the operator of a unary expression is its first token, that of a binary one stands before the right operand
abbrev pub unary_operator : FileTree → Node → Option Operator
unary_operator tree node = operator_at tree node.first

abbrev pub binary_operator : FileTree → Node → Option Operator
binary_operator tree node =
    option_and_then (λ n. option_and_then (λ (right : Node). operator_at tree (right.first - 1)) (slice_get tree.nodes n)) (part node 1)
