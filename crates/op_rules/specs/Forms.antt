-- The nodes that are operands and operators, by form (Go 1.17, "Operands", "Operators").
use Rattle.std.specs.Prelude.{ℕ, Option, Some, None, option_and_then}
use Rattle.go_tree.specs.declared.tree.FileTree.{FileTree}
use Rattle.go_tree.specs.declared.tree.Node.{Node}
use Rattle.go_tree.specs.declared.tree.NodeKind.{NodeKind}
use Rattle.go_tree.specs.declared.tree.NodeKind.TheVariants as k
use Rattle.const_eval.specs.declared.operator.Operator.{Operator}
use Rattle.unit_read.specs.Units.{Unit, tree_at}
use Rattle.rule_words.specs.declared.read.How.{How}
use Rattle.rule_words.specs.declared.read.How.TheVariants as h
use Rattle.op_rules.specs.declared.forms.Form.{Form}
use Rattle.op_rules.specs.declared.forms.Form.TheVariants as f
use Rattle.op_rules.specs.declared.forms.Literal.TheVariants as l

-- The form of a kind. Nothing is said yet of others than these.
unfoldable pub form_of : NodeKind → Form
form_of k.Int = f.Literal l.Int
form_of k.Rune = f.Literal l.Rune
form_of k.Text = f.Literal l.Text
form_of k.Float = f.Literal l.Float
form_of k.Imag = f.Literal l.Imag
form_of k.Name = f.Name
form_of k.Selector = f.Selector
form_of k.Paren = f.Paren
form_of k.Unary = f.Unary
form_of k.Binary = f.Binary
form_of _ = f.Other

-- How the parts are read. What is written between parentheses and before a dot may be a type or a package.
abbrev pub form_reads : Form → Option How
form_reads (f.Literal literal) = None
form_reads f.Name = None
form_reads f.Selector = Some h.Mark
form_reads f.Paren = Some h.Mark
form_reads f.Unary = Some h.Value
form_reads f.Binary = Some h.Value
form_reads f.Other = None

abbrev pub op_reads : NodeKind → ℕ → Option How
op_reads kind slot = form_reads (form_of kind)

-- the operator of an expression of a file
unfoldable pub operator_in : (FileTree → Node → Option Operator) → Unit → ℕ → Node → Option Operator
operator_in find u file node = option_and_then (λ (tree : FileTree). find tree node) (tree_at u file)
