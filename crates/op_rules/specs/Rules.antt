-- The rule of each form of operand and operator (Go 1.17, "Operands", "Operators").
use Rattle.std.specs.Prelude.{ℕ, if◌then◌else◌, List, Option}
use Rattle.go_tree.specs.declared.tree.Node.{Node}
use Rattle.go_tree.specs.declared.tree.NodeRef.{NodeRef}
use Rattle.const_tree.specs.Operators.{unary_operator, binary_operator}
use Rattle.mark_walk.specs.Asks.{done, bind}
use Rattle.type_model.specs.GoTypes.{GoType}
use Rattle.typed_tree.specs.declared.place.Want.{Want as Demand}
use Rattle.typed_tree.specs.declared.rule.Limit.TheVariants.{Float, Complex}
use Rattle.typed_tree.specs.Constants.{int_literal_mark, rune_literal_mark, text_literal_mark}
use Rattle.typed_marks.specs.Meanings.{Wish, Free, Takes, Fits, Assigned, Meaning, Beyond, Quiet}
use Rattle.unit_read.specs.Units.{Unit, first_spelled}
use Rattle.rule_words.specs.Asking.{Asks, Rule, under_ask}
use Rattle.rule_words.specs.Parts.{Part, part_at}
use Rattle.rule_words.specs.Words.{Wanted}
use Rattle.rule_words.specs.Types.{takes_default}
use Rattle.op_rules.specs.declared.forms.Form.{Form}
use Rattle.op_rules.specs.declared.forms.Form.TheVariants as f
use Rattle.op_rules.specs.declared.forms.Literal.{Literal}
use Rattle.op_rules.specs.declared.forms.Literal.TheVariants as l
use Rattle.op_rules.specs.Binary.{binary_by}
use Rattle.op_rules.specs.Forms.{form_of, operator_in}
use Rattle.op_rules.specs.Names.{wished, used, name_rule, selector_rule}
use Rattle.op_rules.specs.Unary.{unary_by}

-- ---- forms

unfoldable pub literal_mark : List ℕ → Wish → Literal → Meaning
literal_mark bytes wish l.Int = wished wish (int_literal_mark bytes)
literal_mark bytes wish l.Rune = wished wish (rune_literal_mark bytes)
literal_mark bytes wish l.Text = wished wish (text_literal_mark bytes)
literal_mark bytes wish l.Float = Beyond Float
literal_mark bytes wish l.Imag = Beyond Complex

unfoldable pub literal_rule : Unit → NodeRef → Node → Wish → Literal → Rule
literal_rule u at node wish literal = done (literal_mark (first_spelled u at.file node) wish literal)

unfoldable pub dotted_rule : Unit → NodeRef → Node → List Part → Wanted → Rule
dotted_rule u at node ps w = selector_rule u at node (part_at ps 0) w

unfoldable pub paren_rule : List Part → Wish → Rule
paren_rule ps wish = used wish (part_at ps 0).mark

unfoldable pub unary_rule : Unit → NodeRef → Node → List Part → Wish → Rule
unary_rule u at node ps wish = unary_by (operator_in unary_operator u at.file node) (part_at ps 0) wish

unfoldable pub binary_rule : Unit → NodeRef → Node → List Part → Wish → Rule
binary_rule u at node ps wish = binary_by (operator_in binary_operator u at.file node) (part_at ps 0) (part_at ps 1) wish

unfoldable pub form_rule : Unit → ℕ → NodeRef → Node → List Part → Wanted → Form → Rule
form_rule u block at node ps w (f.Literal literal) = literal_rule u at node w.wish literal
form_rule u block at node ps w f.Name = name_rule u block at node w
form_rule u block at node ps w f.Selector = dotted_rule u at node ps w
form_rule u block at node ps w f.Paren = paren_rule ps w.wish
form_rule u block at node ps w f.Unary = unary_rule u at node ps w.wish
form_rule u block at node ps w f.Binary = binary_rule u at node ps w.wish
form_rule u block at node ps w f.Other = done Quiet

-- ---- the type that is taken

-- an untyped operand takes its default type where an interface is wanted
unfoldable pub freed : Wish → Option GoType → Wish
freed wish under = if takes_default under then Free else wish

abbrev pub freed_by : Wish → Option GoType → Asks Wish
freed_by wish under = done (freed wish under)

unfoldable pub freed_ask : Unit → Wish → GoType → Asks Wish
freed_ask u wish to = bind (under_ask u to) (freed_by wish)

unfoldable pub free_ask : Unit → Wish → Asks Wish
free_ask u Free = done Free
free_ask u (Takes to) = freed_ask u (Takes to) to
free_ask u (Fits to) = freed_ask u (Fits to) to
free_ask u (Assigned to) = freed_ask u (Assigned to) to

unfoldable pub freed_rule : Unit → ℕ → NodeRef → Node → List Part → Demand → Wish → Rule
freed_rule u block at node ps demand wish = form_rule u block at node ps (record { demand = demand; wish = wish }) (form_of node.kind)

-- The rule of an operand or an operator.
abbrev pub op_rule : Unit → ℕ → NodeRef → Node → List Part → Wanted → Rule
op_rule u block at node ps w = bind (free_ask u w.wish) (freed_rule u block at node ps w.demand)
