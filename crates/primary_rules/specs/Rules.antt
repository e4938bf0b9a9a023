-- The rule of each form of primary expression (Go 1.17, "Primary expressions", "Operators").
use Rattle.std.specs.Prelude.{ℕ, Bool, not, ◌||◌, if◌then◌else◌, List, Option, Some, None}
use Rattle.go_tree.specs.declared.tree.Node.{Node}
use Rattle.go_tree.specs.declared.tree.NodeRef.{NodeRef}
use Rattle.const_eval.specs.declared.operator.Operator.{Operator}
use Rattle.const_tree.specs.Operators.{unary_operator}
use Rattle.mark_walk.specs.Asks.{done}
use Rattle.method_sets.specs.Members.{Name, selector}
use Rattle.typed_tree.specs.Places.{is_package}
use Rattle.typed_marks.specs.Meanings.{Known, Meaning, Right, Wrong, Beyond, Quiet, Wishes, Declares}
use Rattle.unit_read.specs.Units.{Unit, nodes_at, last_spelled, is_blank}
use Rattle.rule_words.specs.Asking.{Rule}
use Rattle.rule_words.specs.Parts.{Part, part_at}
use Rattle.rule_words.specs.Words.{Wanted}
use Rattle.op_rules.specs.Forms.{operator_in}
use Rattle.op_rules.specs.Rules.{op_rule}
use Rattle.op_rules.specs.Unary.{takes_address}
use Rattle.primary_rules.specs.declared.forms.Form.{Form}
use Rattle.primary_rules.specs.declared.forms.Form.TheVariants as f
use Rattle.primary_rules.specs.Addresses.{star_rule, address_rule}
use Rattle.primary_rules.specs.Arrows.{part_takes_arrow}
use Rattle.primary_rules.specs.Asserting.{assert_rule}
use Rattle.primary_rules.specs.Forms.{form_of}
use Rattle.primary_rules.specs.Indexing.{index_rule}
use Rattle.primary_rules.specs.Receiving.{receive_rule}
use Rattle.primary_rules.specs.Selecting.{select_rule}
use Rattle.primary_rules.specs.Slicing.{slice_rule, bound_parts}

-- ---- selectors

-- a name that is written here selects what is exported, or of this package
abbrev pub name_in : Unit → NodeRef → Node → Name
name_in u at node = selector (last_spelled u at.file node) u.path

-- a blank selects nothing, and a package has no fields or methods: of these `op_rules` speaks
abbrev pub is_apart : Unit → NodeRef → Node → Known → Bool
is_apart u at node x = is_blank (last_spelled u at.file node) || is_package x.mode

abbrev pub owner_rule : Unit → ℕ → NodeRef → Node → List Part → Wanted → Known → Rule
owner_rule u block at node ps w x = if is_apart u at node x then op_rule u block at node ps w else select_rule u (name_in u at node) x

abbrev pub owned_rule : Unit → ℕ → NodeRef → Node → List Part → Wanted → Meaning → Rule
owned_rule u block at node ps w (Right x) = owner_rule u block at node ps w x
owned_rule u block at node ps w (Wrong rule) = op_rule u block at node ps w
owned_rule u block at node ps w (Beyond limit) = op_rule u block at node ps w
owned_rule u block at node ps w Quiet = op_rule u block at node ps w
owned_rule u block at node ps w (Wishes demand wish) = op_rule u block at node ps w
owned_rule u block at node ps w (Declares d) = op_rule u block at node ps w

unfoldable pub selector_rule : Unit → ℕ → NodeRef → Node → List Part → Wanted → Rule
selector_rule u block at node ps w = owned_rule u block at node ps w (part_at ps 0).mark

-- ---- unary expressions

abbrev pub operated_rule : Unit → ℕ → NodeRef → Node → List Part → Wanted → Operator → Rule
operated_rule u block at node ps w op =
    if takes_address op then address_rule (nodes_at u at.file) node (part_at ps 0) else op_rule u block at node ps w

-- `<-` is no operator of constants
abbrev pub unary_by : Unit → ℕ → NodeRef → Node → List Part → Wanted → Option Operator → Rule
unary_by u block at node ps w None = receive_rule u (part_takes_arrow (nodes_at u at.file) node) (part_at ps 0)
unary_by u block at node ps w (Some op) = operated_rule u block at node ps w op

unfoldable pub unary_rule : Unit → ℕ → NodeRef → Node → List Part → Wanted → Rule
unary_rule u block at node ps w = unary_by u block at node ps w (operator_in unary_operator u at.file node)

-- ---- forms

unfoldable pub form_rule : Unit → ℕ → NodeRef → Node → List Part → Wanted → Form → Rule
form_rule u block at node ps w f.Selector = selector_rule u block at node ps w
form_rule u block at node ps w f.Index = index_rule u (part_at ps 0) (part_at ps 1)
form_rule u block at node ps w (f.Slice bounds) = slice_rule u (part_at ps 0) (bound_parts ps bounds)
form_rule u block at node ps w f.Assert = assert_rule (part_at ps 0) (part_at ps 1)
form_rule u block at node ps w f.Star = star_rule u (part_at ps 0)
form_rule u block at node ps w f.Unary = unary_rule u block at node ps w
form_rule u block at node ps w f.Paren = op_rule u block at node ps w
form_rule u block at node ps w f.Other = done Quiet

-- The rule of a primary expression or a unary one, from its parts and from what its place wants.
abbrev pub primary_rule : Unit → ℕ → NodeRef → Node → List Part → Wanted → Rule
primary_rule u block at node ps w = form_rule u block at node ps w (form_of node.kind)
