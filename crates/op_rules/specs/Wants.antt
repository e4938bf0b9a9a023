-- What the places of operands want (Go 1.17, "Operators", "Constants", "Constant expressions").
use Rattle.std.specs.Prelude.{ℕ, ◌-◌, Bool, ◌&&◌, if◌then◌else◌, nat_eq, Option, Some, None}
use Rattle.go_tree.specs.declared.tree.Node.{Node}
use Rattle.const_eval.specs.declared.operator.Operator.{Operator}
use Rattle.const_tree.specs.Operators.{binary_operator}
use Rattle.mark_walk.specs.Asks.{done, bind}
use Rattle.type_model.specs.GoTypes.{GoType}
use Rattle.typed_tree.specs.declared.place.Want.{Want as Demand}
use Rattle.typed_tree.specs.declared.place.Want.TheVariants as demand
use Rattle.typed_marks.specs.declared.item.Stage.TheVariants as s
use Rattle.typed_marks.specs.Meanings.{Free, Meaning, Wishes}
use Rattle.unit_read.specs.declared.place.Place.{Place}
use Rattle.unit_read.specs.Units.{Unit}
use Rattle.rule_words.specs.Asking.{Rule, mark_ask, mark_under}
use Rattle.rule_words.specs.Words.{wanted_in}
use Rattle.rule_words.specs.Files.{file_of}
use Rattle.rule_words.specs.Wishes.{before}
use Rattle.op_rules.specs.declared.forms.Form.{Form}
use Rattle.op_rules.specs.declared.forms.Form.TheVariants as f
use Rattle.op_rules.specs.Forms.{form_of, operator_in}
use Rattle.op_rules.specs.Operators.{shifts}
use Rattle.op_rules.specs.Wishes.{unchecked_type, default_type, shifted_wish, operand_wish}

-- ---- marks

-- what is wanted of the whole
unfoldable pub whole : Unit → ℕ → Place → Rule
whole u block p = mark_ask u s.Wanted block p.around

-- ---- parentheses and unary operators hand on

unfoldable pub unchecked_by : Demand → Meaning → Meaning → Meaning
unchecked_by demand own w = Wishes demand (unchecked_type (wanted_in w).wish own)

abbrev pub handed_by : Demand → Meaning → Meaning → Rule
handed_by demand own w = done (unchecked_by demand own w)

unfoldable pub whole_handed : Unit → ℕ → Place → Demand → Meaning → Rule
whole_handed u block p demand own = bind (whole u block p) (handed_by demand own)

unfoldable pub handing_on : Unit → ℕ → Place → Node → Demand → Rule
handing_on u block p around demand = bind (before u block around 0) (whole_handed u block p demand)

-- ---- the count of a shift takes its default type

unfoldable pub count_by : Meaning → Meaning
count_by own = Wishes demand.Count (default_type own)

abbrev pub counted_by : Meaning → Rule
counted_by own = done (count_by own)

unfoldable pub count_wants : Unit → ℕ → Node → Rule
count_wants u block around = bind (before u block around 1) counted_by

-- ---- other operands: by their own mark, that of the other and that of the whole

unfoldable pub shifted_in : Meaning → Meaning → Meaning → Meaning
shifted_in own count w = Wishes demand.Operand (shifted_wish own count (wanted_in w).wish)

unfoldable pub operand_in : Operator → Meaning → Meaning → Meaning → Option GoType → Meaning
operand_in op own beside w under = Wishes demand.Operand (operand_wish op own beside under (wanted_in w).wish)

abbrev pub operand_by : Operator → Meaning → Meaning → Meaning → Option GoType → Rule
operand_by op own beside w under = done (operand_in op own beside w under)

-- the underlying type of the operand beside it counts too
unfoldable pub operand_over : Unit → Operator → Meaning → Meaning → Meaning → Rule
operand_over u op own beside w = bind (mark_under u beside) (operand_by op own beside w)

unfoldable pub operand_with : Unit → Operator → Meaning → Meaning → Meaning → Rule
operand_with u op own beside w = if shifts op then done (shifted_in own beside w) else operand_over u op own beside w

unfoldable pub operand_in_whole : Unit → ℕ → Place → Operator → Meaning → Meaning → Rule
operand_in_whole u block p op own beside = bind (whole u block p) (operand_with u op own beside)

unfoldable pub operand_beside : Unit → ℕ → Place → Node → Operator → Meaning → Rule
operand_beside u block p around op own = bind (before u block around (1 - p.slot)) (operand_in_whole u block p op own)

unfoldable pub operand_wants : Unit → ℕ → Place → Node → Operator → Rule
operand_wants u block p around op = bind (before u block around p.slot) (operand_beside u block p around op)

-- ---- binary operators

unfoldable pub is_count : Operator → ℕ → Bool
is_count op slot = shifts op && nat_eq slot 1

unfoldable pub operator_wants : Unit → ℕ → Place → Node → Operator → Rule
operator_wants u block p around op = if is_count op p.slot then count_wants u block around else operand_wants u block p around op

unfoldable pub operator_asked : Unit → ℕ → Place → Node → Option Operator → Rule
operator_asked u block p around None = done (Wishes demand.Operand Free)
operator_asked u block p around (Some op) = operator_wants u block p around op

unfoldable pub binary_wants : Unit → ℕ → Place → Node → Rule
binary_wants u block p around = operator_asked u block p around (operator_in binary_operator u (file_of u block) around)

-- ---- forms

unfoldable pub form_wants : Unit → ℕ → Place → Node → Form → Rule
form_wants u block p around (f.Literal literal) = done (Wishes demand.Nothing Free)
form_wants u block p around f.Name = done (Wishes demand.Nothing Free)
form_wants u block p around f.Selector = done (Wishes demand.Owner Free)
form_wants u block p around f.Paren = handing_on u block p around demand.Inside
form_wants u block p around f.Unary = handing_on u block p around demand.Operand
form_wants u block p around f.Binary = binary_wants u block p around
form_wants u block p around f.Other = done (Wishes demand.Nothing Free)

-- What the place of a part wants, by the form of the node around it.
abbrev pub op_wants : Unit → ℕ → Place → Node → Rule
op_wants u block p around = form_wants u block p around (form_of around.kind)
