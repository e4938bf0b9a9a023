-- Operands that agree: whether the operator is defined for them, and whether they are comparable (Go 1.17, "Arithmetic operators",
-- "Comparison operators", "Logical operators").
use Rattle.std.specs.Prelude.{Bool, ◌||◌, if◌then◌else◌}
use Rattle.std.specs.Option.{option_map_or}
use Rattle.gv_base.specs.declared.constant.Kind.{Kind}
use Rattle.gv_base.specs.declared.constant.Kind.TheVariants as k
use Rattle.const_eval.specs.declared.operator.Operator.{Operator}
use Rattle.mark_walk.specs.Asks.{done, put}
use Rattle.type_model.specs.GoTypes.{GoType, BasicType}
use Rattle.type_rel.specs.Terms.{kind_of}
use Rattle.typed_tree.specs.declared.rule.TheConstants.{OPERATOR_NOT_DEFINED, NOT_COMPARABLE}
use Rattle.typed_tree.specs.Operands.{is_nil}
use Rattle.typed_marks.specs.Meanings.{Wish, Meaning}
use Rattle.type_questions.specs.Questions.{IsComparable}
use Rattle.rule_words.specs.Asking.{Rule}
use Rattle.rule_words.specs.Putting.{held}
use Rattle.rule_words.specs.Words.{test}
use Rattle.rule_words.specs.Types.{is_of}
use Rattle.op_rules.specs.Operands.{Operand, computed}
use Rattle.op_rules.specs.Operators.{equates, takes_two, tells_apart}
use Rattle.op_rules.specs.Results.{result_mark}
use Rattle.op_rules.specs.Types.{common}

-- a comparison that is no constant
unfoldable pub truth : Wish → Meaning
truth wish = computed (BasicType k.UntypedBool) wish

-- ---- E35

-- one of the two is nil
unfoldable pub has_nil : Operand → Operand → Bool
has_nil x y = is_of is_nil x.of || is_of is_nil y.of

unfoldable pub comparable_ask : GoType → Meaning → Rule
comparable_ask of good = put (IsComparable of) (held good NOT_COMPARABLE)

-- operands of a type that isn't basic: a slice, map or function is compared with nil alone
unfoldable pub type_compared : Operand → Operand → Wish → Rule
type_compared x y wish = if has_nil x y then done (truth wish) else comparable_ask (common x.of y.of) (truth wish)

-- operands of a basic type; two nils aren't comparable
unfoldable pub basic_compared : Operator → Operand → Operand → Wish → Kind → Rule
basic_compared op x y wish kind = test (tells_apart op kind) NOT_COMPARABLE (done (result_mark op x y wish))

unfoldable pub equated : Operator → Operand → Operand → Wish → GoType → Rule
equated op x y wish at = option_map_or (basic_compared op x y wish) (kind_of at) (type_compared x y wish)

-- ---- E34

-- operands of types that are not basic have `==` and `!=` alone
unfoldable pub is_defined_at : Operator → GoType → Bool
is_defined_at op at = option_map_or (takes_two op) (kind_of at) (equates op)

unfoldable pub operated : Operator → Operand → Operand → Wish → GoType → Rule
operated op x y wish at = test (is_defined_at op at) OPERATOR_NOT_DEFINED (equated op x y wish at)

-- E34, E35, E31, E30
unfoldable pub agreed : Operator → Operand → Operand → Wish → Rule
agreed op x y wish = operated op x y wish (common x.at y.at)
