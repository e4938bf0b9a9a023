-- Type assertions (Go 1.17, "Type assertions"). The tests stand in the order E46, E47.
use Rattle.std.specs.Prelude.{Bool, true, false, if◌then◌else◌, Option, Some, None}
use Rattle.mark_walk.specs.Asks.{done, bind}
use Rattle.type_model.specs.GoTypes.{GoType}
use Rattle.type_rel.specs.declared.answer.Implements.{Implements}
use Rattle.type_rel.specs.declared.answer.Implements.TheVariants.{Yes, Missing}
use Rattle.type_questions.specs.declared.reached.Reached.{Reached}
use Rattle.typed_tree.specs.declared.mark.Mode.TheVariants as mode
use Rattle.typed_marks.specs.Meanings.{Known, Wrong}
use Rattle.rule_words.specs.Asking.{Rule}
use Rattle.rule_words.specs.Parts.{Part}
use Rattle.rule_words.specs.Words.{need, need_type, test}
use Rattle.rule_words.specs.Types.{is_interface}
use Rattle.type_answers.specs.Asked.{implements_ask, need_told}
use Rattle.typed_tree.specs.declared.rule.TheConstants.{NOT_AN_INTERFACE, IMPOSSIBLE_TYPE}
use Rattle.primary_rules.specs.Operands.{Operand, operand_at, need_operand, standing}

-- a value of the type, or that and whether the assertion holds
abbrev pub asserted : GoType → Rule
asserted of = done (standing mode.CommaOk of)

-- E47: a type that is no interface "must implement the (interface) type of x"
abbrev pub implemented : GoType → Implements → Rule
implemented of Yes = asserted of
implemented of (Missing name) = done (Wrong IMPOSSIBLE_TYPE)

abbrev pub assert_told : GoType → Reached Implements → Rule
assert_told of told = need_told told (implemented of)

unfoldable pub assert_implements : GoType → GoType → Rule
assert_implements of interface = bind (implements_ask of interface) (assert_told of)

abbrev pub assert_type : Operand → Known → GoType → Rule
assert_type x y under = if is_interface under then asserted y.of else assert_implements y.of x.under

abbrev pub assert_known : Operand → Option GoType → Known → Rule
assert_known x under y = need_type under (assert_type x y)

abbrev pub assert_to : Part → Operand → Rule
assert_to t x = need t.mark (assert_known x t.under)

-- E46
abbrev pub assert_operand : Part → Operand → Rule
assert_operand t x = test (is_interface x.under) NOT_AN_INTERFACE (assert_to t x)

unfoldable pub assert_rule : Part → Part → Rule
assert_rule a t = need_operand (operand_at a) (assert_operand t)
