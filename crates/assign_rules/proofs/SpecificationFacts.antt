-- Examples of the specification (Go 1.17, "Assignments", "IncDec statements", "Send statements", "For statements with range clause", "Select statements"), by the
-- definitions of this crate.
use Rattle.std.proofs.Common.{◌≡◌, true, false, Option, Some, None, refl}
use Rattle.gv_base.specs.declared.constant.Kind.TheVariants as kind
use Rattle.mark_walk.specs.Asks.{done}
use Rattle.type_model.specs.declared.term.Dir.TheVariants as dir
use Rattle.type_model.specs.GoTypes.{GoType, BasicType, FuncOf, From, NoType, AndType}
use Rattle.typed_tree.specs.declared.mark.Mode.TheVariants as mode
use Rattle.typed_tree.specs.declared.rule.TheConstants.{NOT_ASSIGNABLE, CANNOT_ASSIGN, WRONG_NUMBER_OF_OPERANDS, TOO_MANY_RANGE_VARIABLES, BAD_SELECT_CASE}
use Rattle.typed_marks.specs.Meanings.{Known, Right, Wrong}
use Rattle.rule_words.specs.Words.{nothing}
use Rattle.assign_rules.specs.Assigning.{target_known, equal_rule, shared_mark}
use Rattle.assign_rules.specs.Ranging.{Ranged, text_ranged, received_from, only_one, pair_of, range_counted, ranged_type}
use Rattle.assign_rules.specs.Sending.{sent_along}
use Rattle.assign_rules.specs.Sharing.{given_type, shared_if}

abbrev int : GoType
int = BasicType kind.Int

abbrev text : GoType
text = BasicType kind.Text

-- x = 1, where x is a variable; f() = 1
abbrev x : Known
x = record { mode = mode.Variable; of = int; value = None; last = int }

abbrev called : Known
called = record { mode = mode.Value; of = int; value = None; last = int }

a_variable_is_assigned : target_known x ≡ done (Right x)
a_variable_is_assigned = refl

a_value_is_not_assigned : target_known called ≡ done (Wrong CANNOT_ASSIGN)
a_value_is_not_assigned = refl

-- a, b = 1
two_operands_of_one_value : equal_rule 2 1 false ≡ done (Wrong WRONG_NUMBER_OF_OPERANDS)
two_operands_of_one_value = refl

-- func pair() (int, string)
abbrev pair : Known
pair = record { mode = mode.Many; of = FuncOf (From NoType (AndType int (AndType text NoType)) false); value = None; last = int }

-- a, b = pair()
two_operands_of_two_results : shared_mark 2 false pair ≡ done nothing
two_operands_of_two_results = refl

three_operands_of_two_results : shared_mark 3 false pair ≡ done (Wrong WRONG_NUMBER_OF_OPERANDS)
three_operands_of_two_results = refl

the_second_result_is_assigned : given_type pair 2 1 ≡ Some text
the_second_result_is_assigned = refl

-- v, ok = m[k]: ok of any boolean type
abbrev entry : Known
entry = record { mode = mode.MapIndex; of = int; value = None; last = int }

whether_there_is_one_is_an_untyped_boolean : given_type entry 2 1 ≡ Some (BasicType kind.UntypedBool)
whether_there_is_one_is_an_untyped_boolean = refl

what_is_not_assignable_is_refused : shared_if entry false ≡ done (Wrong NOT_ASSIGNABLE)
what_is_not_assignable_is_refused = refl

-- case a, b = pair(): it receives nothing
a_call_is_no_communication : shared_mark 2 true pair ≡ done (Wrong BAD_SELECT_CASE)
a_call_is_no_communication = refl

-- for i, r = range "text"
of_a_text_runes : text_ranged kind.Text ≡ Some (pair_of int (BasicType kind.Int32))
of_a_text_runes = refl

of_an_integer_nothing : text_ranged kind.Int ≡ None
of_an_integer_nothing = refl

the_second_is_a_rune : ranged_type 1 (pair_of int (BasicType kind.Int32)) ≡ Some (BasicType kind.Int32)
the_second_is_a_rune = refl

-- for a, b = range c
a_channel_gives_one : received_from dir.Receive text ≡ Some (only_one text)
a_channel_gives_one = refl

what_is_only_sent_to_gives_nothing : received_from dir.Send text ≡ None
what_is_only_sent_to_gives_nothing = refl

two_of_a_channel : range_counted 2 (only_one text) ≡ done (Wrong TOO_MANY_RANGE_VARIABLES)
two_of_a_channel = refl

one_of_a_channel : range_counted 1 (only_one text) ≡ done nothing
one_of_a_channel = refl

-- c <- x, where c is received from alone
nothing_is_sent_to_what_is_only_received_from : sent_along dir.Receive text ≡ None
nothing_is_sent_to_what_is_only_received_from = refl
