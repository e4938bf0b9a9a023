-- Examples of the specification (Go 1.17, "Expression statements", "Return statements", "Expression switches", "Type switches"), by the definitions of this crate.
use Rattle.std.proofs.Common.{◌≡◌, ℕ, true, false, List, [], ◌∷◌, Option, Some, None, codes, refl, pos}
use Rattle.gv_base.specs.declared.constant.Kind.TheVariants as kind
use Rattle.go_tree.specs.declared.tree.NodeKind.TheVariants as k
use Rattle.mark_walk.specs.Asks.{done}
use Rattle.type_model.specs.GoTypes.{GoType, BasicType, FuncOf, From, NoType, AndType}
use Rattle.type_rel.specs.declared.answer.Implements.TheVariants.{Yes}
use Rattle.typed_tree.specs.declared.mark.Mode.TheVariants as mode
use Rattle.typed_tree.specs.declared.rule.TheConstants.{NOT_A_TYPE, NOT_COMPARABLE, MISMATCHED_OPERANDS, BUILTIN_MUST_BE_CALLED, NOT_A_STATEMENT, WRONG_NUMBER_OF_RESULTS}
use Rattle.typed_marks.specs.Meanings.{Known, Right, Wrong}
use Rattle.rule_words.specs.Words.{nothing}
use Rattle.assign_rules.specs.Words.{variable}
use Rattle.statement_rules.specs.Placing.{takes_blank}
use Rattle.statement_rules.specs.Returning.{bare_rule, returned_known}
use Rattle.statement_rules.specs.Standing.{gives_value, standing_fault}
use Rattle.statement_rules.specs.Switching.{second_if, other_if}
use Rattle.statement_rules.specs.TypeSwitching.{implemented, value_or, clause_typed}

abbrev int : GoType
int = BasicType kind.Int

abbrev text : GoType
text = BasicType kind.Text

abbrev x : Known
x = record { mode = mode.Variable; of = int; value = None; last = int }

-- "len("foo")  // illegal if len is the built-in function"
the_length_is_a_value : gives_value (codes "len") ≡ true
the_length_is_a_value = refl

copies_may_stand_alone : gives_value (codes "copy") ≡ false
copies_may_stand_alone = refl

a_variable_is_no_statement : standing_fault mode.Variable ≡ NOT_A_STATEMENT
a_variable_is_no_statement = refl

a_builtin_is_called : standing_fault mode.Builtin ≡ BUILTIN_MUST_BE_CALLED
a_builtin_is_called = refl

-- func f() int { return }
results_are_returned : bare_rule false 1 ≡ done (Wrong WRONG_NUMBER_OF_RESULTS)
results_are_returned = refl

-- func f() (n int) { return }
named_results_are_there : bare_rule true 1 ≡ done nothing
named_results_are_there = refl

-- func f() { return }
without_results_nothing_is_returned : bare_rule false 0 ≡ done nothing
without_results_nothing_is_returned = refl

-- func pair() (int, string)
abbrev pair : Known
pair = record { mode = mode.Many; of = FuncOf (From NoType (AndType int (AndType text NoType)) false); value = None; last = int }

-- return pair()
two_results_for_two : returned_known 2 pair ≡ done nothing
two_results_for_two = refl

two_results_for_three : returned_known 3 pair ≡ done (Wrong WRONG_NUMBER_OF_RESULTS)
two_results_for_three = refl

what_is_not_comparable_is_no_case : second_if x false ≡ done (Wrong NOT_COMPARABLE)
what_is_not_comparable_is_no_case = refl

what_is_assignable_neither_way_is_no_case : other_if x text false ≡ done (Wrong MISMATCHED_OPERANDS)
what_is_assignable_neither_way_is_no_case = refl

-- case nil
abbrev of_nil : Known
of_nil = record { mode = mode.Nil; of = BasicType kind.UntypedNil; value = None; last = BasicType kind.UntypedNil }

nil_stands_for_a_type : value_or of_nil ≡ done (Right of_nil)
nil_stands_for_a_type = refl

a_variable_stands_for_none : value_or x ≡ done (Wrong NOT_A_TYPE)
a_variable_stands_for_none = refl

what_implements_is_a_case : implemented x Yes ≡ done (Right x)
what_implements_is_a_case = refl

-- "in clauses listing exactly one type, the variable has that type"; of nil that of the operand
abbrev of_text : Known
of_text = record { mode = mode.TypeName; of = text; value = None; last = text }

a_clause_gives_its_type : clause_typed x of_text ≡ done (variable text)
a_clause_gives_its_type = refl

of_nil_that_of_the_operand : clause_typed x of_nil ≡ done (variable int)
of_nil_that_of_the_operand = refl

-- _ = x
a_blank_is_assigned : takes_blank k.Assign 0 ≡ true
a_blank_is_assigned = refl

-- x = _
a_blank_is_no_value : takes_blank k.Assign 1 ≡ false
a_blank_is_no_value = refl
