-- Examples of the specification (Go 1.17, "Variable declarations", "Assignments"), by the definitions of this crate.
use Rattle.std.proofs.Common.{◌≡◌, false, List, [], ◌∷◌, Option, Some, None, refl}
use Rattle.gv_base.specs.declared.constant.Kind.TheVariants as kind
use Rattle.type_model.specs.GoTypes.{GoType, BasicType, FuncOf, From, NoType, AndType}
use Rattle.mark_walk.specs.Asks.{done}
use Rattle.typed_tree.specs.declared.mark.Mode.{Mode}
use Rattle.typed_tree.specs.declared.mark.Mode.TheVariants as mode
use Rattle.typed_tree.specs.declared.rule.TheConstants.{WRONG_NUMBER_OF_VALUES, NOT_ASSIGNABLE}
use Rattle.typed_marks.specs.Meanings.{Known, Wrong}
use Rattle.rule_words.specs.Words.{nothing}
use Rattle.variable_rules.specs.Counts.{shared_mark}
use Rattle.variable_rules.specs.Several.{given_to}
use Rattle.variable_rules.specs.Sharing.{values_by, shared_if}

abbrev int : GoType
int = BasicType kind.Int

-- func coord(p Point) (x, y float64)
abbrev coord : Known
coord = record { mode = mode.Many; of = FuncOf (From NoType (AndType int (AndType (BasicType kind.Text) NoType)) false); value = None; last = FuncOf (From NoType (AndType int (AndType (BasicType kind.Text) NoType)) false) }

-- var i, j = coord(p)
the_second_result : given_to coord 2 1 ≡ Some (BasicType kind.Text)
the_second_result = refl

two_names_have_two_results : shared_mark 2 coord ≡ nothing
two_names_have_two_results = refl

three_names_have_too_few : shared_mark 3 coord ≡ Wrong WRONG_NUMBER_OF_VALUES
three_names_have_too_few = refl

-- var _, found = entries[name]
abbrev entry : Known
entry = record { mode = mode.MapIndex; of = int; value = None; last = int }

found_is_a_bool : given_to entry 2 1 ≡ Some (BasicType kind.Bool)
found_is_a_bool = refl

a_single_value_is_no_two : shared_mark 2 (record { mode = mode.Value; of = int; value = None; last = int }) ≡ Wrong WRONG_NUMBER_OF_VALUES
a_single_value_is_no_two = refl

-- var x, y T = coord(p): each result is assigned to T
the_results_are_assigned : values_by mode.Many coord 2 ≡ int ∷ BasicType kind.Text ∷ []
the_results_are_assigned = refl

-- var v, ok T = a[x]: "an additional untyped boolean result"
an_untyped_boolean_is_assigned : values_by mode.MapIndex entry 2 ≡ int ∷ BasicType kind.UntypedBool ∷ []
an_untyped_boolean_is_assigned = refl

nothing_is_assigned_to_three_names : values_by mode.CommaOk entry 3 ≡ []
nothing_is_assigned_to_three_names = refl

what_is_not_assignable_is_refused : shared_if entry false ≡ done (Wrong NOT_ASSIGNABLE)
what_is_not_assignable_is_refused = refl
