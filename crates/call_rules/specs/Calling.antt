-- Calls of functions and methods (Go 1.17, "Calls").
use Rattle.std.specs.Prelude.{nat_le, Bool, true, if◌then◌else◌, List, Option, Some, None}
use Rattle.std.specs.Option.{option_map_or}
use Rattle.type_model.specs.GoTypes.{GoType, GoSignature, GoTypes}
use Rattle.mark_walk.specs.Asks.{done}
use Rattle.typed_tree.specs.declared.mark.Mode.TheVariants as mode
use Rattle.typed_marks.specs.Meanings.{Meaning, Right, Wrong}
use Rattle.rule_words.specs.Asking.{Rule}
use Rattle.rule_words.specs.Parts.{Part, part_at}
use Rattle.rule_words.specs.Words.{need_type, test, nothing}
use Rattle.call_rules.specs.declared.given.Given.{Given}
use Rattle.typed_tree.specs.declared.rule.TheConstants.{WRONG_NUMBER_OF_ARGUMENTS, BAD_DOTS}
use Rattle.typed_tree.specs.declared.rule.TheConstants.{NOT_A_FUNCTION}
use Rattle.builtin_rules.specs.Types.{signature_in}
use Rattle.builtin_rules.specs.Values.{value_of}
use Rattle.call_rules.specs.Given.{is_accepted, is_variadic, results_of, given_of}
use Rattle.call_rules.specs.Types.{how_many, nth_type}

-- ---- results

-- Several results: their types are the results of this function type.
abbrev pub several_of : GoType → Meaning
several_of of = Right (record { mode = mode.Many; of = of; value = None; last = of })

abbrev pub single_of : Option GoType → Meaning
single_of None = nothing
single_of (Some of) = value_of of

unfoldable pub result_mark : GoType → GoTypes → Meaning
result_mark of results = if nat_le 2 (how_many results) then several_of of else single_of (nth_type results 0)

-- ---- tests

-- E52: the callee isn't variadic
abbrev pub may_spread : GoSignature → Bool → Bool
may_spread sig spread = if spread then is_variadic sig else true

abbrev pub counted_rule : GoType → GoSignature → Bool → Given → Rule
counted_rule of sig spread given =
    test (is_accepted sig spread given) WRONG_NUMBER_OF_ARGUMENTS (done (result_mark of (results_of sig)))

-- E52, E51
unfoldable pub signature_rule : GoType → Bool → Given → GoSignature → Rule
signature_rule of spread given sig = test (may_spread sig spread) BAD_DOTS (counted_rule of sig spread given)

-- E50, E52, E51 of what has this underlying type
abbrev pub function_rule : Bool → Given → GoType → Rule
function_rule spread given of = option_map_or (signature_rule of spread given) (signature_in of) (done (Wrong NOT_A_FUNCTION))

-- a call of a value; `call` says whether the first argument is a call
unfoldable pub called_rule : Bool → Bool → List Part → Rule
called_rule spread call ps = need_type (part_at ps 0).under (function_rule spread (given_of spread call ps))
