-- How many arguments a function is given, and whether it takes as many (Go 1.17, "Calls", "Passing arguments to ... parameters").
use Rattle.std.specs.Prelude.{ℕ, ◌-◌, ◌==◌, nat_le, Bool, true, false, ◌&&◌, not, if◌then◌else◌, List, Option, Some, None, option_and_then}
use Rattle.type_model.specs.GoTypes.{GoType, GoSignature, GoTypes, From}
use Rattle.type_rel.specs.Terms.{slice_of}
use Rattle.typed_tree.specs.declared.mark.Mode.{Mode}
use Rattle.typed_tree.specs.declared.mark.Mode.TheVariants as mode
use Rattle.typed_marks.specs.Meanings.{Known, Meaning, Right, Wrong, Beyond, Quiet, Wishes, Declares}
use Rattle.rule_words.specs.Parts.{Part, part_at}
use Rattle.call_rules.specs.declared.given.Given.{Given}
use Rattle.call_rules.specs.declared.given.Given.TheVariants as g
use Rattle.builtin_rules.specs.Named.{argument_count}
use Rattle.builtin_rules.specs.Types.{signature_in}
use Rattle.call_rules.specs.Types.{how_many, nth_type}

-- ---- parameters

abbrev pub params_of : GoSignature → GoTypes
params_of (From params results variadic) = params

abbrev pub results_of : GoSignature → GoTypes
results_of (From params results variadic) = results

abbrev pub is_variadic : GoSignature → Bool
is_variadic (From params results variadic) = variadic

-- the last parameter, and those behind which there is none
abbrev pub is_last : GoTypes → ℕ → Bool
is_last params i = nat_le (how_many params - 1) i

abbrev pub last_of : GoTypes → Option GoType
last_of params = nth_type params (how_many params - 1)

-- Each argument from the last parameter of a variadic function on is one of its elements, unless the last has `...` behind it.
abbrev pub is_element : GoSignature → Bool → ℕ → Bool
is_element sig spread i = is_variadic sig && (not spread && is_last (params_of sig) i)

-- the type of the parameter to which the argument at a place is assigned, from 0; None where there is no parameter
unfoldable pub param_at : GoSignature → Bool → ℕ → Option GoType
param_at sig spread i =
    if is_element sig spread i then option_and_then slice_of (last_of (params_of sig)) else nth_type (params_of sig) i

-- ---- arguments

-- what a single argument gives: all results of a call, of which there is at least one, or one value
abbrev pub many_given : Option GoSignature → Given
many_given None = g.Unknown
many_given (Some sig) = g.Count (how_many (results_of sig))

abbrev pub given_by : Known → Mode → Given
given_by x mode.Many = many_given (signature_in x.of)
given_by x mode.NoValue = g.Nothing
given_by x _ = g.Count 1

-- how many a call gives that isn't good isn't known
abbrev pub given_unknown : Bool → Given
given_unknown call = if call then g.Unknown else g.Count 1

unfoldable pub sole_given : Bool → Meaning → Given
sole_given call (Right x) = given_by x x.mode
sole_given call (Wrong rule) = given_unknown call
sole_given call (Beyond limit) = given_unknown call
sole_given call Quiet = given_unknown call
sole_given call (Wishes demand wish) = given_unknown call
sole_given call (Declares d) = given_unknown call

-- a single argument without `...` behind it stands alone
abbrev pub is_sole : Bool → ℕ → Bool
is_sole spread n = not spread && (n == 1)

-- `call` says whether the first argument is a call
unfoldable pub given_of : Bool → Bool → List Part → Given
given_of spread call ps = if is_sole spread (argument_count ps) then sole_given call (part_at ps 1).mark else g.Count (argument_count ps)

-- ---- E51

-- a variadic function takes any number for its last parameter; with `...` behind the last argument that is the parameter itself
abbrev pub takes_any : GoSignature → Bool → Bool
takes_any sig spread = is_variadic sig && not spread

unfoldable pub accepts : GoSignature → Bool → ℕ → Bool
accepts sig spread n =
    if takes_any sig spread then nat_le (how_many (params_of sig) - 1) n else (n == how_many (params_of sig))

abbrev pub is_accepted : GoSignature → Bool → Given → Bool
is_accepted sig spread (g.Count n) = accepts sig spread n
is_accepted sig spread g.Nothing = false
is_accepted sig spread g.Unknown = true
