-- A call as the only argument of another: its results are the arguments (Go 1.17, "Calls").
use Rattle.std.specs.Prelude.{ℕ, ◌+◌, ◌==◌, Bool, true, false, ◌&&◌, if◌then◌else◌, length, Option, Some, None}
use Rattle.std.specs.Option.{option_map_or}
use Rattle.go_tree.specs.declared.tree.Node.{Node}
use Rattle.go_tree.specs.declared.tree.NodeKind.{NodeKind}
use Rattle.go_tree.specs.declared.tree.NodeKind.TheVariants as k
use Rattle.type_model.specs.GoTypes.{GoType, GoTypes, GoSignature, NoType, AndType}
use Rattle.mark_walk.specs.Asks.{done, bind}
use Rattle.typed_tree.specs.declared.mark.Mode.{Mode}
use Rattle.typed_tree.specs.declared.mark.Mode.TheVariants as mode
use Rattle.typed_tree.specs.declared.rule.Rule.{Rule as RuleNumber}
use Rattle.typed_tree.specs.declared.rule.TheConstants.{NOT_A_TYPE, NOT_A_VALUE, SEVERAL_VALUES, NOT_ASSIGNABLE}
use Rattle.typed_marks.specs.Meanings.{Known, Meaning, Right, Wrong, Beyond, Quiet, Wishes, Declares}
use Rattle.type_questions.specs.declared.reached.Reached.{Reached}
use Rattle.type_questions.specs.declared.reached.Reached.TheVariants.{Got, Lost}
use Rattle.type_answers.specs.Asked.{assignable_ask, need_told}
use Rattle.unit_read.specs.Units.{Unit}
use Rattle.rule_words.specs.Asking.{Asks, Rule, mark_under, under_ask}
use Rattle.rule_words.specs.Files.{file_of}
use Rattle.rule_words.specs.Types.{takes_default}
use Rattle.rule_words.specs.Wishes.{before}
use Rattle.builtin_rules.specs.declared.lines.Builtin.{Builtin}
use Rattle.builtin_rules.specs.declared.lines.Taking.{Taking}
use Rattle.builtin_rules.specs.declared.lines.Taking.TheVariants as takes
use Rattle.call_rules.specs.declared.callee.Callee.{Callee}
use Rattle.call_rules.specs.declared.callee.Callee.TheVariants as c
use Rattle.builtin_rules.specs.Builtins.{line_of}
use Rattle.builtin_rules.specs.Named.{builtin_in}
use Rattle.builtin_rules.specs.Types.{signature_in}
use Rattle.call_rules.specs.Callees.{callee_of}
use Rattle.call_rules.specs.Given.{param_at, accepts, results_of}
use Rattle.call_rules.specs.Types.{how_many}

-- ---- where results are passed

abbrev pub is_several_mode : Mode → Bool
is_several_mode mode.Many = true
is_several_mode mode.NoValue = true
is_several_mode _ = false

abbrev pub gives_several : Meaning → Bool
gives_several (Right x) = is_several_mode x.mode
gives_several (Wrong rule) = false
gives_several (Beyond limit) = false
gives_several Quiet = false
gives_several (Wishes demand wish) = false
gives_several (Declares d) = false

abbrev pub is_plain_call : NodeKind → Bool
is_plain_call k.Call = true
is_plain_call _ = false

abbrev pub is_only : Node → ℕ → Bool
is_only around slot = (slot == 1) && (length around.parts == 2)

-- The only argument of a call without `...` is itself a call of several results, or of none.
unfoldable pub is_passed : Node → ℕ → Meaning → Bool
is_passed around slot m = is_plain_call around.kind && (is_only around slot && gives_several m)

-- ---- each result is assigned to its parameter

abbrev pub assigned_result : GoType → GoType → Option GoType → Asks (Reached Bool)
assigned_result of to under = assignable_ask (takes_default under) of None to

unfoldable pub result_assigned : Unit → GoType → Option GoType → Asks (Reached Bool)
result_assigned u of None = done (Got true)
result_assigned u of (Some to) = bind (under_ask u to) (assigned_result of to)

abbrev pub then_others : Asks (Reached Bool) → Reached Bool → Asks (Reached Bool)
then_others rest (Got b) = if b then rest else done (Got false)
then_others rest Lost = done Lost

-- from the result at a place on, one after the other until one isn't
abbrev pub all_assigned : Unit → GoSignature → ℕ → GoTypes → Asks (Reached Bool)
all_assigned u sig i NoType = done (Got true)
all_assigned u sig i (AndType of results) = bind (result_assigned u of (param_at sig false i)) (then_others (all_assigned u sig (i + 1) results))

-- ---- the rule

-- E32
abbrev pub passed_if : Known → Bool → Rule
passed_if x b = if b then done (Right x) else done (Wrong NOT_ASSIGNABLE)

abbrev pub passed_told : Known → Reached Bool → Rule
passed_told x told = need_told told (passed_if x)

-- where the numbers differ the call has a test of its own
unfoldable pub results_passed : Unit → Known → GoSignature → GoTypes → Rule
results_passed u x sig results =
    if accepts sig false (how_many results) then bind (all_assigned u sig 0 results) (passed_told x) else done (Right x)

abbrev pub other_passed : Unit → Known → GoSignature → GoSignature → Rule
other_passed u x sig other = results_passed u x sig (results_of other)

abbrev pub signature_of_many : Known → Mode → Option GoSignature
signature_of_many x mode.Many = signature_in x.of
signature_of_many x _ = None

unfoldable pub signature_passed : Unit → Known → GoSignature → Rule
signature_passed u x sig = option_map_or (other_passed u x sig) (signature_of_many x x.mode) (done (Right x))

abbrev pub function_passed : Unit → Known → GoType → Rule
function_passed u x of = option_map_or (signature_passed u x) (signature_in of) (done (Right x))

abbrev pub under_passed : Unit → Known → Option GoType → Rule
under_passed u x under = option_map_or (function_passed u x) under (done (Right x))

-- E24, E25: a conversion takes a single value
abbrev pub several_fault : Mode → RuleNumber
several_fault mode.Many = SEVERAL_VALUES
several_fault _ = NOT_A_VALUE

-- so do the built-in functions; E10 of those that take a type
abbrev pub taking_fault : Taking → Mode → RuleNumber
taking_fault takes.Type mode = NOT_A_TYPE
taking_fault takes.Value mode = several_fault mode
taking_fault takes.Any mode = several_fault mode
taking_fault takes.Size mode = several_fault mode
taking_fault takes.Element mode = several_fault mode
taking_fault takes.Key mode = several_fault mode

abbrev pub line_fault : Mode → Builtin → RuleNumber
line_fault mode b = taking_fault (line_of b).first mode

unfoldable pub builtin_fault : Option Builtin → Mode → RuleNumber
builtin_fault b mode = option_map_or (line_fault mode) b (several_fault mode)

abbrev pub builtin_passed : Unit → ℕ → Node → Known → Rule
builtin_passed u block around x = done (Wrong (builtin_fault (builtin_in u (file_of u block) around) x.mode))

abbrev pub value_passed : Unit → Known → Meaning → Rule
value_passed u x f = bind (mark_under u f) (under_passed u x)

unfoldable pub passed_by : Unit → ℕ → Node → Known → Meaning → Callee → Rule
passed_by u block around x f c.Value = value_passed u x f
passed_by u block around x f c.Type = done (Wrong (several_fault x.mode))
passed_by u block around x f c.Builtin = builtin_passed u block around x
passed_by u block around x f (c.Refused rule) = done (Right x)

abbrev pub passed_known : Unit → ℕ → Node → Known → Known → Rule
passed_known u block around x y = passed_by u block around x (Right y) (callee_of y.mode)

-- nothing is wanted where what is called isn't good
unfoldable pub passed_to : Unit → ℕ → Node → Known → Meaning → Rule
passed_to u block around x (Right y) = passed_known u block around x y
passed_to u block around x (Wrong rule) = done (Right x)
passed_to u block around x (Beyond limit) = done (Right x)
passed_to u block around x Quiet = done (Right x)
passed_to u block around x (Wishes demand wish) = done (Right x)
passed_to u block around x (Declares d) = done (Right x)

unfoldable pub known_passed : Unit → ℕ → Node → Known → Rule
known_passed u block around x = bind (before u block around 0) (passed_to u block around x)

-- What the place of the only argument makes of its mark, where that is passed.
unfoldable pub passed_rule : Unit → ℕ → Node → Meaning → Rule
passed_rule u block around (Right x) = known_passed u block around x
passed_rule u block around (Wrong rule) = done (Wrong rule)
passed_rule u block around (Beyond limit) = done (Beyond limit)
passed_rule u block around Quiet = done Quiet
passed_rule u block around (Wishes demand wish) = done Quiet
passed_rule u block around (Declares d) = done Quiet
