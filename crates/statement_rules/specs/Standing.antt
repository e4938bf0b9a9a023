-- Expressions as statements, `go` and `defer` (Go 1.17, "Expression statements", "Go statements", "Defer statements").
use Rattle.std.specs.Prelude.{ℕ, Bool, ◌||◌, ◌&&◌, true, false, if◌then◌else◌, codes, List}
use Rattle.std.specs.Option.{option_map_or}
use Rattle.std.specs.Str.{bytes_eq}
use Rattle.go_tree.specs.declared.tree.Node.{Node}
use Rattle.object_order.specs.Spots.{place}
use Rattle.package_objects.specs.Declares.{part, kind_at}
use Rattle.std.specs.Prelude.{slice_get}
use Rattle.mark_walk.specs.Asks.{done, bind}
use Rattle.typed_tree.specs.declared.mark.Mode.{Mode}
use Rattle.typed_tree.specs.declared.mark.Mode.TheVariants as mode
use Rattle.typed_tree.specs.declared.rule.Rule.{Rule as RuleNumber}
use Rattle.typed_marks.specs.declared.item.Stage.TheVariants as s
use Rattle.typed_marks.specs.Meanings.{Known, Meaning, Right, Wrong, Quiet}
use Rattle.unit_read.specs.Units.{Unit, nodes_at, name_at}
use Rattle.rule_words.specs.Asking.{Rule, mark_ask}
use Rattle.rule_words.specs.Good.{given}
use Rattle.rule_words.specs.Words.{nothing}
use Rattle.variable_rules.specs.Forms.{bare}
use Rattle.typed_tree.specs.declared.rule.TheConstants.{BAD_SELECT_CASE, BUILTIN_MUST_BE_CALLED, NOT_A_STATEMENT, NOT_A_CALL}
use Rattle.assign_rules.specs.Kinds.{is_call}
use Rattle.assign_rules.specs.Selecting.{receives_at}
use Rattle.assign_rules.specs.Words.{placed_good, is_builtin_mode}

-- ---- calls

-- "The following built-in functions are not permitted in statement context"; those of packages outside the profile aside
abbrev pub gives_value : List ℕ → Bool
gives_value name =
    bytes_eq name (codes "append") || (bytes_eq name (codes "cap") || (bytes_eq name (codes "len") || (bytes_eq name (codes "make") || bytes_eq name (codes "new"))))

abbrev pub builtin_gives_value : Unit → ℕ → ℕ → Bool
builtin_gives_value u file n = gives_value (name_at u (place file (bare (nodes_at u file) n)))

-- what is called is no type, and no such built-in function
abbrev pub is_refused : Unit → ℕ → ℕ → Mode → Bool
is_refused u file n mode.TypeName = true
is_refused u file n mode.Builtin = builtin_gives_value u file n
is_refused u file n _ = false

-- a call may be a statement, and is good, or breaks this rule
abbrev pub callee_known : Unit → ℕ → ℕ → Meaning → RuleNumber → Known → Rule
callee_known u file n good rule f = if is_refused u file n f.mode then done (Wrong rule) else done good

abbrev pub callee_told : Unit → ℕ → ℕ → Meaning → RuleNumber → Meaning → Rule
callee_told u file n good rule m = given m (callee_known u file n good rule)

abbrev pub callee_rule : Unit → ℕ → ℕ → Meaning → RuleNumber → ℕ → Rule
callee_rule u block file good rule n = bind (mark_ask u s.Placed block n) (callee_told u file n good rule)

abbrev pub called_by : Unit → ℕ → ℕ → Meaning → RuleNumber → Node → Rule
called_by u block file good rule call = option_map_or (callee_rule u block file good rule) (part call 0) (done Quiet)

unfoldable pub called_rule : Unit → ℕ → ℕ → ℕ → Meaning → RuleNumber → Rule
called_rule u block file n good rule = option_map_or (called_by u block file good rule) (slice_get (nodes_at u file) n) (done Quiet)

-- ---- expressions, parentheses aside

-- E56 of a built-in function that isn't called, E70 of others
abbrev pub standing_fault : Mode → RuleNumber
standing_fault mode = if is_builtin_mode mode then BUILTIN_MUST_BE_CALLED else NOT_A_STATEMENT

abbrev pub other_rule : Unit → ℕ → ℕ → Known → Rule
other_rule u file n x = if receives_at u file n then done (Right x) else done (Wrong (standing_fault x.mode))

-- E70: "function and method calls and receive operations can appear in statement context. Such statements may be parenthesized"
abbrev pub standing_at : Unit → ℕ → ℕ → ℕ → Known → Rule
standing_at u block file n x =
    if is_call (kind_at (nodes_at u file) n) then called_rule u block file n (Right x) NOT_A_STATEMENT else other_rule u file n x

abbrev pub standing_known : Unit → ℕ → ℕ → ℕ → Known → Rule
standing_known u block file n x = standing_at u block file (bare (nodes_at u file) n) x

-- The mark of an expression that is a statement, from its own mark.
abbrev pub standing_rule : Unit → ℕ → ℕ → ℕ → Meaning → Rule
standing_rule u block file n m = placed_good (standing_known u block file n) m

-- ---- in a clause of a select statement: E86 of what is no receive operation

abbrev pub communicating_known : Unit → ℕ → ℕ → Known → Rule
communicating_known u file n x = if receives_at u file (bare (nodes_at u file) n) then done (Right x) else done (Wrong BAD_SELECT_CASE)

abbrev pub communicating_rule : Unit → ℕ → ℕ → Meaning → Rule
communicating_rule u file n m = placed_good (communicating_known u file n) m

-- ---- `go`, `defer`: E71, "the expression must be a function or method call; it cannot be parenthesized"; built-in functions as in expression statements

abbrev pub started_known : Unit → ℕ → ℕ → ℕ → Known → Rule
started_known u block file n x =
    if is_call (kind_at (nodes_at u file) n) then called_rule u block file n nothing NOT_A_CALL else done (Wrong NOT_A_CALL)

abbrev pub started_told : Unit → ℕ → ℕ → ℕ → Meaning → Rule
started_told u block file n m = given m (started_known u block file n)

abbrev pub started_part : Unit → ℕ → ℕ → ℕ → Rule
started_part u block file n = bind (mark_ask u s.Placed block n) (started_told u block file n)

-- The rule of `go` and `defer`.
abbrev pub go_rule : Unit → ℕ → ℕ → Node → Rule
go_rule u block file node = option_map_or (started_part u block file) (part node 0) (done Quiet)
