-- How many values a specification of variables needs (Go 1.17, "Variable declarations", "Assignments").
use Rattle.std.specs.Prelude.{ℕ, ◌==◌, Bool, if◌then◌else◌, is_some, List, Option, Some, None}
use Rattle.std.specs.Option.{option_map_or}
use Rattle.go_tree.specs.declared.tree.Node.{Node}
use Rattle.mark_walk.specs.Asks.{done, bind}
use Rattle.typed_tree.specs.declared.rule.TheConstants.{WRONG_NUMBER_OF_VALUES}
use Rattle.typed_marks.specs.declared.item.Stage.TheVariants as s
use Rattle.typed_marks.specs.Meanings.{Known, Meaning, Wrong, Quiet}
use Rattle.unit_read.specs.Units.{Unit}
use Rattle.rule_words.specs.Asking.{Rule, mark_ask}
use Rattle.rule_words.specs.Good.{known_told}
use Rattle.rule_words.specs.Words.{nothing}
use Rattle.variable_rules.specs.Forms.{name_count, value_count, shared_value}
use Rattle.variable_rules.specs.Several.{given_to}

-- one value for so many names
abbrev pub shared_mark : ℕ → Known → Meaning
shared_mark count x = if is_some (given_to x count 0) then nothing else Wrong WRONG_NUMBER_OF_VALUES

-- nothing is said where that value isn't good
abbrev pub shared_told : ℕ → Meaning → Rule
shared_told count m = done (option_map_or (shared_mark count) (known_told m) Quiet)

abbrev pub shared_rule : Unit → ℕ → ℕ → ℕ → Rule
shared_rule u block count n = bind (mark_ask u s.Placed block n) (shared_told count)

abbrev pub equal_mark : ℕ → ℕ → Meaning
equal_mark names values = if names == values then nothing else Wrong WRONG_NUMBER_OF_VALUES

-- E99: names and values differ in number; but for two or more names of one call's results, and two names of a value with its second
abbrev pub counted_rule : Unit → ℕ → ℕ → List Node → ℕ → Node → Rule
counted_rule u block file nodes slot node =
    option_map_or (shared_rule u block (name_count nodes node)) (shared_value u file nodes slot node) (done (equal_mark (name_count nodes node) (value_count nodes slot node)))
