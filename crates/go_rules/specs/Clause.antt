-- The package clause, which bears the build constraint of its file (Go 1.17, "Source file organization").
use Rattle.std.specs.Prelude.{ℕ, Option, Some, None, option_and_then}
use Rattle.go_tree.specs.Head.{head_of}
use Rattle.go_tree.specs.declared.tree.FileTree.{FileTree}
use Rattle.mark_walk.specs.Asks.{done}
use Rattle.typed_tree.specs.declared.rule.Limit.{Limit}
use Rattle.typed_tree.specs.declared.rule.Limit.TheVariants.{BuildConstraint}
use Rattle.typed_marks.specs.Meanings.{Meaning, Beyond}
use Rattle.unit_read.specs.Units.{Unit, text_in, tree_at}
use Rattle.rule_words.specs.Asking.{Rule}
use Rattle.rule_words.specs.Words.{nothing}

-- profile: a file with a build constraint lies outside it
abbrev pub constraint_limit : Option ℕ → Option Limit
constraint_limit None = None
constraint_limit (Some offset) = Some BuildConstraint

abbrev pub tree_limit : Unit → ℕ → FileTree → Option Limit
tree_limit u file tree = constraint_limit (head_of tree (text_in u file)).constraint

abbrev pub clause_limit : Unit → ℕ → Option Limit
clause_limit u file = option_and_then (tree_limit u file) (tree_at u file)

abbrev pub clause_mark : Option Limit → Meaning
clause_mark None = nothing
clause_mark (Some limit) = Beyond limit

-- The rule of the package clause of a file.
abbrev pub clause_rule : Unit → ℕ → Rule
clause_rule u file = done (clause_mark (clause_limit u file))
