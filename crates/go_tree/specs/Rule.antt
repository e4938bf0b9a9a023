-- What a rule of the grammar is.
use Rattle.std.specs.Prelude.{ℕ, List}
use Rattle.go_tree.specs.declared.grammar.Ending.{Ending}
use Rattle.go_tree.specs.declared.grammar.Guard.{Guard}
use Rattle.go_tree.specs.declared.grammar.Guard.TheVariants as g
use Rattle.go_tree.specs.declared.grammar.Symbol.{Symbol}
use Rattle.go_tree.specs.declared.grammar.Terminal.{Terminal}
use Rattle.go_tree.specs.declared.grammar.Terminal.TheVariants as t

-- One alternative that makes a node, or goes on with one.
pub record Rule : Type 0 where
  pub ending : Ending
  pub level : ℕ
  pub left : ℕ
  pub before : Terminal
  pub guard : Guard
  pub symbols : List Symbol

abbrev pub row : Ending → List Symbol → Rule
row e ss = record { ending = e; level = 0; left = 0; before = t.Anything; guard = g.Any; symbols = ss }

-- only where the parts so far are such, and before such a token
abbrev pub when : Guard → Terminal → Ending → List Symbol → Rule
when h b e ss = record { ending = e; level = 0; left = 0; before = b; guard = h; symbols = ss }

-- a rule of an operand: its level, and that of its left side
abbrev pub rule : Ending → ℕ → ℕ → List Symbol → Rule
rule e l m ss = record { ending = e; level = l; left = m; before = t.Anything; guard = g.Any; symbols = ss }
