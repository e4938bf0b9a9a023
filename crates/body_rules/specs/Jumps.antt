-- Jumps to labels (Go 1.17, "Goto statements").
use Rattle.std.specs.Prelude.{ℕ, ◌<◌, List, Option, None, get_or, slice_get, option_and_then}
use Rattle.go_tree.specs.declared.tree.Node.{Node}
use Rattle.node_values.specs.Trees.{Holds, IsOfKind, InnermostOf}
use Rattle.body_rules.specs.Kinds.{is_block, declares}

-- the label that a jump denotes: `labels` has the label's name for the name behind a jump
abbrev pub label_of : List (Option ℕ) → Node → Option ℕ
label_of labels node = option_and_then (λ m. get_or labels m None) (slice_get node.parts 0)

-- a variable is declared in the label's block, between the jump and the label
pub record JumpsOver (nodes : List Node) (n l : ℕ) : Type 0 where
  pub b : ℕ
  pub d : ℕ
  pub block : InnermostOf is_block nodes l b
  pub after : n < d
  pub before : d < l
  pub variable : IsOfKind declares nodes d
  pub inside : InnermostOf is_block nodes d b

-- the jump stands outside of the label's block
pub record JumpsInto (nodes : List Node) (n l : ℕ) : Type 0 where
  pub b : ℕ
  pub block : InnermostOf is_block nodes l b
  pub outside : Holds nodes b n → ⊥
