-- Files whose uses can be bound.
use Rattle.std.specs.Prelude.{ℕ, List}
use Rattle.go_tree.specs.declared.tree.FileTree.{FileTree}
use Rattle.bind.specs.Answers.{AreSpelled, AreSmall}

-- each tree is spelled by the tokens of its source, and none is too large
pub record AreReady (files : List FileTree) (sources : List (List ℕ × List ℕ)) : Type 0 where
  pub spelled : AreSpelled files sources
  pub small : AreSmall files
