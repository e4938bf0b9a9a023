-- What is given of a file, as plain values.
use Rattle.std.specs.Prelude.{ℕ, Bool, List, Option}
use Rattle.go_tree.specs.declared.token.Token.{Token}
use Rattle.go_tree.specs.declared.tree.Node.{Node}
use Rattle.body_rules.specs.declared.file.File.{File}

pub record Given : Type 0 where
  pub number : ℕ
  pub nodes : List Node
  pub tokens : List Token
  pub labels : List (Option ℕ)
  pub repeated : List Bool
  pub unused : List Bool
  pub shadowed : List Bool
  pub panics : List Bool
  pub variables : List Bool
  pub meant : List (Option ℕ)

abbrev pub given : File → Given
given f = record {
  number = f.number;
  nodes = f.nodes.now;
  tokens = f.tokens.now;
  labels = f.labels.now;
  repeated = f.repeated.now;
  unused = f.unused.now;
  shadowed = f.shadowed.now;
  panics = f.panics.now;
  variables = f.variables.now;
  meant = f.meant.now;
}
