-- How nodes are spelled in the files of a package.
use Rattle.std.specs.Prelude.{ℕ, ◌-◌, List, [], take, drop, Option, slice_get, slice_index_or, option_and_then}
use Rattle.std.specs.Option.{option_map_or}
use Rattle.go_tree.specs.declared.token.Token.{Token}
use Rattle.go_tree.specs.declared.tree.FileTree.{FileTree}

-- The files of a package in order of their paths: the bytes of each, and its tree.
pub record Package : Type 0 where
  pub texts : List (List ℕ)
  pub trees : List FileTree

abbrev pub first_token : FileTree → ℕ → Option Token
first_token tree n = option_and_then (λ node. slice_get tree.tokens node.first) (slice_get tree.nodes n)

-- the token with which a node begins
abbrev pub token_at : Package → ℕ → ℕ → Option Token
token_at p f n = option_and_then (λ tree. first_token tree n) (slice_get p.trees f)

abbrev pub token_text : List ℕ → Token → List ℕ
token_text text t = take (t.end - t.start) (drop t.start text)

-- the bytes of the token with which a node begins: all of a name or a literal
abbrev pub spelled_at : Package → ℕ → ℕ → List ℕ
spelled_at p f n = option_map_or (token_text (slice_index_or p.texts f [])) (token_at p f n) []
