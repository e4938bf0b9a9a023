-- The head of a file: its package, its imports, and whether it has a build constraint (Go 1.17,
-- "Package clause" and "Import declarations").
use Rattle.std.specs.Prelude.{ℕ, Bool, true, false, cond, List, [], ◌∷◌, ◌++◌, take, map, get_or, bytes_eq, codes}
use Rattle.go_tree.specs.Constraints.{constraint_from}
use Rattle.go_tree.specs.ImportPaths.{path_of}
use Rattle.go_tree.specs.Spelling.{text_of, no_node}
use Rattle.go_tree.specs.declared.constraint.Comment.TheVariants.{Between}
use Rattle.go_tree.specs.declared.head.Head.{Head}
use Rattle.go_tree.specs.declared.head.ImportLine.{ImportLine}
use Rattle.go_tree.specs.declared.head.LocalName.{LocalName}
use Rattle.go_tree.specs.declared.head.LocalName.TheVariants as local
use Rattle.go_tree.specs.declared.token.Token.{Token}
use Rattle.go_tree.specs.declared.token.TokenKind.TheVariants.{Semi}
use Rattle.go_tree.specs.declared.tree.FileTree.{FileTree}
use Rattle.go_tree.specs.declared.tree.Node.{Node}
use Rattle.go_tree.specs.declared.tree.NodeKind.{NodeKind}
use Rattle.go_tree.specs.declared.tree.NodeKind.TheVariants as k

abbrev pub node_at : FileTree → ℕ → Node
node_at tree n = get_or tree.nodes n no_node

abbrev pub no_token : Token
no_token = record { kind = Semi; start = 0; «end» = 0 }

abbrev pub token_at : FileTree → ℕ → Token
token_at tree n = get_or tree.tokens n no_token

-- the name that an import has in its file
abbrev pub named : List ℕ → LocalName
named name = cond (bytes_eq name (codes "_")) local.Blank (local.Named name)

abbrev pub local_of : NodeKind → List ℕ → LocalName
local_of k.ImportDot name = local.Dot
local_of k.ImportNamed name = named name
local_of _ name = local.Default

-- an import, at its first token
abbrev pub import_line : FileTree → List ℕ → ℕ → ImportLine
import_line tree source n = record {
  path = path_of (text_of source (token_at tree (node_at tree n).last));
  at = (token_at tree (node_at tree n).first).start;
  local = local_of (node_at tree n).kind (text_of source (token_at tree (node_at tree n).first));
}

abbrev pub is_import : NodeKind → Bool
is_import k.Import = true
is_import k.ImportGroup = true
is_import _ = false

-- the imports of one piece
abbrev pub piece_imports : FileTree → List ℕ → ℕ → List ImportLine
piece_imports tree source top = cond (is_import (node_at tree top).kind) (map (import_line tree source) (node_at tree top).parts) []

abbrev pub imports_of : FileTree → List ℕ → List ℕ → List ImportLine
imports_of tree source [] = []
imports_of tree source (t ∷ ts) = piece_imports tree source t ++ imports_of tree source ts

-- The head of a file: its package clause is the first piece, and only comments stand before its first token.
abbrev pub head_of : FileTree → List ℕ → Head
head_of tree source = record {
  name = text_of source (token_at tree (node_at tree (get_or (node_at tree (get_or tree.tops 0 0)).parts 0 0)).first);
  name_at = (token_at tree (node_at tree (get_or (node_at tree (get_or tree.tops 0 0)).parts 0 0)).first).start;
  imports = imports_of tree source tree.tops;
  constraint = constraint_from Between 0 (take (token_at tree 0).start source);
}
