-- Tables of rows: a row for each file, and in it a cell for each node.
use Rattle.std.specs.Prelude.{◌≡◌, ℕ, ◌<◌, List, [], length, Option, Some, None, slice_get, slice_index_or, if◌then◌else◌, option_and_then}
use Rattle.std.specs.Global.{Vec}
use Rattle.std.specs.Option.{option_map_or}
use Rattle.package_faces.specs.Faces.{Face}
use Rattle.go_tree.specs.Spelling.{text_of}
use Rattle.go_tree.specs.declared.tree.FileTree.{FileTree}
use Rattle.go_tree.specs.declared.tree.Node.{Node}
use Rattle.unit_read.specs.declared.lead.Lead.{Lead}
use Rattle.unit_read.specs.Imports.{is_import, lead_by}

-- a cell for each of the first few nodes, with what is said of it
pub record IsRow {X : Type 0} (says : ℕ → Option X) (row : List (Option X)) (count : ℕ) : Type 0 where
  pub size : length row ≡ count
  pub each : (n : ℕ) → n < count → slice_index_or row n None ≡ says n

-- the rows of the first few files
pub record AreRows {X : Type 0} (says : ℕ → FileTree → ℕ → Option X) (trees : List FileTree) (rows : List (Vec (Option X))) (count : ℕ) : Type 0 where
  pub size : length rows ≡ count
  pub each : (f : ℕ) (tree : FileTree) (row : Vec (Option X)) → slice_get trees f ≡ Some tree → slice_get rows f ≡ Some row → IsRow (says f tree) row.items (length tree.nodes)

-- ---- what is said of the nodes of a file

-- the bytes of a token of a file
abbrev pub token_bytes : List ℕ → FileTree → ℕ → List ℕ
token_bytes source tree i = option_map_or (text_of source) (slice_get tree.tokens i) []

abbrev pub lead_in : List Face → List ℕ → FileTree → Node → Option Lead
lead_in env source tree node = if is_import node.kind then Some (lead_by env (token_bytes source tree node.last) node.kind) else None

abbrev pub lead_for : List Face → List ℕ → FileTree → ℕ → Option Lead
lead_for env source tree n = option_and_then (lead_in env source tree) (slice_get tree.nodes n)

abbrev pub leads_in : List Face → List (List ℕ) → ℕ → FileTree → ℕ → Option Lead
leads_in env texts f tree n = lead_for env (slice_index_or texts f []) tree n
