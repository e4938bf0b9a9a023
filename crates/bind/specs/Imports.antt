-- The names that the imports of a file declare (Go 1.17, "Import declarations").
use Rattle.std.specs.Prelude.{ℕ, ◌≡◌, ◌==◌, cond, List, [], ◌∷◌, ◌++◌, slice_get, Option, Some, None, bytes_eq}
use Rattle.std.specs.List.{Contains}
use Rattle.go_tree.specs.Head.{node_at, import_line, is_import}
use Rattle.go_tree.specs.declared.head.ImportLine.{ImportLine}
use Rattle.go_tree.specs.declared.head.LocalName.{LocalName}
use Rattle.go_tree.specs.declared.head.LocalName.TheVariants as local
use Rattle.go_tree.specs.declared.tree.FileTree.{FileTree}
use Rattle.go_tree.specs.declared.tree.NodeRef.{NodeRef}
use Rattle.bind.specs.Sources.{Source, Sources}

-- the specs of the imports in one piece of a file, and in several
abbrev pub piece_specs : FileTree → ℕ → List ℕ
piece_specs tree top = cond (is_import (node_at tree top).kind) (node_at tree top).parts []

abbrev pub specs_in : FileTree → List ℕ → List ℕ
specs_in tree [] = []
specs_in tree (t ∷ ts) = piece_specs tree t ++ specs_in tree ts

-- the name of the package to which a path leads
abbrev pub package_of : List (List ℕ × List ℕ) → List ℕ → Option (List ℕ)
package_of [] path = None
package_of (e ∷ es) path = cond (bytes_eq e.0 path) (Some e.1) (package_of es path)

-- what stands behind the last slash
abbrev pub segment_from : List ℕ → List ℕ → List ℕ
segment_from so_far [] = so_far
segment_from so_far (b ∷ bs) = segment_from (cond (b == 47) bs so_far) bs

abbrev pub last_segment : List ℕ → List ℕ
last_segment path = segment_from path path

abbrev pub name_or : Option (List ℕ) → List ℕ → List ℕ
name_or (Some name) other = name
name_or None other = other

-- the name of an import without a name of its own: the package's to which it leads, else the last segment of its path
abbrev pub default_name : List (List ℕ × List ℕ) → List ℕ → List ℕ
default_name named path = name_or (package_of named path) (last_segment path)

-- the name that an import declares in its file
abbrev pub local_name : List (List ℕ × List ℕ) → List ℕ → LocalName → Option (List ℕ)
local_name named path local.Default = Some (default_name named path)
local_name named path (local.Named name) = Some name
local_name named path local.Blank = None
local_name named path local.Dot = None

abbrev pub line_name : List (List ℕ × List ℕ) → ImportLine → Option (List ℕ)
line_name named line = local_name named line.path line.local

-- the import's spec declares the name in its file
abbrev pub IsImportName : Sources → NodeRef → List ℕ → Type 0
IsImportName p at name = (src : Source) × (slice_get p.files at.file ≡ Some src) × Contains (specs_in src.tree src.tree.tops) at.node
    × (line_name p.named (import_line src.tree src.bytes at.node) ≡ Some name)
