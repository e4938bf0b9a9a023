-- At which nodes no declaration of a name is known, in code.
use Rattle.std.specs.Prelude.{◌≡◌, ℕ, zero, suc, ◌<◌, ◌&&◌, ◌||◌, ◌==◌, ◌↔◌, not, nat_le, nat_lt, Bool, true, false, if◌then◌else◌, List, length, get_or, is_some, slice_get, slice_index_or, Option, Some, None, bytes_eq}
use Rattle.std.specs.Option.{option_map_or}
use Rattle.std.specs.Global.{Vec}
use Rattle.go_tree.specs.declared.tree.NodeRef.{NodeRef}
use Rattle.scopes.specs.declared.scope.Named.{Named}
use Rattle.file_uses.specs.Numbers.{name_in}
use Rattle.bind.specs.Collected.{imports_of}
use Rattle.bind.specs.Denoting.{IsUndeclared}
use Rattle.bind.specs.Package.{narrow}
use Rattle.bind.specs.Sources.{Source, Sources}
use Rattle.bind.specs.Tables.{path_of, IsEarliest}
use Rattle.bind.specs.declared.file.File.{File}

-- ---- the regions of a name within functions

-- the node is the name
abbrev pub is_named : File → List ℕ → ℕ → Bool
is_named f name n = option_map_or (λ (q : List ℕ). bytes_eq q name) (name_in f.bytes.now f.tree.now n) false

-- a declaration of the name within a function
abbrev pub counts : File → List ℕ → Named → Bool
counts f name d = nat_lt d.end (length f.tree.now.nodes) && is_named f name d.node

abbrev pub later : ℕ → ℕ → ℕ
later a b = if nat_lt a b then b else a

abbrev pub end_in : (Named → Bool) → ℕ → ℕ → Named → ℕ
end_in counts s so_far d = if counts d && (d.start == s) then later so_far d.end else so_far

-- where the last of the regions ends that begin at a node, of the first few that count; 0 where none does
abbrev pub end_at : (Named → Bool) → List Named → ℕ → ℕ → ℕ
end_at counts ds s zero = 0
end_at counts ds s (suc i) = option_map_or (end_in counts s (end_at counts ds s i)) (slice_get ds i) (end_at counts ds s i)

-- where the last of those ends that begin before a node
abbrev pub reach : (ℕ → ℕ) → ℕ → ℕ
reach ends zero = 0
reach ends (suc n) = later (reach ends n) (ends n)

-- no region that begins at the node or before it holds it
abbrev pub is_free : (ℕ → ℕ) → ℕ → Bool
is_free ends n = nat_le (reach ends (suc n)) n

-- ---- rows

abbrev pub end_of : List ℕ → ℕ → ℕ
end_of ends s = get_or ends s 0

-- so many zeros
pub record AreZeros (count : ℕ) (ends : List ℕ) : Type 0 where
  pub size : length ends ≡ count
  pub each : (s : ℕ) → end_of ends s ≡ 0

-- each node has the end of the regions that begin there, of the first few names
pub record AreEnds (counts : Named → Bool) (ds : List Named) (i total : ℕ) (ends : List ℕ) : Type 0 where
  pub size : length ends ≡ total
  pub each : (s : ℕ) → s < total → end_of ends s ≡ end_at counts ds s i

-- a name more
pub record NotesEnd (counts : Named → Bool) (d : Named) (old new : List ℕ) : Type 0 where
  pub size : length new ≡ length old
  pub each : (s : ℕ) → s < length old → end_of new s ≡ end_in counts s (end_of old s) d

-- a name more, if there is one
abbrev pub NotesIf : (Named → Bool) → Option Named → List ℕ → List ℕ → Type 0
NotesIf counts (Some d) old new = NotesEnd counts d old new
NotesIf counts None old new = new ≡ old

-- the first few nodes have their flags
pub record AreFlagged (flag : ℕ → Bool) (count : ℕ) (row : List Bool) : Type 0 where
  pub size : length row ≡ count
  pub each : (n : ℕ) → n < count → get_or row n false ≡ flag n

-- where the last of the regions of a name ends that begin at a node
abbrev pub last_end : File → List ℕ → ℕ → ℕ
last_end f name s = end_at (counts f name) f.locals.names.items s (length f.locals.names.items)

-- no declaration of the name holds the node; `outside` is that it is declared outside functions
abbrev pub is_unknown : File → List ℕ → Bool → ℕ → Bool
is_unknown f name outside n = not outside && is_free (last_end f name) n

abbrev pub AreUnknown : File → List ℕ → Bool → List Bool → Type 0
AreUnknown f name outside row = AreFlagged (is_unknown f name outside) (length f.tree.now.nodes) row

-- the row of a file; `top` is that the package declares the name
pub record IsFileRow (files : List File) (named : List (List ℕ × List ℕ)) (number : ℕ) (f : File) (top : Bool) (name : List ℕ) (row : List Bool) : Type 0 where
  pub imports : List ℕ → Option NodeRef
  pub earliest : IsEarliest (path_of files) (imports_of named number f) imports
  pub flags : AreUnknown f name (top || is_some (imports name)) row

-- the rows of the first few files
pub record AreFileRows (files : List File) (named : List (List ℕ × List ℕ)) (top : Bool) (name : List ℕ) (count : ℕ) (rows : List (Vec Bool)) : Type 0 where
  pub size : length rows ≡ count
  pub each : (i : ℕ) (f : File) (row : Vec Bool) → slice_get files i ≡ Some f → slice_get rows i ≡ Some row → IsFileRow files named (narrow i) f top name row.items

-- Each node has a flag: that no declaration of the name has a region that holds the node.
abbrev pub AreUndeclared : Sources → List ℕ → List (Vec Bool) → Type 0
AreUndeclared p name rows = (at : NodeRef) (src : Source) → slice_get p.files at.file ≡ Some src → at.node < length src.tree.nodes
    → (row : Vec Bool) × (slice_get rows at.file ≡ Some row) × ((slice_index_or row.items at.node false ≡ true) ↔ IsUndeclared p at name)
