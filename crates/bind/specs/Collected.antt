-- The uses in the files of a package, as they are collected.
use Rattle.std.specs.Prelude.{ℕ, zero, suc, ◌++◌, ◌≡◌, List, [], length, map, Option, Some, None, slice_get}
use Rattle.go_tree.specs.Head.{import_line}
use Rattle.go_tree.specs.declared.bindings.Object.{Object}
use Rattle.go_tree.specs.declared.tree.NodeRef.{NodeRef}
use Rattle.bind.specs.Answers.{uses_before}
use Rattle.bind.specs.Imported.{imported}
use Rattle.bind.specs.Imports.{specs_in}
use Rattle.bind.specs.Package.{narrow}
use Rattle.bind.specs.Tables.{path_of, IsEarliest}
use Rattle.bind.specs.declared.file.File.{File}

-- the names that the imports of a file declare
abbrev pub imports_of : List (List ℕ × List ℕ) → ℕ → File → List (List ℕ × NodeRef)
imports_of named number f = imported named number (specs_in f.tree.now f.tree.now.tops) (map (import_line f.tree.now f.bytes.now) (specs_in f.tree.now f.tree.now.tops))

-- the uses in a file
pub record AreFileUses (files : List File) (named : List (List ℕ × List ℕ)) (top_names : List ℕ → Option NodeRef) (universe : List ℕ → Option ℕ) (number : ℕ) (f : File) (uses : List (NodeRef × Object)) : Type 0 where
  pub imports : List ℕ → Option NodeRef
  pub earliest : IsEarliest (path_of files) (imports_of named number f) imports
  pub are : uses ≡ uses_before f number (record { top_names = top_names; imports = imports; universe = universe }) (length f.tree.now.nodes)

-- a file's uses were added
pub record AddsUses (files : List File) (named : List (List ℕ × List ℕ)) (top_names : List ℕ → Option NodeRef) (universe : List ℕ → Option ℕ) (number : ℕ) (f : File) (old new : List (NodeRef × Object)) : Type 0 where
  pub more : List (NodeRef × Object)
  pub added : new ≡ old ++ more
  pub uses : AreFileUses files named top_names universe number f more

abbrev pub AreUsesAt : List File → List (List ℕ × List ℕ) → (List ℕ → Option NodeRef) → (List ℕ → Option ℕ) → ℕ → Option File → List (NodeRef × Object) → List (NodeRef × Object) → Type 0
AreUsesAt files named top_names universe number (Some f) old new = AddsUses files named top_names universe number f old new
AreUsesAt files named top_names universe number None old new = old ≡ new

-- the uses in the first few files
abbrev pub AreUsesTo : List File → List (List ℕ × List ℕ) → (List ℕ → Option NodeRef) → (List ℕ → Option ℕ) → ℕ → List (NodeRef × Object) → Type 0
AreUsesTo files named top_names universe zero uses = uses ≡ []
AreUsesTo files named top_names universe (suc n) uses =
    (front : List (NodeRef × Object)) × AreUsesTo files named top_names universe n front × AreUsesAt files named top_names universe (narrow n) (slice_get files n) front uses
