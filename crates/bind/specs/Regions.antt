-- Where in a package a declared name is known (Go 1.17, "Declarations and scope").
use Rattle.std.specs.Prelude.{ℕ, ◌<◌, ◌≤◌, ◌≡◌, List, length, slice_get, Some}
use Rattle.go_tree.specs.declared.bindings.Object.{Object}
use Rattle.go_tree.specs.declared.bindings.Object.TheVariants.{Universe, Import, Local, Package}
use Rattle.go_tree.specs.declared.tree.NodeRef.{NodeRef}
use Rattle.scopes.specs.declared.scope.Named.{Named}
use Rattle.file_uses.specs.Locals.{IsLocal}
use Rattle.bind.specs.Imports.{IsImportName}
use Rattle.bind.specs.Sources.{Source, Sources, IsPackageName, IsEarlier, name_of, names_in}

-- all files, a file, or the nodes of a file from one on and before another
pub data Region : Type 0 where
  Everywhere : Region
  OfFile : ℕ → Region
  Nodes : (f start stop : ℕ) → Region

abbrev pub Holds : Region → NodeRef → Type 0
Holds Everywhere at = Unit {0}
Holds (OfFile f) at = f ≡ at.file
Holds (Nodes f start stop) at = (f ≡ at.file) × (start ≤ at.node) × (at.node < stop)

-- a region lies in another
abbrev pub Within : Region → Region → Type 0
Within Everywhere Everywhere = Unit {0}
Within Everywhere (OfFile g) = ⊥
Within Everywhere (Nodes g t u) = ⊥
Within (OfFile f) Everywhere = Unit {0}
Within (OfFile f) (OfFile g) = f ≡ g
Within (OfFile f) (Nodes g t u) = ⊥
Within (Nodes f s e) Everywhere = Unit {0}
Within (Nodes f s e) (OfFile g) = f ≡ g
Within (Nodes f s e) (Nodes g t u) = (f ≡ g) × (t ≤ s) × (e ≤ u)

-- A name within a function, the first in its block.
pub record IsLocalName (p : Sources) (at : NodeRef) (name : List ℕ) (r : Region) : Type 0 where
  pub src : Source
  pub k : ℕ
  pub d : Named
  pub file : slice_get p.files at.file ≡ Some src
  pub local : IsLocal (name_of src) (length src.tree.nodes) (names_in src) k d
  pub node : d.node ≡ at.node
  pub named : name_of src d.node ≡ Some name
  pub region : r ≡ Nodes at.file d.start d.end

-- A package-level name, the first in the package.
pub record IsFirstOfPackage (p : Sources) (at : NodeRef) (name : List ℕ) (r : Region) : Type 0 where
  pub named : IsPackageName p at name
  pub first : (other : NodeRef) → IsPackageName p other name → IsEarlier p other at → ⊥
  pub region : r ≡ Everywhere

-- An import's name, the first in its file, that no package-level declaration of any file has.
pub record IsFirstImport (p : Sources) (at : NodeRef) (name : List ℕ) (r : Region) : Type 0 where
  pub named : IsImportName p at name
  pub own : (other : NodeRef) → IsPackageName p other name → ⊥
  pub first : (other : NodeRef) → other.file ≡ at.file → IsImportName p other name → other.node < at.node → ⊥
  pub region : r ≡ OfFile at.file

-- The object is declared by the name and has this region. The first declaration of a name in its block has one.
abbrev pub HasRegion : Sources → Object → List ℕ → Region → Type 0
HasRegion p (Universe i) name r = ⊥
HasRegion p (Local at) name r = IsLocalName p at name r
HasRegion p (Package at) name r = IsFirstOfPackage p at name r
HasRegion p (Import at) name r = IsFirstImport p at name r
