-- What a use of a name denotes: of the declarations of its name, that with the smallest region that holds it, else the predeclared name.
use Rattle.std.specs.Prelude.{ℕ, ◌≡◌, ◌↔◌, List, slice_get, Option, Some, None}
use Rattle.std.specs.List.{Contains}
use Rattle.go_tree.specs.declared.bindings.Object.{Object}
use Rattle.go_tree.specs.declared.bindings.Object.TheVariants.{Universe, Import, Local, Package}
use Rattle.go_tree.specs.declared.tree.NodeRef.{NodeRef}
use Rattle.bind.specs.Regions.{Region, Holds, Within, HasRegion}
use Rattle.bind.specs.Sources.{Source, Sources, IsUse}
use Rattle.bind.specs.Universe.{predeclared}

-- of the regions of declarations of the name that hold the node, the object's is the smallest
pub record IsInnermost (p : Sources) (at : NodeRef) (name : List ℕ) (o : Object) : Type 0 where
  pub region : Region
  pub has : HasRegion p o name region
  pub holds : Holds region at
  pub smallest : (other : Object) (r : Region) → HasRegion p other name r → Holds r at → Within region r

-- no declaration of the name has a region that holds the node
abbrev pub IsUndeclared : Sources → NodeRef → List ℕ → Type 0
IsUndeclared p at name = (o : Object) (r : Region) → HasRegion p o name r → Holds r at → ⊥

abbrev pub DenotesBy : Sources → NodeRef → List ℕ → Object → Type 0
DenotesBy p at name (Universe i) = (slice_get predeclared i ≡ Some name) × IsUndeclared p at name
DenotesBy p at name (Local n) = IsInnermost p at name (Local n)
DenotesBy p at name (Package n) = IsInnermost p at name (Package n)
DenotesBy p at name (Import n) = IsInnermost p at name (Import n)

-- the node is a use and denotes the object
pub record Denotes (p : Sources) (at : NodeRef) (o : Object) : Type 0 where
  pub src : Source
  pub name : List ℕ
  pub file : slice_get p.files at.file ≡ Some src
  pub used : IsUse src at.node name
  pub denotes : DenotesBy p at name o

-- what an answer for a node says
abbrev pub IsAnswer : Sources → NodeRef → Option Object → Type 0
IsAnswer p at (Some o) = Denotes p at o
IsAnswer p at None = (o : Object) → Denotes p at o → ⊥

-- the list has the uses, each with the object that it denotes, and nothing else
abbrev pub AreBindings : Sources → List (NodeRef × Object) → Type 0
AreBindings p uses = (at : NodeRef) (o : Object) → Contains uses (at, o) ↔ Denotes p at o
