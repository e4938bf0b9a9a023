-- A package as it is checked: its path and its files, and what is known of the packages that it imports.
use Rattle.std.specs.Prelude.{◌≡◌, ◌↔◌, ℕ, IsTrue, false, List, map, Option, Some, None}
use Rattle.std.specs.Global.{Vec}
use Rattle.go_tree.specs.Bindings.{AreInOrder}
use Rattle.go_tree.specs.Names.{spelled_at}
use Rattle.go_tree.specs.declared.tree.FileTree.{FileTree}
use Rattle.go_tree.specs.declared.tree.Node.{Node}
use Rattle.go_tree.specs.declared.tree.NodeRef.{NodeRef}
use Rattle.go_tree.specs.declared.bindings.Object.{Object}
use Rattle.package_faces.specs.Faces.{Face}
use Rattle.object_order.specs.Cases.{NeedsOf}
use Rattle.object_order.specs.Names.{IsNamed}
use Rattle.object_order.specs.Paths.{Leads}
use Rattle.object_order.specs.Spots.{World}
use Rattle.package_objects.specs.Declares.{declared}
use Rattle.package_needs.specs.Kin.{IsOwnerAt}
use Rattle.package_needs.specs.Worlds.{IsPackage}
use Rattle.bind.specs.Denoting.{AreBindings}
use Rattle.bind.specs.Sources.{Sources, AreFiles}
use Rattle.unit_read.specs.Units.{Unit, node_at}
use Rattle.unit_rows.specs.Circular.{AreCircular}
use Rattle.unit_blocks.specs.Blocks.{AreAgain}
use Rattle.check_pkg.specs.Elsewhere.{struct_elsewhere}

-- Its path, its files in order of their paths, the path and the bytes of each, and their trees.
pub record Package : Type 0 where
  pub path : List ℕ
  pub files : List (List ℕ × List ℕ)
  pub trees : List FileTree

abbrev pub package_of : List ℕ → List (List ℕ × List ℕ) → List FileTree → Package
package_of path files trees = record { path = path; files = files; trees = trees }

abbrev pub text_of : List ℕ × List ℕ → List ℕ
text_of file = file.1

-- the bytes of its files
abbrev pub texts_in : Package → List (List ℕ)
texts_in p = map text_of p.files

-- its name: that in the package clause of its first file
abbrev pub package_name : Package → List ℕ
package_name p = spelled_at (record { texts = texts_in p; trees = p.trees }) 0 0

-- what is seen of the packages to which imports may lead
abbrev pub Env : Type 0
Env = List Face

-- the path and the name of each
abbrev pub known_of : Env → List (List ℕ × List ℕ)
known_of env = map (λ (f : Face). (f.path, f.name)) env

-- the uses are those of the package, each with what it denotes
pub record AreUses (p : Package) (env : Env) (uses : List (NodeRef × Object)) : Type 0 where
  pub ordered : AreInOrder uses
  pub bound : (s : Sources) → s.named ≡ known_of env → AreFiles p.trees p.files s.files → AreBindings s uses

-- The cyclic nodes are the declared names whose needs lead back to them; and the nodes that declare methods are known with their types.
pub record AreNeeds (u : Unit) : Type 0 where
  pub rows : List (Vec (Option NodeRef))
  pub names : World
  pub world : World
  pub «is» : IsPackage u.uses u.trees (struct_elsewhere u) rows names world
  pub each : (at : NodeRef) (node : Node) → node_at u at ≡ Some node → IsTrue (u.cyclic at) ↔ (IsNamed (declared u.trees rows) at × Leads (NeedsOf world) at at)
  pub others : (at : NodeRef) → node_at u at ≡ None → u.cyclic at ≡ false
  pub owned : (at : NodeRef) (node : Node) → node_at u at ≡ Some node → IsOwnerAt names at (u.owner at)
  pub unowned : (at : NodeRef) → node_at u at ≡ None → u.owner at ≡ None

-- What is judged: the package with what its uses denote, over this environment, and with which of its names are declared before in their
-- block, which need themselves, which lead back to themselves, and whose methods it declares.
pub record IsUnit (p : Package) (interfaces : Env) (u : Unit) : Type 0 where
  pub path : u.path ≡ p.path
  pub texts : u.texts ≡ texts_in p
  pub trees : u.trees ≡ p.trees
  pub uses : AreUses p interfaces u.uses
  pub env : u.env ≡ interfaces
  pub redeclared : AreAgain u u.redeclared
  pub needs : AreNeeds u
  pub circular : AreCircular u u.circular
