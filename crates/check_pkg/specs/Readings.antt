-- A package as it has been read.
use Rattle.std.specs.Prelude.{◌≡◌, ℕ, List}
use Rattle.go_tree.specs.declared.bindings.Object.{Object}
use Rattle.go_tree.specs.declared.tree.FileTree.{FileTree}
use Rattle.go_tree.specs.declared.tree.NodeRef.{NodeRef}
use Rattle.package_faces.specs.Faces.{Face}
use Rattle.unit_read.specs.Units.{Unit}
use Rattle.unit_rows.specs.Circular.{AreCircular}
use Rattle.unit_blocks.specs.Blocks.{AreAgain}
use Rattle.check_pkg.specs.Packages.{AreNeeds}

-- the unit is that of this path, these texts, trees, uses and interfaces, with its flags
pub record IsUnitOf (name : List ℕ) (sources : List (List ℕ)) (files : List FileTree) (bindings : List (NodeRef × Object)) (interfaces : List Face) (u : Unit) : Type 0 where
  pub path : u.path ≡ name
  pub texts : u.texts ≡ sources
  pub trees : u.trees ≡ files
  pub uses : u.uses ≡ bindings
  pub env : u.env ≡ interfaces
  pub redeclared : AreAgain u u.redeclared
  pub needs : AreNeeds u
  pub circular : AreCircular u u.circular
