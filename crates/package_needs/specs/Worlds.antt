-- What is known of a package, from its trees and from what its uses denote, and an order of need of its objects.
use Rattle.std.specs.Prelude.{◌≡◌, ◌≤◌, ℕ, List, [], length, Option, Some, None, slice_get, option_and_then, ◌↔◌, Bool, IsTrue}
use Rattle.std.specs.Global.{Vec}
use Rattle.go_tree.specs.Bindings.{Has}
use Rattle.go_tree.specs.declared.bindings.Object.{Object}
use Rattle.go_tree.specs.declared.bindings.Object.TheVariants.{Universe, Import, Local, Package}
use Rattle.go_tree.specs.declared.tree.FileTree.{FileTree}
use Rattle.go_tree.specs.declared.tree.NodeRef.{NodeRef}
use Rattle.object_order.specs.declared.needed.Needed.{Needed}
use Rattle.object_order.specs.declared.spot.Entry.{Entry}
use Rattle.object_order.specs.Cases.{NeedsOf}
use Rattle.object_order.specs.Names.{IsNamed}
use Rattle.object_order.specs.Orders.{IsNeedOrder}
use Rattle.object_order.specs.Spots.{World}
use Rattle.object_order.specs.Views.{node_in, meant_in}
use Rattle.package_objects.specs.Declares.{declared}
use Rattle.package_needs.specs.Keys.{up, AreMentions, IsRowBy}
use Rattle.package_needs.specs.Kin.{IsOwnerAt, AreMethods}

-- the declared name of the package for which an object stands
abbrev pub name_of : Object → Option NodeRef
name_of (Universe i) = None
name_of (Import n) = None
name_of (Local n) = Some n
name_of (Package n) = Some n

-- the node denotes this declared name of the package, or none
abbrev pub DenotesName : List (NodeRef × Object) → NodeRef → Option NodeRef → Type 0
DenotesName uses at o = (object : Option Object) × Has uses at object × (o ≡ option_and_then name_of object)

-- for each node of each file the declared name that it denotes
pub record AreDenoted (uses : List (NodeRef × Object)) (trees : List FileTree) (rows : List (Vec (Option NodeRef))) : Type 0 where
  pub size : length rows ≡ length trees
  pub each : (f : ℕ) (row : Vec (Option NodeRef)) → slice_get rows f ≡ Some row
      → (tree : FileTree) × (slice_get trees f ≡ Some tree) × IsRowBy (DenotesName uses) f row.items (length tree.nodes)

-- The declaration stands in the list, and none of the same name before it.
pub record IsFirstOf (entries : List Entry) (at : NodeRef) (e : Entry) : Type 0 where
  pub number : ℕ
  pub here : slice_get entries number ≡ Some e
  pub named : e.name ≡ at
  pub first : (j : ℕ) (d : Entry) → slice_get entries j ≡ Some d → d.name ≡ at → number ≤ j

-- each declared name has its first declaration, and nothing else has one
pub record AreEntries (entries : List Entry) (entry : NodeRef → Option Entry) : Type 0 where
  pub has : (k : ℕ) (e : Entry) → slice_get entries k ≡ Some e → (d : Entry) × (entry e.name ≡ Some d)
  pub «is» : (at : NodeRef) (e : Entry) → entry at ≡ Some e → IsFirstOf entries at e

-- What is known of a package: its nodes, what they mention, its declarations, and the methods of its types. In `names` a node
-- mentions what it denotes, and types have no methods yet: by it types are followed. `elsewhere` flags what names a struct type of another package.
pub record IsPackage (uses : List (NodeRef × Object)) (trees : List FileTree) (elsewhere : NodeRef → Bool) (rows : List (Vec (Option NodeRef))) (names w : World) : Type 0 where
  pub denoted : AreDenoted uses trees rows
  pub nodes : names.node ≡ node_in trees
  pub denotes : names.meant ≡ meant_in rows
  pub entries : AreEntries (declared trees rows) names.entry
  pub bare : (at : NodeRef) → names.kin at ≡ []
  pub same_nodes : w.node ≡ names.node
  pub same_entries : w.entry ≡ names.entry
  pub mentions : AreMentions names elsewhere (up trees) w.meant
  pub methods : AreMethods names w.kin

-- The objects that the trees declare, in an order of need.
pub record IsOrderOf (uses : List (NodeRef × Object)) (trees : List FileTree) (elsewhere : NodeRef → Bool) (order : List Needed) : Type 0 where
  pub rows : List (Vec (Option NodeRef))
  pub names : World
  pub world : World
  pub «is» : IsPackage uses trees elsewhere rows names world
  pub ordered : IsNeedOrder (NeedsOf world) (IsNamed (declared trees rows)) order

-- for each node of each file the type of which it declares a method
pub record AreOwners (w : World) (trees : List FileTree) (rows : List (Vec (Option NodeRef))) : Type 0 where
  pub size : length rows ≡ length trees
  pub each : (f : ℕ) (row : Vec (Option NodeRef)) → slice_get rows f ≡ Some row
      → (tree : FileTree) × (slice_get trees f ≡ Some tree) × IsRowBy (IsOwnerAt w) f row.items (length tree.nodes)

-- The objects that the trees declare, in an order of need, and the types of their methods.
pub record AreNeedsOf (uses : List (NodeRef × Object)) (trees : List FileTree) (elsewhere : NodeRef → Bool) (order : List Needed) (owners : List (Vec (Option NodeRef))) : Type 0 where
  pub rows : List (Vec (Option NodeRef))
  pub names : World
  pub world : World
  pub «is» : IsPackage uses trees elsewhere rows names world
  pub ordered : IsNeedOrder (NeedsOf world) (IsNamed (declared trees rows)) order
  pub owned : AreOwners names trees owners

-- two lists mark an object that stands in both alike
abbrev pub MarkTheSame : List Needed → List Needed → Type 0
MarkTheSame one two = (j k : ℕ) (e d : Needed) → slice_get one j ≡ Some e → slice_get two k ≡ Some d → e.object ≡ d.object → IsTrue e.cyclic ↔ IsTrue d.cyclic
