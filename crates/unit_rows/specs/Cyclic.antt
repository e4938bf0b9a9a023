-- Which names of a package need themselves.
use Rattle.std.specs.Prelude.{◌≡◌, ◌↔◌, ℕ, Bool, IsTrue, if◌then◌else◌, List, [], ◌∷◌, length, Some, slice_get}
use Rattle.std.specs.Option.{option_map_or}
use Rattle.go_tree.specs.declared.bindings.Object.{Object}
use Rattle.go_tree.specs.declared.tree.FileTree.{FileTree}
use Rattle.go_tree.specs.declared.tree.Node.{Node}
use Rattle.go_tree.specs.declared.tree.NodeRef.{NodeRef}
use Rattle.object_order.specs.declared.needed.Needed.{Needed}
use Rattle.object_order.specs.Cases.{NeedsOf}
use Rattle.object_order.specs.Names.{IsNamed}
use Rattle.object_order.specs.Paths.{Leads}
use Rattle.package_objects.specs.Declares.{gather, declared}
use Rattle.package_needs.specs.Worlds.{IsOrderOf}
use Rattle.unit_read.specs.Units.{nodes_of}
use Rattle.unit_rows.specs.Tables.{is_listed}

abbrev pub if_cyclic : Needed → List NodeRef
if_cyclic e = if e.cyclic then e.object ∷ [] else []

abbrev pub nth_cyclic : List Needed → ℕ → List NodeRef
nth_cyclic order i = option_map_or if_cyclic (slice_get order i) []

-- the names that an order of need marks
abbrev pub all_cyclic : List Needed → List NodeRef
all_cyclic order = gather (nth_cyclic order) (length order)

-- E4: the order marks the name
abbrev pub is_cyclic : List FileTree → List Needed → NodeRef → Bool
is_cyclic trees order at = is_listed trees (all_cyclic order) at

-- In an order of need of these trees, whatever is said of struct types of other packages, the marked names are those that are declared and whose needs lead back to them.
abbrev pub MarksCyclic : List (NodeRef × Object) → List FileTree → (NodeRef → Bool) → List Needed → Type 0
MarksCyclic uses trees elsewhere order =
    (of : IsOrderOf uses trees elsewhere order) (at : NodeRef) (node : Node) → slice_get (nodes_of (slice_get trees at.file)) at.node ≡ Some node
    → IsTrue (is_cyclic trees order at) ↔ (IsNamed (declared trees of.rows) at × Leads (NeedsOf of.world) at at)
