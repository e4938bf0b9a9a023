-- What is said of the nodes of a package's files.
use Rattle.std.specs.Prelude.{◌≡◌, ℕ, ◌+◌, if◌then◌else◌, List, length, Option, Some, option_map, option_and_then, slice_get}
use Rattle.std.specs.List.{position_from}
use Rattle.go_tree.specs.declared.bindings.Object.{Object}
use Rattle.go_tree.specs.declared.tree.FileTree.{FileTree}
use Rattle.go_tree.specs.declared.tree.Node.{Node}
use Rattle.go_tree.specs.declared.tree.NodeRef.{NodeRef}
use Rattle.object_order.specs.Spots.{place}
use Rattle.const_tree.specs.declared.constant.Spec.{Spec}
use Rattle.const_tree.specs.Constants.{specs_in, first_from}
use Rattle.unit_read.specs.Entries.{stored}
use Rattle.unit_read.specs.declared.place.Place.{Place}
use Rattle.unit_read.specs.Places.{place_of}
use Rattle.unit_read.specs.Units.{Unit, object_in, is_this, is_top, first_place, nodes_of}

-- ---- what is said of the node of a number in a file

abbrev pub object_for : List (NodeRef × Object) → ℕ → FileTree → ℕ → Option Object
object_for uses f tree n = object_in uses (place f n)

abbrev pub spec_of : FileTree → ℕ → Option Spec
spec_of tree n = option_and_then (λ (node : Node). first_from n (specs_in tree.nodes)) (slice_get tree.nodes n)

abbrev pub place_in : FileTree → ℕ → Option Place
place_in tree n = place_of tree.nodes n

abbrev pub first_in : List (Option NodeRef) → ℕ → FileTree → ℕ → Option ℕ
first_in list f tree n = first_place (place f n) list

-- the specification to which a node of the files belongs
abbrev pub spec_for : List FileTree → NodeRef → Option Spec
spec_for trees at = option_and_then (λ (tree : FileTree). spec_of tree at.node) (slice_get trees at.file)

-- the rows of the first few files have the specifications of their nodes
pub record AreSpecs (trees : List FileTree) (table : List (List (ℕ × Spec))) (count : ℕ) : Type 0 where
  pub size : length table ≡ count
  pub each : (f : ℕ) (tree : FileTree) (e : List (ℕ × Spec)) → slice_get trees f ≡ Some tree → slice_get table f ≡ Some e → (n : ℕ) → stored e n ≡ spec_of tree n

-- what a node of the files has as its first place in a list
abbrev pub first_for : List FileTree → List (Option NodeRef) → NodeRef → Option ℕ
first_for trees list at = option_and_then (λ (node : Node). first_place at list) (slice_get (nodes_of (slice_get trees at.file)) at.node)

-- ---- the numbers of defined types

abbrev pub local_by : Unit → NodeRef → ℕ → ℕ
local_by u at number = if is_top u at then 0 else number

-- what tells the type of a node from others of its name, if it is in the list: 0 at package level, else its place from 1
abbrev pub local_among : Unit → List NodeRef → NodeRef → Option ℕ
local_among u list at = option_map (λ k. local_by u at (k + 1)) (position_from (λ other. is_this at (Some other)) 0 list)

abbrev pub local_in : Unit → List NodeRef → ℕ → FileTree → ℕ → Option ℕ
local_in u list f tree n = local_among u list (place f n)
