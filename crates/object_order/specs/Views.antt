-- What the code reads as what is known of a package.
use Rattle.std.specs.Prelude.{ℕ, nat_eq, ◌&&◌, Bool, List, [], Option, slice_get, option_and_then}
use Rattle.std.specs.Option.{option_map_or}
use Rattle.std.specs.Global.{Vec}
use Rattle.std.specs.HashMap.{HashMap, get}
use Rattle.go_tree.specs.declared.tree.FileTree.{FileTree}
use Rattle.go_tree.specs.declared.tree.Node.{Node}
use Rattle.go_tree.specs.declared.tree.NodeRef.{NodeRef}
use Rattle.object_order.specs.declared.spot.Entry.{Entry}
use Rattle.object_order.specs.declared.view.View.{View}
use Rattle.object_order.specs.Spots.{World}

-- a node of a file
abbrev pub node_in : List FileTree → NodeRef → Option Node
node_in trees at = option_and_then (λ (tree : FileTree). slice_get tree.nodes at.node) (slice_get trees at.file)

-- two numbers as one key
abbrev pub same_key : ℕ × ℕ → ℕ × ℕ → Bool
same_key a b = nat_eq a.0 b.0 && nat_eq a.1 b.1

-- the number that is kept for a pair
abbrev pub number_in : {S : Type 0} → HashMap (ℕ × ℕ) ℕ S → ℕ × ℕ → Option ℕ
number_in numbers key = get same_key numbers key

-- the declaration whose number is kept for a name
abbrev pub entry_in : {S : Type 0} → List Entry → HashMap (ℕ × ℕ) ℕ S → NodeRef → Option Entry
entry_in entries numbers at = option_and_then (λ n. slice_get entries n) (number_in numbers (at.file, at.node))

abbrev pub itself : Option NodeRef → Option NodeRef
itself o = o

-- the declared name that a node mentions
abbrev pub meant_in : List (Vec (Option NodeRef)) → NodeRef → Option NodeRef
meant_in meant at = option_and_then (λ (row : Vec (Option NodeRef)). option_and_then itself (slice_get row.items at.node)) (slice_get meant at.file)

abbrev pub group_in : List (Vec NodeRef) → ℕ → List NodeRef
group_in groups n = option_map_or (λ (group : Vec NodeRef). group.items) (slice_get groups n) []

-- the methods and aliases whose declarations name a type as theirs
abbrev pub kin_in : {S : Type 0} → List (Vec NodeRef) → HashMap (ℕ × ℕ) ℕ S → NodeRef → List NodeRef
kin_in groups numbers at = option_map_or (λ n. group_in groups n) (number_in numbers (at.file, at.node)) []

abbrev pub world_of : View → World
world_of v = record {
  node = node_in v.trees.now;
  meant = meant_in v.meant.now;
  entry = entry_in v.entries.items v.numbers;
  kin = kin_in v.groups.items v.numbers;
}
