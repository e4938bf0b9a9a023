-- Where the search goes on from a spot, in code: it leaves quiet nodes out, and looks for nothing where there is nothing to be found.
use Rattle.std.specs.Prelude.{ℕ, Bool, true, false, if◌then◌else◌, List, [], ◌++◌}
use Rattle.std.specs.List.{flat_map}
use Rattle.std.specs.Option.{option_map_or}
use Rattle.go_tree.specs.declared.tree.Node.{Node}
use Rattle.go_tree.specs.declared.tree.NodeRef.{NodeRef}
use Rattle.object_order.specs.declared.spot.Mode.{Mode}
use Rattle.object_order.specs.declared.spot.Mode.TheVariants as m
use Rattle.object_order.specs.declared.spot.Form.{Form}
use Rattle.object_order.specs.declared.spot.Root.{Root}
use Rattle.object_order.specs.declared.spot.Entry.{Entry}
use Rattle.object_order.specs.declared.spot.Spot.{Spot}
use Rattle.object_order.specs.Spots.{World, place, down, across, from_root, beside}

-- it is looked for in a node, and not at an object
abbrev pub is_inner : Mode → Bool
is_inner m.Needs = false
is_inner m.Reach = false
is_inner m.Steps = false
is_inner m.Follow = false
is_inner m.Kin = false
is_inner m.Direct = true
is_inner m.Lengths = true
is_inner m.Whole = true
is_inner m.Aliases = true
is_inner m.AliasSteps = true
is_inner m.Embeds = true
is_inner m.Alone = true

-- the methods of a type matter
abbrev pub is_joined : Mode → Bool
is_joined m.Reach = true
is_joined m.Kin = true
is_joined _ = false

abbrev pub trimmed_down : (NodeRef → Bool) → World → Spot → Node → ℕ → List Spot
trimmed_down quiet w s node part = if quiet (place s.at.file part) then [] else down w s node part

abbrev pub trimmed_into : (NodeRef → Bool) → World → Spot → List Spot
trimmed_into quiet w s = option_map_or (λ (node : Node). flat_map (trimmed_down quiet w s node) node.parts) (w.node s.at) []

abbrev pub trimmed_root : (NodeRef → Bool) → Spot → Form → Root → List Spot
trimmed_root quiet s form root = if quiet (place s.at.file root.node) then [] else from_root s form root

abbrev pub trimmed_under : (NodeRef → Bool) → World → Spot → List Spot
trimmed_under quiet w s = option_map_or (λ (e : Entry). flat_map (trimmed_root quiet s e.form) e.roots) (w.entry s.at) []

abbrev pub trimmed_beside : World → Spot → List Spot
trimmed_beside w s = if is_joined s.mode then beside w s else []

-- what is looked for in a node goes on from the node, and what is looked for at an object from its declaration
abbrev pub trimmed_moves : (NodeRef → Bool) → World → Spot → List Spot
trimmed_moves quiet w s = if is_inner s.mode then trimmed_into quiet w s ++ across w s else trimmed_under quiet w s ++ trimmed_beside w s
