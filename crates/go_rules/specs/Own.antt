-- E10 of a name that leads back to itself. A constant, a variable or a function is no type, whatever its own type turns out to be (Go 1.17, "Types",
-- "Declarations and scope"): where its declaration leads back to it, it is refused as a type before its own mark is there, which may wait for this one.
use Rattle.std.specs.Prelude.{ℕ, Bool, true, false, not, ◌&&◌, ◌||◌, Option}
use Rattle.std.specs.Option.{option_map_or}
use Rattle.go_tree.specs.declared.bindings.Object.{Object}
use Rattle.go_tree.specs.declared.bindings.Object.TheVariants as o
use Rattle.go_tree.specs.declared.tree.Node.{Node}
use Rattle.go_tree.specs.declared.tree.NodeKind.{NodeKind}
use Rattle.go_tree.specs.declared.tree.NodeKind.TheVariants as k
use Rattle.go_tree.specs.declared.tree.NodeRef.{NodeRef}
use Rattle.object_order.specs.Spots.{place}
use Rattle.package_objects.specs.Declares.{part}
use Rattle.typed_tree.specs.declared.place.Want.{Want as Demand}
use Rattle.typed_tree.specs.declared.place.Want.TheVariants as demand
use Rattle.unit_read.specs.Units.{Unit, object_at}
use Rattle.rule_words.specs.Words.{Wanted}
use Rattle.go_rules.specs.Roles.{is_name}

-- an object that needs itself has a fault of its own
abbrev pub turns_back : Unit → NodeRef → Bool
turns_back u name = not (u.cyclic name) && u.circular name

abbrev pub is_circular : Unit → Object → Bool
is_circular u (o.Universe i) = false
is_circular u (o.Import other) = false
is_circular u (o.Local name) = turns_back u name
is_circular u (o.Package name) = turns_back u name

-- the node denotes what leads back to itself
abbrev pub names_circular : Unit → NodeRef → Bool
names_circular u at = option_map_or (is_circular u) (object_at u at) false

abbrev pub is_type_wanted : Demand → Bool
is_type_wanted demand.Type = true
is_type_wanted demand.Case = true
is_type_wanted _ = false

abbrev pub is_selector : NodeKind → Bool
is_selector k.Selector = true
is_selector _ = false

abbrev pub part_circular : Unit → NodeRef → Option ℕ → Bool
part_circular u at o = option_map_or (λ n. names_circular u (place at.file n)) o false

-- what is selected of it is no type either
abbrev pub owner_circular : Unit → NodeRef → Node → Bool
owner_circular u at node = is_selector node.kind && part_circular u at (part node 0)

abbrev pub name_circular : Unit → NodeRef → Node → Bool
name_circular u at node = is_name node.kind && names_circular u at

abbrev pub begins_circular : Unit → NodeRef → Node → Bool
begins_circular u at node = name_circular u at node || owner_circular u at node

-- E10
abbrev pub is_own_type : Unit → NodeRef → Node → Wanted → Bool
is_own_type u at node w = is_type_wanted w.demand && begins_circular u at node
