-- Which members of a struct or an interface have the name of an earlier one (Go 1.17, "Struct types": field names must be unique; "Interface
-- types": each method must have a unique name). The blank name may stand more than once.
use Rattle.std.specs.Prelude.{ℕ, Bool, true, false, nat_lt, if◌then◌else◌, List, [], ◌∷◌, length, map, Option, Some, None, slice_get, slice_index_or}
use Rattle.std.specs.Option.{option_map_or}
use Rattle.go_tree.specs.Lexeme.{place_of}
use Rattle.go_tree.specs.declared.tree.Node.{Node}
use Rattle.go_tree.specs.declared.tree.NodeKind.{NodeKind}
use Rattle.go_tree.specs.declared.tree.NodeKind.TheVariants as k
use Rattle.go_tree.specs.declared.tree.NodeRef.{NodeRef}
use Rattle.object_order.specs.Spots.{place}
use Rattle.package_objects.specs.Declares.{gather, items, part}
use Rattle.unit_read.specs.Units.{Unit, nodes_at, node_at, spelled, first_spelled, last_spelled, is_blank, is_among}

-- ---- members and their names

abbrev pub is_field : NodeKind → Bool
is_field k.Field = true
is_field _ = false

abbrev pub is_embedded : NodeKind → Bool
is_embedded k.Embedded = true
is_embedded k.EmbeddedPointer = true
is_embedded _ = false

-- the node declares a member itself
abbrev pub is_member : NodeKind → Bool
is_member k.Embedded = true
is_member k.EmbeddedPointer = true
is_member k.Method = true
is_member _ = false

-- the nodes at which a part of a struct or an interface declares members: the names of a field, an embedded field, a method
abbrev pub members_of : List Node → ℕ → Node → List ℕ
members_of nodes n node =
    if is_field node.kind then items nodes (part node 0) else (if is_member node.kind then n ∷ [] else [])

-- the name of what a node of a type embeds: "the unqualified type name acts as the field name"
abbrev pub type_word : Unit → NodeRef → List ℕ
type_word u at = option_map_or (last_spelled u at.file) (node_at u at) []

abbrev pub embedded_name : Unit → ℕ → Node → List ℕ
embedded_name u file node = option_map_or (λ n. type_word u (place file n)) (part node 0) []

abbrev pub name_by : Unit → ℕ → Node → List ℕ
name_by u file node = if is_embedded node.kind then embedded_name u file node else first_spelled u file node

-- the name of the member that is declared at a node
abbrev pub member_name : Unit → NodeRef → List ℕ
member_name u at = option_map_or (name_by u at.file) (node_at u at) []

abbrev pub member_names : Unit → List NodeRef → List (List ℕ)
member_names u nodes = map (member_name u) nodes

-- ---- repetitions

-- what stands at a place has its first place before
abbrev pub is_later : ℕ → Option ℕ → Bool
is_later i None = false
is_later i (Some first) = nat_lt first i

-- the name at a place stands at an earlier one too
abbrev pub is_again : List (List ℕ) → ℕ → List ℕ → Bool
is_again names i name = if is_blank name then false else is_later i (place_of names name)

abbrev pub again_at : List (List ℕ) → ℕ → NodeRef → List NodeRef
again_at names i at = if is_again names i (slice_index_or names i []) then at ∷ [] else []

abbrev pub nth_again : List (List ℕ) → List NodeRef → ℕ → List NodeRef
nth_again names nodes i = option_map_or (again_at names i) (slice_get nodes i) []

-- of nodes with these names, those that have the name of an earlier one
abbrev pub all_again : List (List ℕ) → List NodeRef → List NodeRef
all_again names nodes = gather (nth_again names nodes) (length nodes)

abbrev pub is_member_list : NodeKind → Bool
is_member_list k.StructType = true
is_member_list k.InterfaceType = true
is_member_list _ = false

abbrev pub members_at : List Node → ℕ → List ℕ
members_at nodes n = option_map_or (members_of nodes n) (slice_get nodes n) []

abbrev pub nth_members : List Node → Node → ℕ → List ℕ
nth_members nodes node i = option_map_or (members_at nodes) (part node i) []

-- the members of a struct or an interface, in the order in which they are written
abbrev pub members_in : List Node → Node → List ℕ
members_in nodes node = gather (nth_members nodes node) (length node.parts)

-- those of some members that have the name of an earlier one
abbrev pub repeats_of : Unit → List NodeRef → List NodeRef
repeats_of u nodes = all_again (member_names u nodes) nodes

abbrev pub repeats_by : Unit → ℕ → Node → List NodeRef
repeats_by u file node = if is_member_list node.kind then repeats_of u (map (place file) (members_in (nodes_at u file) node)) else []

abbrev pub repeats_at : Unit → ℕ → ℕ → List NodeRef
repeats_at u file n = option_map_or (repeats_by u file) (slice_get (nodes_at u file) n) []

abbrev pub repeats_in : Unit → ℕ → List NodeRef
repeats_in u file = gather (repeats_at u file) (length (nodes_at u file))

abbrev pub repeats : Unit → List NodeRef
repeats u = gather (repeats_in u) (length u.trees)

-- E14: the member at the node has the name of an earlier one of its struct or interface
abbrev pub is_repeat : Unit → NodeRef → Bool
is_repeat u at = option_map_or (λ (node : Node). is_among at (repeats u)) (node_at u at) false
