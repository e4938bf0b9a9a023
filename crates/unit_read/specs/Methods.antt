-- The methods that a package declares for its types (Go 1.17, "Method declarations").
use Rattle.std.specs.Prelude.{ℕ, ◌==◌, Bool, false, if◌then◌else◌, List, [], ◌∷◌, length, map, Option, Some, None, slice_get, slice_index_or, is_some}
use Rattle.std.specs.Option.{option_map_or}
use Rattle.go_tree.specs.declared.tree.FileTree.{FileTree}
use Rattle.go_tree.specs.declared.tree.Node.{Node}
use Rattle.go_tree.specs.declared.tree.NodeRef.{NodeRef}
use Rattle.object_order.specs.Spots.{place}
use Rattle.package_objects.specs.Declares.{gather, part}
use Rattle.unit_read.specs.Members.{all_again}
use Rattle.unit_read.specs.Units.{Unit, nodes_at, node_at, name_at, is_this, is_among, first_place}

-- ---- all methods

abbrev pub if_method : Unit → NodeRef → List NodeRef
if_method u at = if is_some (u.owner at) then at ∷ [] else []

abbrev pub methods_at : Unit → ℕ → ℕ → List NodeRef
methods_at u f n = if_method u (place f n)

abbrev pub methods_in : Unit → ℕ → List NodeRef
methods_in u f = gather (methods_at u f) (length (nodes_at u f))

-- the nodes that declare methods, in order of file and node
abbrev pub all_methods : Unit → List NodeRef
all_methods u = gather (methods_in u) (length u.trees)

-- ---- those of a type

abbrev pub if_owned : Unit → NodeRef → NodeRef → List NodeRef
if_owned u t at = if is_this t (u.owner at) then at ∷ [] else []

abbrev pub nth_owned : Unit → NodeRef → ℕ → List NodeRef
nth_owned u t i = option_map_or (if_owned u t) (slice_get (all_methods u) i) []

-- the nodes that declare the methods of the type whose name stands at a node
abbrev pub methods_of : Unit → NodeRef → List NodeRef
methods_of u t = option_map_or (λ (node : Node). gather (nth_owned u t) (length (all_methods u))) (node_at u t) []

-- ---- names

abbrev pub part_name : Unit → ℕ → Node → List ℕ
part_name u f node = option_map_or (λ n. name_at u (place f n)) (part node 1) []

-- the name of the method that a node declares
abbrev pub method_name : Unit → NodeRef → List ℕ
method_name u at = option_map_or (part_name u at.file) (node_at u at) []

abbrev pub method_names : Unit → List NodeRef → List (List ℕ)
method_names u methods = map (method_name u) methods

-- of some methods those that have the name of an earlier one; the blank name may stand more than once
abbrev pub named_again : Unit → List NodeRef → List NodeRef
named_again u methods = all_again (method_names u methods) methods

-- the types of all methods
abbrev pub owners : Unit → List (Option NodeRef)
owners u = map u.owner (all_methods u)

-- this is the first method of its type
abbrev pub is_first : ℕ → Option ℕ → Bool
is_first k o = option_map_or (λ i. i == k) o false

abbrev pub group_of : Unit → ℕ → NodeRef → List NodeRef
group_of u k t = if is_first k (first_place t (owners u)) then methods_of u t else []

-- at the place of the first method of a type all its methods
abbrev pub nth_group : Unit → ℕ → List NodeRef
nth_group u k = option_map_or (λ o. option_map_or (group_of u k) o []) (slice_get (owners u) k) []

abbrev pub nth_named_again : Unit → ℕ → List NodeRef
nth_named_again u k = named_again u (nth_group u k)

-- the methods that have the name of an earlier one of their type
abbrev pub repeated_methods : Unit → List NodeRef
repeated_methods u = gather (nth_named_again u) (length (owners u))

-- E14: the method that a node declares has the name of an earlier one of its type
abbrev pub is_repeated_method : Unit → NodeRef → Bool
is_repeated_method u at = option_map_or (λ (node : Node). is_among at (repeated_methods u)) (node_at u at) false
