-- Which names lead back to themselves, by what their declarations mention.
use Rattle.std.specs.Prelude.{◌≡◌, ◌↔◌, ◌&&◌, ℕ, ◌==◌, IsTrue, Bool, true, false, if◌then◌else◌, List, [], ◌∷◌, length, Option, Some, None, slice_get, option_and_then}
use Rattle.std.specs.Global.{Vec}
use Rattle.std.specs.HashMap.{HashMap}
use Rattle.std.specs.List.{flat_map}
use Rattle.std.specs.Option.{option_map_or}
use Rattle.go_tree.specs.declared.tree.FileTree.{FileTree}
use Rattle.go_tree.specs.declared.tree.Node.{Node}
use Rattle.go_tree.specs.declared.tree.NodeRef.{NodeRef}
use Rattle.object_order.specs.declared.spot.Entry.{Entry}
use Rattle.object_order.specs.declared.spot.Form.{Form}
use Rattle.object_order.specs.declared.spot.Form.TheVariants as form
use Rattle.object_order.specs.Cases.{Is}
use Rattle.object_order.specs.Spots.{World, place}
use Rattle.object_order.specs.Views.{same_key, number_in}
use Rattle.package_objects.specs.Declares.{gather, part, declared}
use Rattle.package_needs.specs.Worlds.{name_of}
use Rattle.name_circles.specs.Circles.{Circles}
use Rattle.unit_read.specs.Methods.{methods_of}
use Rattle.unit_read.specs.Subjects.{flag}
use Rattle.unit_read.specs.Units.{Unit, node_at, object_at}

-- ---- a package as names lead through it

-- the declared name that a node denotes
abbrev pub named_at : Unit → NodeRef → Option NodeRef
named_at u at = option_and_then name_of (object_at u at)

-- the first declaration of a name in a list
abbrev pub first_named : NodeRef → List Entry → Option Entry
first_named at [] = None
first_named at (e ∷ entries) = if same_key (at.file, at.node) (e.name.file, e.name.node) then Some e else first_named at entries

abbrev pub is_defined : Form → Bool
is_defined form.Other = false
is_defined form.Defined = true
is_defined form.Alias = false

abbrev pub part_at : ℕ → Node → List NodeRef
part_at f node = option_map_or (λ n. place f n ∷ []) (part node 1) []

-- the name of the method that a node declares
abbrev pub name_in : Unit → NodeRef → List NodeRef
name_in u at = option_map_or (part_at at.file) (node_at u at) []

abbrev pub method_names : Unit → NodeRef → List NodeRef
method_names u t = flat_map (name_in u) (methods_of u t)

-- the methods of a defined type, by their names
abbrev pub methods_by : Unit → Entry → List NodeRef
methods_by u e = if is_defined e.form then method_names u e.name else []

abbrev pub world_of : Unit → List Entry → World
world_of u entries = record {
  node = node_at u;
  meant = named_at u;
  entry = λ at. first_named at entries;
  kin = λ t. option_map_or (methods_by u) (first_named t entries) [];
}

abbrev pub names_world : Unit → World
names_world u = world_of u (declared u.trees [])

-- ---- names that are no types

-- A constant, a variable, a function or a method, whose declaration leads back to it: by what it mentions outside the bodies of functions, by way of the
-- declarations of what is mentioned, and of a type by what its methods' signatures mention too.
abbrev pub IsCircular : Unit → NodeRef → Type 0
IsCircular u at = Is (names_world u) at form.Other × Circles (names_world u) at

-- the flags are those of a package
pub record AreCircular (u : Unit) (flags : NodeRef → Bool) : Type 0 where
  pub each : (at : NodeRef) (node : Node) → node_at u at ≡ Some node → IsTrue (flags at) ↔ IsCircular u at
  pub others : (at : NodeRef) → node_at u at ≡ None → flags at ≡ false

-- ---- in code

abbrev pub group_items : Vec NodeRef → List NodeRef
group_items group = group.items

abbrev pub is_value : Form → Bool
is_value form.Other = true
is_value form.Defined = false
is_value form.Alias = false

-- the number is that of the first declaration of a name
abbrev pub is_number : Option ℕ → ℕ → Bool
is_number o k = option_map_or (λ n. n == k) o false

abbrev pub if_value : {S : Type 0} → HashMap (ℕ × ℕ) ℕ S → ℕ → Entry → List NodeRef
if_value numbers k e = if is_value e.form && is_number (number_in numbers (e.name.file, e.name.node)) k then e.name ∷ [] else []

abbrev pub nth_value : {S : Type 0} → HashMap (ℕ × ℕ) ℕ S → List Entry → ℕ → List NodeRef
nth_value numbers entries k = option_map_or (if_value numbers k) (slice_get entries k) []

-- the names that are no types
abbrev pub all_values : {S : Type 0} → HashMap (ℕ × ℕ) ℕ S → List Entry → List NodeRef
all_values numbers entries = gather (nth_value numbers entries) (length entries)

abbrev pub if_flagged : List (Vec Bool) → NodeRef → List NodeRef
if_flagged rows at = if flag rows at then at ∷ [] else []

-- of some names those that are flagged
abbrev pub flagged : List (Vec Bool) → List NodeRef → List NodeRef
flagged rows names = flat_map (if_flagged rows) names
