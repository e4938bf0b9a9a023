-- Which function or method a node names (Go 1.17, "Qualified identifiers", "Selectors").
use Rattle.std.specs.Prelude.{◌≡◌, ◌⊎◌, ℕ, ◌==◌, ◌&&◌, Bool, true, false, if◌then◌else◌, List, Option, Some, None, is_some, slice_get, option_map, option_and_then}
use Rattle.std.specs.Option.{option_map_or}
use Rattle.go_tree.specs.declared.bindings.Object.{Object}
use Rattle.go_tree.specs.declared.bindings.Object.TheVariants as o
use Rattle.go_tree.specs.declared.tree.Node.{Node}
use Rattle.go_tree.specs.declared.tree.NodeKind.{NodeKind}
use Rattle.go_tree.specs.declared.tree.NodeKind.TheVariants as k
use Rattle.go_tree.specs.declared.tree.NodeRef.{NodeRef}
use Rattle.object_order.specs.Spots.{place}
use Rattle.package_objects.specs.Declares.{part}
use Rattle.package_faces.specs.Faces.{Face}
use Rattle.type_model.specs.GoTypes.{GoType, GoSignature}
use Rattle.type_model.specs.Declarations.{Declarations}
use Rattle.method_sets.specs.Levels.{One, SaysSelected}
use Rattle.method_sets.specs.Members.{AMethod}
use Rattle.typed_tree.specs.declared.mark.Mode.{Mode}
use Rattle.typed_tree.specs.declared.mark.Mode.TheVariants as mode
use Rattle.typed_tree.specs.Places.{is_package}
use Rattle.typed_marks.specs.declared.item.Item.{Item}
use Rattle.typed_marks.specs.Meanings.{Known, Meaning}
use Rattle.unit_read.specs.declared.lead.Lead.{Lead}
use Rattle.unit_read.specs.declared.place.Place.{Place}
use Rattle.unit_read.specs.Imports.{lead_at}
use Rattle.unit_read.specs.Units.{Unit, nodes_at, node_at, place_at, object_at, first_spelled, last_spelled}
use Rattle.selected_methods.specs.Selected.{to_select, declared_by}
use Rattle.vet_words.specs.Forms.{is_selector}
use Rattle.vet_words.specs.Marked.{known_at, mode_is}

-- ---- functions, each by the path of its package and its name

abbrev pub is_function_declaration : NodeKind → Bool
is_function_declaration k.FuncDecl = true
is_function_declaration _ = false

abbrev pub declares_at : Unit → NodeRef → Place → Bool
declares_at u name p = (p.slot == 0) && option_map_or (λ (node : Node). is_function_declaration node.kind) (node_at u (place name.file p.around)) false

-- the name is that of a function where it is declared
abbrev pub declares_function : Unit → NodeRef → Bool
declares_function u name = option_map_or (declares_at u name) (place_at u name) false

abbrev pub own_function : Unit → List ℕ → Object → Option (List ℕ × List ℕ)
own_function u name (o.Package at) = if declares_function u at then Some (u.path, name) else None
own_function u name (o.Universe i) = None
own_function u name (o.Import at) = None
own_function u name (o.Local at) = None

-- a function of the package itself
abbrev pub named_function : Unit → ℕ → ℕ → Node → Option (List ℕ × List ℕ)
named_function u f n node = option_and_then (own_function u (first_spelled u f node)) (object_at u (place f n))

abbrev pub path_at : Unit → ℕ → Option (List ℕ)
path_at u i = option_map (λ (f : Face). f.path) (slice_get u.env i)

abbrev pub path_led : Unit → Lead → Option (List ℕ)
path_led u l = option_and_then (path_at u) l.interface

-- the path of the package that a name denotes
abbrev pub package_path : Unit → Object → Option (List ℕ)
package_path u (o.Import at) = option_and_then (path_led u) (lead_at u at)
package_path u (o.Package at) = None
package_path u (o.Universe i) = None
package_path u (o.Local at) = None

abbrev pub object_of : Unit → ℕ → ℕ → Option Object
object_of u f n = object_at u (place f n)

abbrev pub owner_path : Unit → ℕ → Node → Option (List ℕ)
owner_path u f node = option_and_then (package_path u) (option_and_then (object_of u f) (part node 0))

abbrev pub is_value : Mode → Bool
is_value mode.Value = true
is_value _ = false

abbrev pub with_name : List ℕ → List ℕ → List ℕ × List ℕ
with_name name path = (path, name)

-- a function of another package: of what a package exports functions alone are values that are neither constants nor variables
abbrev pub selected_function : Unit → (Item → Meaning) → ℕ → ℕ → Node → Option (List ℕ × List ℕ)
selected_function u marks f n node = if mode_is is_value (known_at marks f n) then option_map (with_name (last_spelled u f node)) (owner_path u f node) else None

abbrev pub function_by : Unit → (Item → Meaning) → ℕ → ℕ → Node → NodeKind → Option (List ℕ × List ℕ)
function_by u marks f n node k.Name = named_function u f n node
function_by u marks f n node k.Selector = selected_function u marks f n node
function_by u marks f n node _ = None

abbrev pub function_of : Unit → (Item → Meaning) → ℕ → ℕ → Node → Option (List ℕ × List ℕ)
function_of u marks f n node = function_by u marks f n node node.kind

-- The function that a node names.
abbrev pub function_at : Unit → (Item → Meaning) → ℕ → ℕ → Option (List ℕ × List ℕ)
function_at u marks f n = option_and_then (function_of u marks f n) (slice_get (nodes_at u f) n)

-- ---- methods

-- the type of a value, or the type that it is; a package has none
abbrev pub owner_type : Known → Option GoType
owner_type x = if is_package x.mode then None else Some x.of

abbrev pub owner_of : (Item → Meaning) → ℕ → Node → Option GoType
owner_of marks f node = option_and_then owner_type (option_and_then (known_at marks f) (part node 0))

-- the name selects a method from the type
abbrev pub IsMethodOf : Unit → Declarations → List ℕ → GoType → Type 0
IsMethodOf u ds name of = (path : List ℕ) × (method : GoSignature) × (pointer : Bool) × SaysSelected ds (to_select u name of) (One path (AMethod method pointer))

-- The node selects a method: of a value, or of a type.
pub record SelectsMethod (u : Unit) (marks : Item → Meaning) (f : ℕ) (node : Node) : Type 0 where
  pub of : GoType
  pub selects : is_selector node.kind ≡ true
  pub owner : owner_of marks f node ≡ Some of
  pub method : IsMethodOf u (declared_by u marks) (last_spelled u f node) of

-- ---- both

abbrev pub names_function : Unit → (Item → Meaning) → ℕ → ℕ → Bool
names_function u marks f n = is_some (function_at u marks f n)

-- The node names a declared function or method.
abbrev pub IsFunction : Unit → (Item → Meaning) → ℕ → ℕ → Node → Type 0
IsFunction u marks f n node = (names_function u marks f n ≡ true) ⊎ SelectsMethod u marks f node
