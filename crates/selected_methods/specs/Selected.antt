-- Which method that the package declares a selector selects (Go 1.17, "Package initialization": "A reference to a method m is a method value or method expression of
-- the form t.m, where the (static) type of t is not an interface type, and the method m is in the method set of t").
use Rattle.std.specs.Prelude.{◌≡◌, ◌↔◌, ℕ, Bool, true, false, if◌then◌else◌, List, [], ◌∷◌, Option, Some, None, option_map, option_and_then}
use Rattle.std.specs.Str.{bytes_eq}
use Rattle.go_tree.specs.declared.tree.Node.{Node}
use Rattle.go_tree.specs.declared.tree.NodeRef.{NodeRef}
use Rattle.object_order.specs.Spots.{place}
use Rattle.package_objects.specs.Declares.{part}
use Rattle.type_model.specs.declared.term.TypeName.{TypeName}
use Rattle.type_model.specs.GoTypes.{GoType, BasicType, DefinedType, PointerTo, SliceOf, ArrayOf, MapOf, ChanOf, FuncOf, StructOf, InterfaceOf, GoSignature}
use Rattle.type_model.specs.Declarations.{Declarations, under_of}
use Rattle.method_sets.specs.Levels.{ToSelect, One, EnoughToSelect, SaysSelected}
use Rattle.method_sets.specs.Members.{selector, AMethod}
use Rattle.method_sets.specs.Paths.{base}
use Rattle.method_sets.specs.Shown.{is_interface_type}
use Rattle.type_questions.specs.Over.{declared}
use Rattle.typed_marks.specs.declared.item.Item.{Item}
use Rattle.typed_marks.specs.Meanings.{Meaning}
use Rattle.unit_read.specs.Imports.{bare}
use Rattle.unit_read.specs.Methods.{methods_of, method_name}
use Rattle.unit_read.specs.Units.{Unit, node_at, type_node, base_of}
use Rattle.rule_words.specs.Asking.{type_item, declaration_told}
use Rattle.selected_methods.specs.Owners.{owner_of, selected_name}
use Rattle.selected_methods.specs.Ways.{led}
use Rattle.std.specs.Option.{option_map_or}

-- ---- methods by name

-- the first of these declarations of methods that has the name
abbrev pub first_called : Unit → List ℕ → List NodeRef → Option NodeRef
first_called u name [] = None
first_called u name (at ∷ list) = if bytes_eq (method_name u at) name then Some at else first_called u name list

abbrev pub name_in : ℕ → Node → Option NodeRef
name_in f node = option_map (place f) (part node 1)

-- the node of the name that a declaration of a method has
abbrev pub name_of : Unit → NodeRef → Option NodeRef
name_of u at = option_and_then (name_in at.file) (node_at u at)

-- the method of this name of the type whose name stands at a node
abbrev pub method_at : Unit → List ℕ → NodeRef → Option NodeRef
method_at u name t = option_and_then (name_of u) (first_called u name (methods_of u t))

abbrev pub node_named : Unit → GoType → Option NodeRef
node_named u (BasicType kind) = None
node_named u (DefinedType name) = type_node u name
node_named u (PointerTo of) = None
node_named u (SliceOf of) = None
node_named u (ArrayOf size of) = None
node_named u (MapOf key of) = None
node_named u (ChanOf direction of) = None
node_named u (FuncOf of) = None
node_named u (StructOf fields) = None
node_named u (InterfaceOf methods) = None

abbrev pub is_interface : Declarations → GoType → Bool
is_interface ds of = option_map_or is_interface_type (under_of ds of) false

-- that of a type of this package that is no interface
abbrev pub method_of : Unit → Declarations → List ℕ → GoType → Option NodeRef
method_of u ds name of = if is_interface ds of then None else option_and_then (method_at u name) (node_named u of)

-- that of the type to which a path of embedded fields leads, from a type or from what it points to
abbrev pub method_led : Unit → Declarations → List ℕ → GoType → List ℕ → Option NodeRef
method_led u ds name of path = option_and_then (method_of u ds name) (led ds (base of) path)

-- ---- what is selected

-- what the name asks of the type, written in this package
abbrev pub to_select : Unit → List ℕ → GoType → ToSelect
to_select u name of = record { of = of; name = selector name u.path }

-- The name selects from the type the method whose name is declared at the node. Enough is declared for that, so it selects it whatever else becomes known.
abbrev pub IsMethodOf : Unit → Declarations → List ℕ → GoType → NodeRef → Type 0
IsMethodOf u ds name of w =
    (path : List ℕ) × (method : GoSignature) × (pointer : Bool) × EnoughToSelect ds (to_select u name of) × SaysSelected ds (to_select u name of) (One path (AMethod method pointer)) × (method_led u ds name of path ≡ Some w)

-- what is declared from the start, and by the marks
abbrev pub declared_by : Unit → (Item → Meaning) → Declarations
declared_by u marks = declared (base_of u) (type_item (bare u)) declaration_told (λ i. Some (marks i))

-- The node is a selector without a fault, and selects the method whose name is declared at the other. What stands before the dot is a value or a type. Only what
-- is declared rests on what is known of other packages.
abbrev pub IsSelectedMethod : Unit → (Item → Meaning) → NodeRef → NodeRef → Type 0
IsSelectedMethod u marks at w = (of : GoType) × (owner_of (bare u) marks at ≡ Some of) × IsMethodOf (bare u) (declared_by u marks) (selected_name (bare u) at) of w
