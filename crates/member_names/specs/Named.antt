-- Which function or method a node names, as facts name them: by the path of its package, and its name or `Type.Method`. Methods of interfaces aren't named, nor
-- those of a type before the dot (Go 1.17, "Method expressions").
use Rattle.std.specs.Prelude.{◌≡◌, ◌⊎◌, ◌||◌, ℕ, Bool, true, if◌then◌else◌, List, ◌∷◌, ◌++◌, Option, Some, None, option_map, option_and_then, slice_get}
use Rattle.go_tree.specs.declared.tree.Node.{Node}
use Rattle.package_objects.specs.Declares.{part}
use Rattle.type_model.specs.declared.term.TypeName.{TypeName}
use Rattle.type_model.specs.GoTypes.{GoType, BasicType, DefinedType, PointerTo, SliceOf, ArrayOf, MapOf, ChanOf, FuncOf, StructOf, InterfaceOf, GoSignature}
use Rattle.type_model.specs.Declarations.{Declarations}
use Rattle.method_sets.specs.Levels.{One, SaysSelected}
use Rattle.method_sets.specs.Members.{AMethod}
use Rattle.method_sets.specs.Paths.{base}
use Rattle.typed_tree.specs.Places.{is_package, is_type}
use Rattle.typed_marks.specs.declared.item.Item.{Item}
use Rattle.typed_marks.specs.Meanings.{Known, Meaning}
use Rattle.unit_read.specs.Units.{Unit, nodes_at, last_spelled}
use Rattle.selected_methods.specs.Selected.{to_select, declared_by, is_interface}
use Rattle.selected_methods.specs.Ways.{led}
use Rattle.findings.specs.Gains.{OfSome}
use Rattle.vet_words.specs.Forms.{is_selector}
use Rattle.vet_words.specs.Marked.{known_at}
use Rattle.vet_words.specs.Called.{function_at}

-- ---- names

-- the name of a defined type
abbrev pub type_called : GoType → Option TypeName
type_called (BasicType kind) = None
type_called (DefinedType name) = Some name
type_called (PointerTo of) = None
type_called (SliceOf of) = None
type_called (ArrayOf size of) = None
type_called (MapOf key of) = None
type_called (ChanOf direction of) = None
type_called (FuncOf of) = None
type_called (StructOf fields) = None
type_called (InterfaceOf methods) = None

-- `Type.Method`
abbrev pub dotted : List ℕ → List ℕ → List ℕ
dotted type method = type ++ (46 ∷ method)

abbrev pub method_named : List ℕ → TypeName → List ℕ × List ℕ
method_named method t = (t.«package», dotted t.name method)

abbrev pub named_of : List ℕ → GoType → Option (List ℕ × List ℕ)
named_of method of = option_map (method_named method) (type_called of)

-- that of a type that is no interface
abbrev pub method_of : Declarations → List ℕ → GoType → Option (List ℕ × List ℕ)
method_of ds method of = if is_interface ds of then None else named_of method of

-- that of the type to which a path of embedded fields leads, from a type or from what it points to
abbrev pub method_led : Declarations → List ℕ → GoType → List ℕ → Option (List ℕ × List ℕ)
method_led ds method of path = option_and_then (method_of ds method) (led ds (base of) path)

-- ---- what is selected

-- the name, written in the package, selects this method from the type
abbrev pub IsMethodNamed : Unit → Declarations → List ℕ → GoType → List ℕ × List ℕ → Type 0
IsMethodNamed u ds name of m = (path : List ℕ) × (method : GoSignature) × (pointer : Bool) × SaysSelected ds (to_select u name of) (One path (AMethod method pointer)) × (method_led ds name of path ≡ Some m)

-- the type of a value
abbrev pub value_type : Known → Option GoType
value_type x = if is_package x.mode || is_type x.mode then None else Some x.of

abbrev pub value_at : (Item → Meaning) → ℕ → ℕ → Option GoType
value_at marks f n = option_and_then value_type (known_at marks f n)

-- that of what stands before the dot
abbrev pub owner_of : (Item → Meaning) → ℕ → Node → Option GoType
owner_of marks f node = option_and_then (value_at marks f) (part node 0)

-- the node selects this method of a value
abbrev pub NamesMethod : Unit → (Item → Meaning) → ℕ → Node → List ℕ × List ℕ → Type 0
NamesMethod u marks f node m = (is_selector node.kind ≡ true) × OfSome (owner_of marks f node) (IsMethodNamed u (declared_by u marks) (last_spelled u f node)) m

abbrev pub NodeNamesMethod : Unit → (Item → Meaning) → ℕ → ℕ → List ℕ × List ℕ → Type 0
NodeNamesMethod u marks f n m = OfSome (slice_get (nodes_at u f) n) (NamesMethod u marks f) m

-- The node names this function or method.
abbrev pub IsNamed : Unit → (Item → Meaning) → ℕ → ℕ → List ℕ × List ℕ → Type 0
IsNamed u marks f n m = (function_at u marks f n ≡ Some m) ⊎ ((function_at u marks f n ≡ None) × NodeNamesMethod u marks f n m)
