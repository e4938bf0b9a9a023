-- Interface types (Go 1.17, "Interface types").
use Rattle.std.specs.Prelude.{ℕ, Bool, true, false, if◌then◌else◌, List, [], ◌∷◌, length, map, Option, Some, None, slice_get, option_and_then}
use Rattle.std.specs.Option.{option_map_or}
use Rattle.std.specs.BTreeMap.{insert_entry}
use Rattle.std.specs.Map.{values_of}
use Rattle.std.specs.Ordering.{nat_cmp, ordering_then}
use Rattle.std.specs.declared.cmp.Ordering.{Ordering}
use Rattle.std.specs.Cmp.Lexicographic.{slice_cmp}
use Rattle.go_tree.specs.declared.tree.Node.{Node}
use Rattle.go_tree.specs.declared.tree.NodeKind.{NodeKind}
use Rattle.go_tree.specs.declared.tree.NodeKind.TheVariants as k
use Rattle.package_objects.specs.Declares.{gather, part}
use Rattle.type_model.specs.GoTypes.{GoType, GoSignature, GoMethods, BasicType, DefinedType, PointerTo, SliceOf, ArrayOf, MapOf, ChanOf, FuncOf, StructOf, InterfaceOf}
use Rattle.type_model.specs.Parts.{GoMethod, method_list}
use Rattle.mark_walk.specs.Asks.{done, bind}
use Rattle.typed_marks.specs.Meanings.{Known, Meaning, Right, Wrong, Quiet}
use Rattle.unit_read.specs.Units.{Unit, nodes_at, first_spelled}
use Rattle.rule_words.specs.Asking.{Rule, under_ask}
use Rattle.rule_words.specs.Parts.{Part, part_at}
use Rattle.rule_words.specs.Putting.{methods_from}
use Rattle.rule_words.specs.Words.{need_type, test}
use Rattle.typed_tree.specs.declared.rule.TheConstants.{EMBEDS_NO_INTERFACE}
use Rattle.rule_words.specs.Good.{known_told}
use Rattle.type_rules.specs.Types.{gives_type}
use Rattle.type_rules.specs.Signatures.{are_good, type_of_part}
use Rattle.type_rules.specs.Structs.{owner_of}

-- ---- what a type is

abbrev pub signature_told : GoType → Option GoSignature
signature_told (BasicType kind) = None
signature_told (DefinedType name) = None
signature_told (PointerTo of) = None
signature_told (SliceOf of) = None
signature_told (ArrayOf size of) = None
signature_told (MapOf key of) = None
signature_told (ChanOf direction of) = None
signature_told (FuncOf of) = Some of
signature_told (StructOf fields) = None
signature_told (InterfaceOf methods) = None

-- the methods of an interface; none of what is none
abbrev pub methods_told : GoType → List GoMethod
methods_told (BasicType kind) = []
methods_told (DefinedType name) = []
methods_told (PointerTo of) = []
methods_told (SliceOf of) = []
methods_told (ArrayOf size of) = []
methods_told (MapOf key of) = []
methods_told (ChanOf direction of) = []
methods_told (FuncOf of) = []
methods_told (StructOf fields) = []
methods_told (InterfaceOf methods) = method_list methods

abbrev pub is_interface : GoType → Bool
is_interface (BasicType kind) = false
is_interface (DefinedType name) = false
is_interface (PointerTo of) = false
is_interface (SliceOf of) = false
is_interface (ArrayOf size of) = false
is_interface (MapOf key of) = false
is_interface (ChanOf direction of) = false
is_interface (FuncOf of) = false
is_interface (StructOf fields) = false
is_interface (InterfaceOf methods) = true

-- ---- elements

abbrev pub method_with : Unit → List ℕ → Bool → GoSignature → List GoMethod
method_with u name pointer of = record { name = name; owner = owner_of u name; pointer = pointer; of = of } ∷ []

-- a method that is written: its name and its signature
abbrev pub written_method : Unit → List ℕ → GoType → List GoMethod
written_method u name of = option_map_or (method_with u name false) (signature_told of) []

-- "it adds all (exported and non-exported) methods of E"
abbrev pub embedded_methods : Option GoType → List GoMethod
embedded_methods under = option_map_or methods_told under []

abbrev pub is_method : NodeKind → Bool
is_method k.Method = true
is_method _ = false

abbrev pub elem_methods : Unit → ℕ → Part → Node → List GoMethod
elem_methods u file p node = if is_method node.kind then written_method u (first_spelled u file node) (type_of_part p) else embedded_methods p.under

abbrev pub elem_at : Unit → ℕ → Part → ℕ → List GoMethod
elem_at u file p n = option_map_or (elem_methods u file p) (slice_get (nodes_at u file) n) []

abbrev pub nth_methods : Unit → ℕ → Node → List Part → ℕ → List GoMethod
nth_methods u file node ps i = option_map_or (elem_at u file (part_at ps i)) (part node i) []

-- the methods of all elements, as they are written
abbrev pub all_methods : Unit → ℕ → Node → List Part → List GoMethod
all_methods u file node ps = gather (nth_methods u file node ps) (length node.parts)

-- ---- a set of methods in order of name and package

abbrev pub Named : Type 0
Named = List ℕ × List ℕ

abbrev pub name_cmp : Named → Named → Ordering
name_cmp a b = ordering_then (slice_cmp nat_cmp a.0 b.0) (slice_cmp nat_cmp a.1 b.1)

-- "The method set .. each method must have a unique name": of those of one name and package the last counts
abbrev pub entered : List (Named × GoMethod) → List GoMethod → List (Named × GoMethod)
entered entries [] = entries
entered entries (m ∷ methods) = entered (insert_entry name_cmp entries (m.name, m.owner) m) methods

abbrev pub in_order : List GoMethod → List GoMethod
in_order methods = values_of (entered [] methods)

-- an interface with a bad part is no type
abbrev pub interface_rule : Unit → ℕ → Node → List Part → Rule
interface_rule u file node ps =
    if are_good ps (length node.parts) then gives_type (InterfaceOf (methods_from (in_order (all_methods u file node ps)))) else done Quiet

-- ---- what is embedded

abbrev pub embeds : Meaning → GoType → Rule
embeds m under = test (is_interface under) EMBEDS_NO_INTERFACE (done m)

abbrev pub embeds_type : Meaning → Option GoType → Rule
embeds_type m under = need_type under (embeds m)

abbrev pub embeds_known : Unit → Meaning → Known → Rule
embeds_known u m x = bind (under_ask u x.of) (λ under. embeds_type m under)

-- E15, of a type name that an interface embeds, from the mark that it has as a type; what isn't good stays
abbrev pub embedding_rule : Unit → Meaning → Rule
embedding_rule u m = option_map_or (embeds_known u m) (known_told m) (done m)
