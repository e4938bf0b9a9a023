-- The methods with which a type is declared (Go 1.17, "Method declarations", "Method sets").
use Rattle.std.specs.Prelude.{◌≡◌, ℕ, ◌&&◌, ◌||◌, ◌++◌, Bool, true, false, if◌then◌else◌, List, [], ◌∷◌, map, bytes_eq, Option, Some, None, slice_get, option_and_then}
use Rattle.std.specs.Option.{option_map_or}
use Rattle.go_tree.specs.declared.tree.Node.{Node}
use Rattle.go_tree.specs.declared.tree.NodeRef.{NodeRef}
use Rattle.package_objects.specs.Declares.{part}
use Rattle.type_model.specs.Parts.{GoMethod}
use Rattle.type_model.specs.GoTypes.{GoType, GoFields, GoSignature, BasicType, DefinedType, PointerTo, SliceOf, ArrayOf, MapOf, ChanOf, FuncOf, StructOf, InterfaceOf, NoField, AndField}
use Rattle.mark_walk.specs.Asks.{done, bind}
use Rattle.mark_walk.specs.Telling.{Says, Waits, tell, Sight}
use Rattle.type_questions.specs.Questions.{Question, Told}
use Rattle.typed_marks.specs.declared.item.Item.{Item}
use Rattle.typed_marks.specs.declared.item.Stage.TheVariants as s
use Rattle.typed_marks.specs.Meanings.{Known, Meaning}
use Rattle.unit_read.specs.Methods.{methods_of, method_name, is_repeated_method}
use Rattle.unit_read.specs.Units.{Unit, nodes_at, node_at, is_blank}
use Rattle.rule_words.specs.Asking.{Asks, ask_each, mark_ask}
use Rattle.rule_words.specs.Good.{known_told}
use Rattle.type_rules.specs.Interfaces.{signature_told, method_with}
use Rattle.type_answers.specs.Unknown.{no_signature}
use Rattle.type_rules.specs.Structs.{owner_of}

-- ---- fields

abbrev pub same_name : List ℕ → List ℕ → List ℕ → List ℕ → Bool
same_name name owner other its = bytes_eq name other && bytes_eq owner its

abbrev pub is_field_of : List ℕ → List ℕ → GoFields → Bool
is_field_of name owner NoField = false
is_field_of name owner (AndField other its embedded of tag fields) = same_name name owner other its || is_field_of name owner fields

-- a struct has a field of this name
abbrev pub has_field : List ℕ → List ℕ → GoType → Bool
has_field name owner (BasicType kind) = false
has_field name owner (DefinedType other) = false
has_field name owner (PointerTo of) = false
has_field name owner (SliceOf of) = false
has_field name owner (ArrayOf size of) = false
has_field name owner (MapOf key of) = false
has_field name owner (ChanOf direction of) = false
has_field name owner (FuncOf of) = false
has_field name owner (StructOf fields) = is_field_of name owner fields
has_field name owner (InterfaceOf methods) = false

-- E14: "the non-blank method and field names must be distinct", and those of methods unique; a blank name is in no set
abbrev pub is_left_out : Unit → GoType → NodeRef → List ℕ → Bool
is_left_out u under at name = is_blank name || (is_repeated_method u at || has_field name (owner_of u name) under)

-- ---- one method

abbrev pub is_pointer : GoType → Bool
is_pointer (BasicType kind) = false
is_pointer (DefinedType name) = false
is_pointer (PointerTo of) = true
is_pointer (SliceOf of) = false
is_pointer (ArrayOf size of) = false
is_pointer (MapOf key of) = false
is_pointer (ChanOf direction of) = false
is_pointer (FuncOf of) = false
is_pointer (StructOf fields) = false
is_pointer (InterfaceOf methods) = false

-- the first entry of the list in front of a method's name: its receiver
abbrev pub first_entry : List Node → ℕ → Option ℕ
first_entry nodes list = option_and_then (λ (node : Node). part node 0) (slice_get nodes list)

abbrev pub receiver_entry : List Node → Node → Option ℕ
receiver_entry nodes node = option_and_then (first_entry nodes) (part node 0)

abbrev pub unknown_method : Unit → List ℕ → Known → List GoMethod
unknown_method u name r = method_with u name (is_pointer r.of) no_signature

abbrev pub signed_method : Unit → List ℕ → Known → Known → List GoMethod
signed_method u name x r = option_map_or (method_with u name (is_pointer r.of)) (signature_told x.of) (unknown_method u name r)

abbrev pub received_method : Unit → List ℕ → Meaning → Known → List GoMethod
received_method u name m r = option_map_or (λ x. signed_method u name x r) (known_told m) (unknown_method u name r)

-- From its mark and that of its receiver: none where the receiver isn't good. Where its signature isn't, it is there all the same.
abbrev pub told_method : Unit → List ℕ → Meaning → Meaning → List GoMethod
told_method u name m r = option_map_or (received_method u name m) (known_told r) []

abbrev pub entry_ask : Unit → NodeRef → List ℕ → Meaning → ℕ → Asks (List GoMethod)
entry_ask u at name m entry = bind (mark_ask u s.Placed at.file entry) (λ r. done (told_method u name m r))

abbrev pub receiver_ask : Unit → NodeRef → Node → List ℕ → Meaning → Asks (List GoMethod)
receiver_ask u at node name m = option_map_or (entry_ask u at name m) (receiver_entry (nodes_at u at.file) node) (done [])

abbrev pub signature_ask : Unit → NodeRef → Node → List ℕ → Asks (List GoMethod)
signature_ask u at node name = bind (mark_ask u s.Placed at.file at.node) (λ m. receiver_ask u at node name m)

abbrev pub node_ask : Unit → GoType → NodeRef → Node → Asks (List GoMethod)
node_ask u under at node = if is_left_out u under at (method_name u at) then done [] else signature_ask u at node (method_name u at)

-- the method that a node declares, if it is in the set
abbrev pub method_ask : Unit → GoType → NodeRef → Asks (List GoMethod)
method_ask u under at = option_map_or (node_ask u under at) (node_at u at) (done [])

-- ---- all

abbrev pub all_of : {X : Type 0} → List (List X) → List X
all_of [] = []
all_of (xs ∷ rest) = xs ++ all_of rest

-- the methods of the type whose name stands at a node, with this underlying type, as they are declared
abbrev pub methods_ask : Unit → GoType → NodeRef → Asks (List (List GoMethod))
methods_ask u under name = ask_each (method_ask u under) (methods_of u name)

-- ---- in code

-- what was asked gives these methods behind the old ones, or the item for which it waits
abbrev pub Gives : Sight Item Meaning Question Told → Asks (List GoMethod) → List GoMethod → List GoMethod → Option Item → Type 0
Gives sight asked old new None = (xs : List GoMethod) × (tell sight asked ≡ Says xs) × (new ≡ old ++ xs)
Gives sight asked old new (Some item) = tell sight asked ≡ Waits item

-- what was asked for all gives these methods, or the item for which one of them waits
abbrev pub GivesAll : Sight Item Meaning Question Told → Asks (List (List GoMethod)) → List GoMethod → Option Item → Type 0
GivesAll sight asked list None = (xss : List (List GoMethod)) × (tell sight asked ≡ Says xss) × (list ≡ all_of xss)
GivesAll sight asked list (Some item) = tell sight asked ≡ Waits item
