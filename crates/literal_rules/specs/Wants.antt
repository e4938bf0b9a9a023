-- What the places in a composite literal want (Go 1.17, "Composite literals": "each element may be preceded by a corresponding key"; "the element and key must be
-- assignable to the respective field, element, and key types").
use Rattle.std.specs.Prelude.{ℕ, nat_eq, Bool, true, false, if◌then◌else◌, List, Option, Some, None, slice_get, option_and_then}
use Rattle.std.specs.Option.{option_map_or}
use Rattle.gv_base.specs.declared.constant.Kind.TheVariants as kind
use Rattle.go_tree.specs.declared.tree.Node.{Node}
use Rattle.object_order.specs.Spots.{place}
use Rattle.package_objects.specs.Declares.{part, kind_at}
use Rattle.mark_walk.specs.Asks.{done, bind}
use Rattle.type_model.specs.GoTypes.{GoType, BasicType}
use Rattle.type_model.specs.Parts.{GoField}
use Rattle.typed_tree.specs.declared.place.Want.TheVariants as demand
use Rattle.typed_marks.specs.Meanings.{Free, Takes, Assigned, Meaning, Wishes}
use Rattle.unit_read.specs.declared.place.Place.{Place}
use Rattle.unit_read.specs.Units.{Unit, nodes_at, place_at}
use Rattle.rule_words.specs.Asking.{Rule}
use Rattle.rule_words.specs.Files.{file_of}
use Rattle.literal_rules.specs.declared.forms.Form.{Form}
use Rattle.literal_rules.specs.declared.forms.Form.TheVariants as f
use Rattle.literal_rules.specs.Forms.{form_of, is_braces, is_pair}
use Rattle.literal_rules.specs.Shapes.{Shape, Fields, Row, Table, Other, Literal, braces_ask}
use Rattle.literal_rules.specs.Structs.{field_key}

abbrev pub nothing_wanted : Meaning
nothing_wanted = Wishes demand.Nothing Free

abbrev pub type_wanted : Meaning
type_wanted = Wishes demand.Type Free

-- a value that is assigned to a type
abbrev pub assigned : GoType → Meaning
assigned of = Wishes demand.Operand (Assigned of)

-- ---- elements

-- In a struct no literal leaves out its type.
abbrev pub field_wanted : Bool → GoField → Meaning
field_wanted braces f = if braces then Wishes demand.Operand Free else assigned f.of

-- nothing is wanted of what has no field
abbrev pub of_field : Bool → Option GoField → Meaning
of_field braces o = option_map_or (field_wanted braces) o nothing_wanted

-- an element, with the field that it would have
abbrev pub element_wanted : Bool → (List GoField → Option GoField) → Shape → Meaning
element_wanted braces field (Fields fields) = of_field braces (field fields)
element_wanted braces field (Row e limit) = assigned e
element_wanted braces field (Table key e) = assigned e
element_wanted braces field Other = nothing_wanted

abbrev pub nth_field : ℕ → List GoField → Option GoField
nth_field i fields = slice_get fields i

-- the field that a key names
abbrev pub field_on : List GoField → Option ℕ → Option GoField
field_on fields o = option_and_then (slice_get fields) o

abbrev pub keyed_field : Unit → ℕ → List Node → ℕ → Option ℕ → List GoField → Option GoField
keyed_field u file nodes i key fields = field_on fields (option_and_then (field_key u file fields nodes i) key)

-- ---- keys

-- a field's name is no value; the index of an array or a slice is an `int`, whose range the literal tests
abbrev pub key_wanted : Shape → Meaning
key_wanted (Fields fields) = nothing_wanted
key_wanted (Row e limit) = Wishes demand.Operand (Takes (BasicType kind.Int))
key_wanted (Table key e) = assigned key
key_wanted Other = nothing_wanted

-- ---- by where they stand

-- where the type isn't known nothing is wanted
abbrev pub by_shape : (Shape → Meaning) → Option Literal → Rule
by_shape wanted o = done (option_map_or (λ (l : Literal). wanted l.shape) o nothing_wanted)

abbrev pub braces_want : Unit → ℕ → ℕ → (Shape → Meaning) → Rule
braces_want u block v wanted = bind (braces_ask u block (place (file_of u block) v)) (by_shape wanted)

abbrev pub nodes_in : Unit → ℕ → List Node
nodes_in u block = nodes_at u (file_of u block)

-- an element without a key
abbrev pub plain_want : Unit → ℕ → Place → ℕ → Rule
plain_want u block p n = braces_want u block p.around (element_wanted (is_braces (kind_at (nodes_in u block) n)) (nth_field p.slot))

abbrev pub item_want : Unit → ℕ → Place → ℕ → Rule
item_want u block p n = if is_pair (kind_at (nodes_in u block) n) then done nothing_wanted else plain_want u block p n

abbrev pub element_want : Unit → ℕ → Place → Node → Rule
element_want u block p around = option_map_or (item_want u block p) (part around p.slot) (done nothing_wanted)

-- a key, and an element with a key
abbrev pub second_braces : Unit → ℕ → Node → Bool
second_braces u block around = option_map_or (λ n. is_braces (kind_at (nodes_in u block) n)) (part around 1) false

abbrev pub pair_wanted : Unit → ℕ → Place → Node → ℕ → Shape → Meaning
pair_wanted u block p around i shape =
    if nat_eq p.slot 0 then key_wanted shape
    else element_wanted (second_braces u block around) (keyed_field u (file_of u block) (nodes_in u block) i (part around 0)) shape

abbrev pub pair_in : Unit → ℕ → Place → Node → Place → Rule
pair_in u block p around outer = braces_want u block outer.around (pair_wanted u block p around outer.slot)

abbrev pub pair_want : Unit → ℕ → Place → Node → Rule
pair_want u block p around = option_map_or (pair_in u block p around) (place_at u (place (file_of u block) p.around)) (done nothing_wanted)

-- ---- all

abbrev pub composite_want : ℕ → Meaning
composite_want slot = if nat_eq slot 0 then type_wanted else nothing_wanted

abbrev pub form_wants : Unit → ℕ → Place → Node → Form → Rule
form_wants u block p around f.Composite = done (composite_want p.slot)
form_wants u block p around f.Braces = element_want u block p around
form_wants u block p around f.Pair = pair_want u block p around
form_wants u block p around f.Dots = done type_wanted
form_wants u block p around f.Other = done nothing_wanted

-- What the node around wants of what stands at a place in it.
abbrev pub literal_wants : Unit → ℕ → Place → Node → Rule
literal_wants u block p around = form_wants u block p around (form_of around.kind)
