-- Struct types (Go 1.17, "Struct types", "Exported identifiers").
use Rattle.std.specs.Prelude.{ℕ, zero, suc, ◌==◌, ◌||◌, Bool, true, false, if◌then◌else◌, List, [], ◌∷◌, length, chars, Option, slice_get}
use Rattle.std.specs.Option.{option_map_or}
use Rattle.ucd_category.specs.GeneralCategory.{general_category}
use Rattle.ucd_category.specs.declared.GeneralCategory.{GeneralCategory}
use Rattle.ucd_category.specs.declared.GeneralCategory.TheVariants.{UppercaseLetter}
use Rattle.go_tree.specs.Values.{text_value}
use Rattle.go_tree.specs.declared.tree.Node.{Node}
use Rattle.go_tree.specs.declared.tree.NodeKind.{NodeKind}
use Rattle.go_tree.specs.declared.tree.NodeKind.TheVariants as k
use Rattle.object_order.specs.Spots.{place}
use Rattle.package_objects.specs.Declares.{gather, items, part}
use Rattle.type_model.specs.GoTypes.{GoType, GoFields, StructOf, NoField, AndField}
use Rattle.type_model.specs.Parts.{GoField}
use Rattle.mark_walk.specs.Asks.{done}
use Rattle.typed_marks.specs.Meanings.{Quiet}
use Rattle.unit_read.specs.Units.{Unit, nodes_at, name_at, last_spelled}
use Rattle.unit_read.specs.Members.{is_repeat, embedded_name}
use Rattle.rule_words.specs.Parts.{Part, part_at}
use Rattle.rule_words.specs.Asking.{Rule}
use Rattle.type_rules.specs.Types.{gives_type, same_rule}
use Rattle.type_rules.specs.Signatures.{are_good, type_of_part}

abbrev pub fields_from : List GoField → GoFields
fields_from [] = NoField
fields_from (f ∷ list) = AndField f.name f.owner f.embedded f.of f.tag (fields_from list)

-- ---- names and tags

-- Unicode's category Lu
abbrev pub is_upper : GeneralCategory → Bool
is_upper UppercaseLetter = true
is_upper _ = false

abbrev pub begins_upper : List ℕ → Bool
begins_upper [] = false
begins_upper (c ∷ cs) = is_upper (general_category c)

-- a name whose first character is an upper case letter
abbrev pub is_exported : List ℕ → Bool
is_exported name = begins_upper (chars name)

-- "Uniqueness of identifiers": a name that isn't exported is one of its package
abbrev pub owner_of : Unit → List ℕ → List ℕ
owner_of u name = if is_exported name then [] else u.path

abbrev pub begins_quoted : List ℕ → Bool
begins_quoted [] = false
begins_quoted (b ∷ bs) = b == 34 || b == 96

-- "A field declaration may be followed by an optional string literal tag"
abbrev pub tag_in : List ℕ → List ℕ
tag_in text = if begins_quoted text then text_value text else []

abbrev pub tag_of : Unit → ℕ → Node → List ℕ
tag_of u file node = tag_in (last_spelled u file node)

-- ---- fields

abbrev pub field_of : Unit → List ℕ → Bool → List ℕ → GoType → GoField
field_of u name embedded tag of = record { name = name; owner = owner_of u name; embedded = embedded; of = of; tag = tag }

abbrev pub named_field : Unit → ℕ → List ℕ → GoType → Option ℕ → List GoField
named_field u file tag of o = option_map_or (λ n. field_of u (name_at u (place file n)) false tag of ∷ []) o []

abbrev pub nth_field : Unit → ℕ → List Node → Node → GoType → ℕ → List GoField
nth_field u file nodes node of i = named_field u file (tag_of u file node) of (slice_get (items nodes (part node 0)) i)

abbrev pub named_fields : Unit → ℕ → List Node → Node → GoType → List GoField
named_fields u file nodes node of = gather (nth_field u file nodes node of) (length (items nodes (part node 0)))

abbrev pub embedded_field : Unit → ℕ → Node → GoType → List GoField
embedded_field u file node of = field_of u (embedded_name u file node) true (tag_of u file node) of ∷ []

abbrev pub fields_by : Unit → ℕ → List Node → GoType → NodeKind → Node → List GoField
fields_by u file nodes of k.Field node = named_fields u file nodes node of
fields_by u file nodes of k.Embedded node = embedded_field u file node of
fields_by u file nodes of k.EmbeddedPointer node = embedded_field u file node of
fields_by u file nodes of _ node = []

abbrev pub fields_at : Unit → ℕ → List Node → GoType → ℕ → List GoField
fields_at u file nodes of n = option_map_or (λ (node : Node). fields_by u file nodes of node.kind node) (slice_get nodes n) []

abbrev pub nth_fields : Unit → ℕ → Node → List Part → ℕ → List GoField
nth_fields u file node ps i = option_map_or (fields_at u file (nodes_at u file) (type_of_part (part_at ps i))) (part node i) []

abbrev pub all_fields : Unit → ℕ → Node → List Part → List GoField
all_fields u file node ps = gather (nth_fields u file node ps) (length node.parts)

-- a struct with a bad part is no type
abbrev pub struct_rule : Unit → ℕ → Node → List Part → Rule
struct_rule u file node ps = if are_good ps (length node.parts) then gives_type (StructOf (fields_from (all_fields u file node ps))) else done Quiet

-- ---- a field whose name an earlier one has is a bad part

abbrev pub repeats : Unit → ℕ → Option ℕ → Bool
repeats u file o = option_map_or (λ n. is_repeat u (place file n)) o false

abbrev pub repeat_among : Unit → ℕ → List ℕ → ℕ → Bool
repeat_among u file names zero = false
repeat_among u file names (suc n) = repeat_among u file names n || repeats u file (slice_get names n)

abbrev pub field_rule : Unit → ℕ → List Node → Node → Part → Rule
field_rule u file nodes node p =
    if repeat_among u file (items nodes (part node 0)) (length (items nodes (part node 0))) then done Quiet else same_rule p
