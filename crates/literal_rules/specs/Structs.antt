-- Literals of struct types (Go 1.17, "Composite literals").
use Rattle.std.specs.Prelude.{ℕ, nat_eq, Bool, true, false, not, ◌||◌, if◌then◌else◌, List, [], ◌∷◌, length, map, Option, Some, None, slice_get, option_and_then}
use Rattle.std.specs.Option.{option_map_or}
use Rattle.std.specs.Str.{bytes_eq}
use Rattle.go_tree.specs.Lexeme.{place_of}
use Rattle.go_tree.specs.declared.tree.Node.{Node}
use Rattle.object_order.specs.Spots.{place}
use Rattle.package_objects.specs.Declares.{gather, kind_at}
use Rattle.type_model.specs.Parts.{GoField}
use Rattle.typed_tree.specs.declared.rule.Rule.{Rule as RuleNumber}
use Rattle.unit_read.specs.Units.{Unit, name_at, is_blank}
use Rattle.typed_tree.specs.declared.rule.TheConstants.{KEYS_MIXED, UNKNOWN_FIELD, DUPLICATE_KEY, WRONG_NUMBER_OF_FIELDS, IMPLICIT_FIELD_NOT_EXPORTED}
use Rattle.literal_rules.specs.Again.{all_of, has_again, is_empty_at}
use Rattle.literal_rules.specs.Forms.{is_name}
use Rattle.literal_rules.specs.Items.{key_at, has_key, have_keys}
use Rattle.rule_words.specs.Again.{any_of, nth_of}

-- the first test that fails gives its rule
abbrev pub tested : Bool → RuleNumber → Option RuleNumber → Option RuleNumber
tested ok rule rest = if ok then rest else Some rule

-- ---- fields by name

-- the name is exported, or one of this package
abbrev pub is_visible : List ℕ → GoField → Bool
is_visible path f = bytes_eq f.owner [] || bytes_eq f.owner path

abbrev pub if_visible : List ℕ → List GoField → ℕ → Option ℕ
if_visible path fields n = option_and_then (λ (f : GoField). if is_visible path f then Some n else None) (slice_get fields n)

abbrev pub field_names : List GoField → List (List ℕ)
field_names fields = map (λ (f : GoField). f.name) fields

-- a field of this name stands at a place
abbrev pub has_name : List GoField → ℕ → List ℕ → Bool
has_name fields i name = option_map_or (λ (f : GoField). bytes_eq f.name name) (slice_get fields i) false

-- Elements mostly stand in the order of the fields: the field at an element's own place, where it has the name, else the first that has it. No two fields have one name.
abbrev pub place_near : List GoField → ℕ → List ℕ → Option ℕ
place_near fields i name = if has_name fields i name then Some i else place_of (field_names fields) name

abbrev pub named_field : List ℕ → List GoField → ℕ → List ℕ → Option ℕ
named_field path fields i name = option_and_then (if_visible path fields) (place_near fields i name)

-- the place of the field of a name that may be written in a package, for an element at this place
abbrev pub field_place : List ℕ → List GoField → ℕ → List ℕ → Option ℕ
field_place path fields i name = if is_blank name then None else named_field path fields i name

-- "A key must be a field name declared in the struct type"
abbrev pub field_key : Unit → ℕ → List GoField → List Node → ℕ → ℕ → Option ℕ
field_key u file fields nodes i k = if is_name (kind_at nodes k) then field_place u.path fields i (name_at u (place file k)) else None

-- the field of an element
abbrev pub field_at : Unit → ℕ → List GoField → List Node → Node → ℕ → Option ℕ
field_at u file fields nodes v i = option_and_then (field_key u file fields nodes i) (key_at nodes v i)

abbrev pub field_row : Unit → ℕ → List GoField → List Node → Node → ℕ → List (Option ℕ)
field_row u file fields nodes v i = field_at u file fields nodes v i ∷ []

-- the fields of the elements, in their order
abbrev pub fields_at : Unit → ℕ → List GoField → List Node → Node → List (Option ℕ)
fields_at u file fields nodes v = gather (field_row u file fields nodes v) (length v.parts)

-- ---- with keys

-- E62, E63
abbrev pub named_fault : List (Option ℕ) → Option RuleNumber
named_fault places =
    tested (not (any_of (is_empty_at places) (length places))) UNKNOWN_FIELD
    (tested (not (has_again nat_eq (nth_of places) (length places))) DUPLICATE_KEY None)

-- "An element list that contains any keys must have a key for each element": E61
abbrev pub keyed_fault : Unit → ℕ → List GoField → List Node → Node → Option RuleNumber
keyed_fault u file fields nodes v = tested (have_keys nodes v) KEYS_MIXED (named_fault (fields_at u file fields nodes v))

-- ---- without keys

abbrev pub is_open : List ℕ → List GoField → ℕ → Bool
is_open path fields i = option_map_or (is_visible path) (slice_get fields i) true

-- "An element list that does not contain any keys must list an element for each struct field": E64. "It is an error to specify an element for a non-exported field
-- of a struct belonging to a different package": E67
abbrev pub listed_fault : List ℕ → List GoField → ℕ → Option RuleNumber
listed_fault path fields count =
    tested (nat_eq count (length fields)) WRONG_NUMBER_OF_FIELDS (tested (all_of (is_open path fields) (length fields)) IMPLICIT_FIELD_NOT_EXPORTED None)

-- "A literal may omit the element list; such a literal evaluates to the zero value for its type"
abbrev pub unkeyed_fault : List ℕ → List GoField → ℕ → Option RuleNumber
unkeyed_fault path fields count = if nat_eq count 0 then None else listed_fault path fields count

-- ---- all

abbrev pub struct_fault : Unit → ℕ → List GoField → List Node → Node → Option RuleNumber
struct_fault u file fields nodes v =
    if has_key nodes v then keyed_fault u file fields nodes v else unkeyed_fault u.path fields (length v.parts)
