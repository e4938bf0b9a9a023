-- Names in tags of fields, for `json` and `xml`.
use Rattle.std.specs.Prelude.{ℕ, ◌==◌, ◌&&◌, ◌||◌, not, Bool, true, false, if◌then◌else◌, List, [], ◌∷◌, ◌++◌, codes, Option, Some, None, option_map, option_and_then}
use Rattle.std.specs.List.{fold}
use Rattle.std.specs.Str.{bytes_eq, is_utf8}
use Rattle.go_tree.specs.Values.{text_value}
use Rattle.vet_simple.specs.declared.tags.Pair.{Pair}

-- ---- keys

-- the first pair that has a key
abbrev pub pair_of : List ℕ → List Pair → Option Pair
pair_of key [] = None
pair_of key (p ∷ pairs) = if bytes_eq p.key key then Some p else pair_of key pairs

abbrev pub value_in : Pair → List ℕ
value_in p = text_value p.value

-- its value
abbrev pub value_of : List ℕ → List Pair → Option (List ℕ)
value_of key pairs = option_map value_in (pair_of key pairs)

-- what stands before the first comma
abbrev pub before_comma : List ℕ → List ℕ
before_comma [] = []
before_comma (b ∷ bytes) = if b == 44 then [] else b ∷ before_comma bytes

-- a name: UTF-8, not empty and not `-`
abbrev pub is_name : List ℕ → Bool
is_name name = is_utf8 name && (not (bytes_eq name []) && not (bytes_eq name (codes "-")))

abbrev pub if_name : List ℕ → Option (List ℕ)
if_name name = if is_name name then Some name else None

abbrev pub name_in : List ℕ → Option (List ℕ)
name_in value = if_name (before_comma value)

-- ---- options

-- whether a comma was met, the option so far, and whether one before it was `attr`
pub record OptionsOf : Type 0 where
  pub inside : Bool
  pub word : List ℕ
  pub found : Bool

abbrev pub is_attr : OptionsOf → Bool
is_attr o = o.found || (o.inside && bytes_eq o.word (codes "attr"))

abbrev pub next_option : OptionsOf → OptionsOf
next_option o = record { inside = true; word = []; found = is_attr o }

abbrev pub more_option : OptionsOf → ℕ → OptionsOf
more_option o b = record { inside = o.inside; word = o.word ++ b ∷ []; found = o.found }

abbrev pub option_step : OptionsOf → ℕ → OptionsOf
option_step o b = if b == 44 then next_option o else more_option o b

abbrev pub no_options : OptionsOf
no_options = record { inside = false; word = []; found = false }

-- One of the options behind the name, which commas part, is `attr`.
abbrev pub is_attribute : List ℕ → Bool
is_attribute value = is_attr (fold option_step no_options value)

-- ---- keys of names

-- a name under a mark
abbrev pub marked : ℕ → List ℕ → Option (List ℕ)
marked mark value = option_map (λ (name : List ℕ). mark ∷ name) (name_in value)

abbrev pub attribute_mark : List ℕ → ℕ
attribute_mark value = if is_attribute value then 1 else 2

abbrev pub xml_marked : List ℕ → Option (List ℕ)
xml_marked value = marked (attribute_mark value) value

-- Names that can be the same: those of `json`, those of `xml` that are attributes, and its others.
abbrev pub json_key : List Pair → Option (List ℕ)
json_key pairs = option_and_then (marked 0) (value_of (codes "json") pairs)

abbrev pub xml_key : List Pair → Option (List ℕ)
xml_key pairs = option_and_then xml_marked (value_of (codes "xml") pairs)
