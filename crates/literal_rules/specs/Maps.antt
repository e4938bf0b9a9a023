-- Literals of map types (Go 1.17, "Composite literals": "For map literals, all elements must have a key", "multiple elements with the same constant key value").
use Rattle.std.specs.Prelude.{ℕ, Bool, true, false, not, ◌&&◌, is_some, List, length, Option, Some, None, option_and_then, option_map, if◌then◌else◌}
use Rattle.std.specs.Option.{option_map_or}
use Rattle.std.specs.Ordering.{int_eq}
use Rattle.std.specs.Str.{bytes_eq}
use Rattle.gv_base.specs.declared.constant.Const.{Const}
use Rattle.gv_base.specs.declared.constant.Const.TheVariants as const
use Rattle.type_model.specs.GoTypes.{GoType}
use Rattle.same_types.specs.Same.{same_type}
use Rattle.typed_tree.specs.declared.rule.Rule.{Rule as RuleNumber}
use Rattle.typed_marks.specs.Meanings.{Known, Meaning}
use Rattle.typed_tree.specs.declared.rule.TheConstants.{DUPLICATE_KEY, MISSING_KEY}
use Rattle.literal_rules.specs.Again.{all_of, has_again}
use Rattle.literal_rules.specs.Items.{key_of}
use Rattle.literal_rules.specs.Structs.{tested}

-- a constant key: its final type and its value
pub record Key : Type 0 where
  pub of : GoType
  pub value : Const

abbrev pub key_with : Known → Const → Key
key_with x c = record { of = x.last; value = c }

abbrev pub constant_of : Known → Option Key
constant_of x = option_map (key_with x) x.value

abbrev pub constant_key : List (Option Meaning) → ℕ → Option Key
constant_key keys i = option_and_then constant_of (key_of keys i)

-- ---- the same key

abbrev pub same_truth : Bool → Bool → Bool
same_truth a b = if a then b else not b

abbrev pub same_value : Const → Const → Bool
same_value (const.Int a) (const.Int b) = int_eq a b
same_value (const.Truth a) (const.Truth b) = same_truth a b
same_value (const.Text a) (const.Text b) = bytes_eq a b
same_value _ _ = false

-- of equal value and type
abbrev pub same_key : Key → Key → Bool
same_key a b = same_type a.of b.of && same_value a.value b.value

-- ---- tests

abbrev pub is_keyed : List (Option Meaning) → ℕ → Bool
is_keyed keys i = is_some (key_of keys i)

-- E63, E65
abbrev pub map_fault : List (Option Meaning) → Option RuleNumber
map_fault keys =
    tested (not (has_again same_key (constant_key keys) (length keys))) DUPLICATE_KEY (tested (all_of (is_keyed keys) (length keys)) MISSING_KEY None)
