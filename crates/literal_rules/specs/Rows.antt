-- Literals of array and slice types (Go 1.17, "Composite literals": "Each element has an associated integer index marking its position in the array. An element
-- with a key uses the key as its index. If the element has no key, its index is one more than the previous element's index").
use Rattle.std.specs.Prelude.{ℕ, zero, suc, nat_eq, nat_le, nat_lt, Bool, false, not, if◌then◌else◌, List, [], ◌∷◌, length, Option, Some, None, pos, negsuc, option_and_then, option_map}
use Rattle.std.specs.Option.{option_map_or}
use Rattle.gv_base.specs.declared.constant.Const.{Const}
use Rattle.gv_base.specs.declared.constant.Const.TheVariants as const
use Rattle.package_objects.specs.Declares.{gather}
use Rattle.typed_tree.specs.declared.rule.Rule.{Rule as RuleNumber}
use Rattle.typed_marks.specs.Meanings.{Known, Meaning}
use Rattle.typed_tree.specs.declared.rule.TheConstants.{DUPLICATE_KEY, BAD_INDEX_KEY, INDEX_OUT_OF_RANGE}
use Rattle.literal_rules.specs.Again.{has_again, is_empty_at}
use Rattle.literal_rules.specs.Items.{key_of}
use Rattle.literal_rules.specs.Structs.{tested}
use Rattle.rule_words.specs.Again.{any_of, nth_of}

-- ---- positions

-- "The key must be a non-negative constant representable by a value of type int"
abbrev pub index_in : Const → Option ℕ
index_in (const.Int (pos n)) = if nat_le n 9223372036854775807 then Some n else None
index_in (const.Int (negsuc n)) = None
index_in (const.Truth b) = None
index_in (const.Text text) = None

abbrev pub index_of : Known → Option ℕ
index_of x = option_and_then index_in x.value

-- the position of an element, by its key and the one that comes next
abbrev pub by_key : Option ℕ → Option Known → Option ℕ
by_key next None = next
by_key next (Some x) = index_of x

-- the position that comes next after the first few; unknown after a bad key
abbrev pub next_after : List (Option Meaning) → ℕ → Option ℕ
next_after keys zero = Some 0
next_after keys (suc i) = option_map (λ p. suc p) (by_key (next_after keys i) (key_of keys i))

abbrev pub position : List (Option Meaning) → ℕ → Option ℕ
position keys i = by_key (next_after keys i) (key_of keys i)

abbrev pub position_row : List (Option Meaning) → ℕ → List (Option ℕ)
position_row keys i = position keys i ∷ []

abbrev pub positions : List (Option Meaning) → List (Option ℕ)
positions keys = gather (position_row keys) (length keys)

-- ---- tests

-- the position lies beyond
abbrev pub is_beyond : ℕ → List (Option ℕ) → ℕ → Bool
is_beyond limit places i = option_map_or (λ p. not (nat_lt p limit)) (nth_of places i) false

-- E63 an index twice; E66 a key that is none, so that a position isn't known; E43 beyond the array
abbrev pub row_fault : ℕ → List (Option ℕ) → Option RuleNumber
row_fault limit places =
    tested (not (has_again nat_eq (nth_of places) (length places))) DUPLICATE_KEY
    (tested (not (any_of (is_empty_at places) (length places))) BAD_INDEX_KEY
    (tested (not (any_of (is_beyond limit places) (length places))) INDEX_OUT_OF_RANGE None))

-- ---- the length of `[...]T`

abbrev pub greater : ℕ → ℕ → ℕ
greater a b = if nat_lt a b then b else a

abbrev pub behind : Option ℕ → ℕ
behind o = option_map_or (λ p. suc p) o 0

-- one more than the greatest of the first few positions
abbrev pub end_after : List (Option ℕ) → ℕ → ℕ
end_after places zero = 0
end_after places (suc i) = greater (end_after places i) (behind (nth_of places i))

abbrev pub end_of : List (Option ℕ) → ℕ
end_of places = end_after places (length places)
