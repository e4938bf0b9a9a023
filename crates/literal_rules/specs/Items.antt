-- The elements of a literal and their keys (Go 1.17, "Composite literals").
use Rattle.std.specs.Prelude.{ℕ, Bool, false, not, if◌then◌else◌, is_some, List, length, Option, Some, None, slice_get, option_and_then}
use Rattle.std.specs.Option.{option_map_or}
use Rattle.go_tree.specs.declared.tree.Node.{Node}
use Rattle.package_objects.specs.Declares.{part}
use Rattle.mark_walk.specs.Asks.{done, bind}
use Rattle.typed_marks.specs.declared.item.Stage.TheVariants as s
use Rattle.typed_marks.specs.Meanings.{Known, Meaning}
use Rattle.unit_read.specs.Units.{Unit}
use Rattle.rule_words.specs.Asking.{Asks, mark_ask, ask_each}
use Rattle.rule_words.specs.Good.{known_told}
use Rattle.rule_words.specs.Again.{any_of, nth_of}
use Rattle.literal_rules.specs.Again.{all_of}
use Rattle.literal_rules.specs.Forms.{is_pair}

-- what stands before the colon of an element
abbrev pub pair_key : Node → Option ℕ
pair_key node = if is_pair node.kind then part node 0 else None

abbrev pub key_in : List Node → ℕ → Option ℕ
key_in nodes n = option_and_then pair_key (slice_get nodes n)

-- the key of an element of braces
abbrev pub key_at : List Node → Node → ℕ → Option ℕ
key_at nodes v i = option_and_then (key_in nodes) (part v i)

abbrev pub is_keyed : List Node → Node → ℕ → Bool
is_keyed nodes v i = is_some (key_at nodes v i)

-- one of the elements has a key
abbrev pub has_key : List Node → Node → Bool
has_key nodes v = any_of (is_keyed nodes v) (length v.parts)

-- all have keys
abbrev pub have_keys : List Node → Node → Bool
have_keys nodes v = all_of (is_keyed nodes v) (length v.parts)

-- ---- what keys are

abbrev pub key_told : Meaning → Asks (Option Meaning)
key_told m = done (Some m)

abbrev pub key_ask : Unit → ℕ → Option ℕ → Asks (Option Meaning)
key_ask u block None = done None
key_ask u block (Some k) = bind (mark_ask u s.Placed block k) key_told

abbrev pub item_ask : Unit → ℕ → List Node → ℕ → Asks (Option Meaning)
item_ask u block nodes n = key_ask u block (key_in nodes n)

-- the marks of the keys, in the order of the elements; None where there is no key
abbrev pub keys_ask : Unit → ℕ → List Node → List ℕ → Asks (List (Option Meaning))
keys_ask u block nodes list = ask_each (item_ask u block nodes) list

-- what is known of a key
abbrev pub key_of : List (Option Meaning) → ℕ → Option Known
key_of keys i = option_and_then known_told (nth_of keys i)

-- the key isn't good
abbrev pub is_bad_key : List (Option Meaning) → ℕ → Bool
is_bad_key keys i = option_map_or (λ m. not (is_some (known_told m))) (nth_of keys i) false

abbrev pub has_bad : List (Option Meaning) → Bool
has_bad keys = any_of (is_bad_key keys) (length keys)
