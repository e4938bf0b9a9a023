-- What marks say of nodes in their places.
use Rattle.std.specs.Prelude.{ℕ, ◌&&◌, Bool, true, false, Option}
use Rattle.std.specs.Option.{option_map_or}
use Rattle.go_tree.specs.declared.tree.Node.{Node}
use Rattle.package_objects.specs.Declares.{part}
use Rattle.typed_tree.specs.declared.mark.Mode.{Mode}
use Rattle.typed_tree.specs.Places.{is_type, is_nil_mode, is_constant as is_constant_mode}
use Rattle.typed_marks.specs.declared.item.Item.{Item}
use Rattle.typed_marks.specs.declared.item.Stage.TheVariants as s
use Rattle.typed_marks.specs.Meanings.{Known, Meaning}
use Rattle.rule_words.specs.Asking.{item}
use Rattle.rule_words.specs.Good.{known_told}
use Rattle.vet_words.specs.Forms.{is_plain_call}

-- what is known of a node of a file
abbrev pub known_at : (Item → Meaning) → ℕ → ℕ → Option Known
known_at marks f n = known_told (marks (item s.Placed f n))

abbrev pub mode_is : (Mode → Bool) → Option Known → Bool
mode_is test o = option_map_or (λ (x : Known). test x.mode) o false

-- the node stands for a type
abbrev pub names_type : (Item → Meaning) → ℕ → ℕ → Bool
names_type marks f n = mode_is is_type (known_at marks f n)

-- it is `nil`
abbrev pub is_nil : (Item → Meaning) → ℕ → ℕ → Bool
is_nil marks f n = mode_is is_nil_mode (known_at marks f n)

-- it is a constant
abbrev pub is_constant : (Item → Meaning) → ℕ → ℕ → Bool
is_constant marks f n = mode_is is_constant_mode (known_at marks f n)

-- ---- conversions

-- what the node calls is a type
abbrev pub calls_type : (Item → Meaning) → ℕ → Node → Bool
calls_type marks f node = option_map_or (names_type marks f) (part node 0) false

-- "Conversions": the node is one
abbrev pub is_conversion : (Item → Meaning) → ℕ → Node → Bool
is_conversion marks f node = is_plain_call node.kind && calls_type marks f node
