-- What the places in calls of built-in functions want (Go 1.17, "Built-in functions").
use Rattle.std.specs.Prelude.{ℕ, Bool, false, ◌&&◌, if◌then◌else◌, Option, Some, None}
use Rattle.std.specs.Option.{option_map_or}
use Rattle.gv_base.specs.declared.constant.Kind.TheVariants as kind
use Rattle.go_tree.specs.declared.tree.Node.{Node}
use Rattle.mark_walk.specs.Asks.{bind}
use Rattle.type_model.specs.GoTypes.{GoType, BasicType}
use Rattle.type_rel.specs.Kinds.{is_string}
use Rattle.type_rel.specs.Terms.{slice_of}
use Rattle.typed_tree.specs.declared.place.Want.TheVariants as demand
use Rattle.typed_marks.specs.Meanings.{Wish, Free, Takes, Assigned, Meaning}
use Rattle.unit_read.specs.Units.{Unit}
use Rattle.rule_words.specs.Asking.{Rule, mark_under}
use Rattle.rule_words.specs.Types.{is_of}
use Rattle.rule_words.specs.Wishes.{before, by_type, fitting_default, free_operand, nothing_wanted, wants}
use Rattle.builtin_rules.specs.declared.lines.Builtin.{Builtin}
use Rattle.builtin_rules.specs.declared.lines.Taking.{Taking}
use Rattle.builtin_rules.specs.declared.lines.Taking.TheVariants as takes
use Rattle.builtin_rules.specs.Builtins.{line_of, taken_at}
use Rattle.builtin_rules.specs.Musts.{is_byte}
use Rattle.builtin_rules.specs.Named.{is_spread}
use Rattle.builtin_rules.specs.Types.{key_of}
use Rattle.builtin_rules.specs.Wishes.{assigned_to}

-- `panic` takes a value of any type, also nil
unfoldable pub any_wish : Meaning → Wish
any_wish own = by_type own (λ x. fitting_default x.of)

abbrev pub any_by : Meaning → Rule
any_by own = wants demand.Operand (any_wish own)

-- a key of the map that is the first argument
abbrev pub key_wish : Option GoType → Wish
key_wish under = assigned_to (option_map_or key_of under None)

abbrev pub key_by : Option GoType → Rule
key_by under = wants demand.Operand (key_wish under)

abbrev pub key_over : Unit → Meaning → Rule
key_over u first = bind (mark_under u first) key_by

-- "Appending to and copying slices": an element of the slice that is the first argument
abbrev pub element_in : Option GoType → Option GoType
element_in under = option_map_or slice_of under None

abbrev pub element_by : Option GoType → Rule
element_by under = wants demand.Operand (assigned_to (element_in under))

-- With `...` behind it, a slice of its elements; to bytes a string may be appended.
abbrev pub is_text : Option GoType → Bool
is_text own = option_map_or (is_of is_string) own false

abbrev pub appended_wish : Option GoType → GoType → GoType → Wish
appended_wish own slice element = if is_byte element && is_text own then Free else Assigned slice

abbrev pub appended_to : Option GoType → GoType → Wish
appended_to own slice = option_map_or (appended_wish own slice) (slice_of slice) Free

unfoldable pub spread_wish : Option GoType → Option GoType → Wish
spread_wish under own = option_map_or (appended_to own) under Free

abbrev pub spread_by : Option GoType → Option GoType → Rule
spread_by under own = wants demand.Operand (spread_wish under own)

abbrev pub spread_own : Unit → Option GoType → Meaning → Rule
spread_own u under own = bind (mark_under u own) (spread_by under)

abbrev pub spread_over : Unit → ℕ → Node → ℕ → Option GoType → Rule
spread_over u block around slot under = bind (before u block around slot) (spread_own u under)

unfoldable pub element_over : Unit → ℕ → Node → ℕ → Option GoType → Rule
element_over u block around slot under = if is_spread around.kind then spread_over u block around slot under else element_by under

abbrev pub element_wants : Unit → ℕ → Node → ℕ → Meaning → Rule
element_wants u block around slot first = bind (mark_under u first) (element_over u block around slot)

-- a size takes `int`
unfoldable pub taking_wants : Unit → ℕ → Node → ℕ → Taking → Rule
taking_wants u block around slot takes.Value = free_operand
taking_wants u block around slot takes.Type = wants demand.Type Free
taking_wants u block around slot takes.Size = wants demand.Count (Takes (BasicType kind.Int))
taking_wants u block around slot takes.Any = bind (before u block around slot) any_by
taking_wants u block around slot takes.Key = bind (before u block around 1) (key_over u)
taking_wants u block around slot takes.Element = bind (before u block around 1) (element_wants u block around slot)

unfoldable pub builtin_wants : Unit → ℕ → Node → ℕ → Option Builtin → Rule
builtin_wants u block around slot None = nothing_wanted
builtin_wants u block around slot (Some b) = taking_wants u block around slot (taken_at (line_of b) slot)
