-- What places wish (Go 1.17, "Constants", "Variable declarations").
use Rattle.std.specs.Prelude.{ℕ}
use Rattle.std.specs.Option.{option_map_or}
use Rattle.go_tree.specs.declared.tree.Node.{Node}
use Rattle.mark_walk.specs.Asks.{done}
use Rattle.package_objects.specs.Declares.{part}
use Rattle.type_model.specs.GoTypes.{GoType, BasicType}
use Rattle.type_model.specs.Tables.{types_in, count}
use Rattle.type_rel.specs.Terms.{kind_of}
use Rattle.typed_tree.specs.declared.place.Want.{Want as Demand}
use Rattle.typed_tree.specs.declared.place.Want.TheVariants as demand
use Rattle.typed_marks.specs.declared.item.Stage.TheVariants as s
use Rattle.typed_marks.specs.declared.mark.Want.{Want}
use Rattle.typed_marks.specs.declared.state.State.{State}
use Rattle.typed_marks.specs.Meanings.{Known, Wish, Free, Takes, Fits, Meaning, Right, Wrong, Beyond, Quiet, Wishes, Declares, wish_in, IsWantWithin}
use Rattle.unit_read.specs.Units.{Unit}
use Rattle.rule_words.specs.Asking.{Rule, mark_ask}
use Rattle.rule_words.specs.Words.{default_kind}

-- a part is wanted so
abbrev pub wants : Demand → Wish → Rule
wants demand wish = done (Wishes demand wish)

-- nothing is known of what stands there
abbrev pub nothing_wanted : Rule
nothing_wanted = wants demand.Nothing Free

-- an operand by itself takes its default type
abbrev pub free_operand : Rule
free_operand = wants demand.Operand Free

-- the default type of an untyped operand, which nothing tests here
abbrev pub default_of : GoType → Wish
default_of of = option_map_or (λ kind. Takes (BasicType (default_kind kind))) (kind_of of) Free

-- a constant is representable in its default type
abbrev pub fitting_default : GoType → Wish
fitting_default of = option_map_or (λ kind. Fits (BasicType (default_kind kind))) (kind_of of) Free

-- of the type of a good mark
abbrev pub by_type : Meaning → (Known → Wish) → Wish
by_type (Right x) rest = rest x
by_type (Wrong rule) rest = Free
by_type (Beyond limit) rest = Free
by_type Quiet rest = Free
by_type (Wishes demand wish) rest = Free
by_type (Declares d) rest = Free

-- a part before anything is wanted of it
unfoldable pub before : Unit → ℕ → Node → ℕ → Rule
before u block around slot = option_map_or (λ n. mark_ask u s.Before block n) (part around slot) (done Quiet)

-- ---- in code

abbrev pub wish_of : State → Want → Wish
wish_of s want = wish_in (types_in s.table) want

abbrev pub IsWishOf : State → Want → Type 0
IsWishOf s want = IsWantWithin (count s.table) want
