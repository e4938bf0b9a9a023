-- Type expressions (Go 1.17, "Types").
use Rattle.std.specs.Prelude.{ℕ, nat_le, if◌then◌else◌, Option, Some, None, option_and_then, pos, negsuc}
use Rattle.std.specs.Option.{option_map_or}
use Rattle.gv_base.specs.declared.constant.Const.{Const}
use Rattle.gv_base.specs.declared.constant.Const.TheVariants as const
use Rattle.type_model.specs.declared.term.Dir.{Dir}
use Rattle.type_model.specs.GoTypes.{GoType, PointerTo, SliceOf, ArrayOf, MapOf, ChanOf}
use Rattle.mark_walk.specs.Asks.{done}
use Rattle.typed_tree.specs.declared.mark.Mode.TheVariants as mode
use Rattle.typed_tree.specs.declared.rule.TheConstants.{BAD_ARRAY_LENGTH}
use Rattle.typed_marks.specs.Meanings.{Known, Meaning, Right, Wrong, Quiet}
use Rattle.rule_words.specs.Parts.{Part}
use Rattle.rule_words.specs.Asking.{Rule}
use Rattle.rule_words.specs.Answers.{typed}
use Rattle.rule_words.specs.Good.{given}

-- a type expression that gives this type
abbrev pub gives_type : GoType → Rule
gives_type of = done (typed mode.TypeName of)

-- an embedded pointer: "a pointer to a non-interface type name"
abbrev pub pointing_rule : Part → Rule
pointing_rule p = given p.mark (λ x. gives_type (PointerTo x.of))

-- "Slice types": `[]T`; of a variadic parameter `...T` "the type is equivalent to `[]T`"
abbrev pub slice_rule : Part → Rule
slice_rule p = given p.mark (λ x. gives_type (SliceOf x.of))

-- "Channel types"
abbrev pub chan_rule : Dir → Part → Rule
chan_rule direction p = given p.mark (λ x. gives_type (ChanOf direction x.of))

-- "Map types"
abbrev pub map_of : Known → Part → Rule
map_of key p = given p.mark (λ x. gives_type (MapOf key.of x.of))

abbrev pub map_rule : Part → Part → Rule
map_rule key p = given key.mark (λ x. map_of x p)

-- "Array types": the length "must evaluate to a non-negative constant representable by a value of type int"
abbrev pub length_in : Const → Option ℕ
length_in (const.Int (pos n)) = if nat_le n 9223372036854775807 then Some n else None
length_in (const.Int (negsuc n)) = None
length_in (const.Truth b) = None
length_in (const.Text text) = None

abbrev pub length_of : Option Const → Option ℕ
length_of o = option_and_then length_in o

abbrev pub array_of : Part → ℕ → Rule
array_of p n = given p.mark (λ x. gives_type (ArrayOf n x.of))

-- E11
abbrev pub sized_rule : Known → Part → Rule
sized_rule size p = option_map_or (array_of p) (length_of size.value) (done (Wrong BAD_ARRAY_LENGTH))

abbrev pub array_rule : Part → Part → Rule
array_rule size p = given size.mark (λ x. sized_rule x p)

-- the type that a part is: a parameter, a field or an embedded field has the type that is written for it
abbrev pub same_type : Known → Meaning
same_type x = Right (record { mode = mode.TypeName; of = x.of; value = None; last = x.of })

abbrev pub same_rule : Part → Rule
same_rule p = given p.mark (λ x. done (same_type x))
