-- What the arguments of built-in functions must be, E55 (Go 1.17, "Built-in functions").
use Rattle.std.specs.Prelude.{ℕ, ◌==◌, nat_le, int_le, Bool, true, false, ◌&&◌, ◌||◌, if◌then◌else◌, List, length, Option, Some, None}
use Rattle.std.specs.Option.{option_map_or}
use Rattle.gv_base.specs.declared.constant.Const.{Const}
use Rattle.gv_base.specs.declared.constant.Const.TheVariants as const
use Rattle.gv_base.specs.declared.constant.Kind.TheVariants as kind
use Rattle.type_model.specs.declared.term.Dir.{Dir}
use Rattle.type_model.specs.declared.term.Dir.TheVariants as d
use Rattle.type_model.specs.GoTypes.{GoType, BasicType, DefinedType, PointerTo, SliceOf, ArrayOf, MapOf, ChanOf, FuncOf, StructOf, InterfaceOf}
use Rattle.same_types.specs.Same.{same_type}
use Rattle.type_rel.specs.Kinds.{is_integer, is_string}
use Rattle.type_rel.specs.Terms.{slice_of, base_of}
use Rattle.typed_tree.specs.Operands.{fits_in, is_natural}
use Rattle.typed_marks.specs.Meanings.{Known, Meaning, Right, Wrong, Beyond, Quiet, Wishes, Declares}
use Rattle.mark_walk.specs.Asks.{done, bind}
use Rattle.unit_read.specs.Units.{Unit}
use Rattle.rule_words.specs.Asking.{Asks, under_ask}
use Rattle.rule_words.specs.Parts.{Part, part_at}
use Rattle.rule_words.specs.Types.{counted, is_of}
use Rattle.builtin_rules.specs.declared.lines.Must.{Must}
use Rattle.builtin_rules.specs.declared.lines.Must.TheVariants as must
use Rattle.builtin_rules.specs.Types.{is_byte_kind}

-- ---- the first argument

-- "Length and capacity": a string, an array, a slice, a map or a channel
unfoldable pub has_length : GoType → Bool
has_length (BasicType kind) = is_string kind
has_length (SliceOf of) = true
has_length (ArrayOf size of) = true
has_length (MapOf key of) = true
has_length (ChanOf direction of) = true
has_length (DefinedType name) = false
has_length (PointerTo of) = false
has_length (FuncOf of) = false
has_length (StructOf fields) = false
has_length (InterfaceOf methods) = false

-- an array, a slice or a channel
unfoldable pub has_capacity : GoType → Bool
has_capacity (SliceOf of) = true
has_capacity (ArrayOf size of) = true
has_capacity (ChanOf direction of) = true
has_capacity (BasicType kind) = false
has_capacity (DefinedType name) = false
has_capacity (PointerTo of) = false
has_capacity (MapOf key of) = false
has_capacity (FuncOf of) = false
has_capacity (StructOf fields) = false
has_capacity (InterfaceOf methods) = false

unfoldable pub is_slice : GoType → Bool
is_slice of = option_map_or (λ (element : GoType). true) (slice_of of) false

unfoldable pub is_map : GoType → Bool
is_map (MapOf key of) = true
is_map (BasicType kind) = false
is_map (DefinedType name) = false
is_map (PointerTo of) = false
is_map (SliceOf of) = false
is_map (ArrayOf size of) = false
is_map (ChanOf direction of) = false
is_map (FuncOf of) = false
is_map (StructOf fields) = false
is_map (InterfaceOf methods) = false

abbrev pub may_send : Dir → Bool
may_send d.Both = true
may_send d.Send = true
may_send d.Receive = false

-- "Close": a channel that isn't receive-only
unfoldable pub is_sender : GoType → Bool
is_sender (ChanOf direction of) = may_send direction
is_sender (BasicType kind) = false
is_sender (DefinedType name) = false
is_sender (PointerTo of) = false
is_sender (SliceOf of) = false
is_sender (ArrayOf size of) = false
is_sender (MapOf key of) = false
is_sender (FuncOf of) = false
is_sender (StructOf fields) = false
is_sender (InterfaceOf methods) = false

unfoldable pub is_chan : GoType → Bool
is_chan (ChanOf direction of) = true
is_chan (BasicType kind) = false
is_chan (DefinedType name) = false
is_chan (PointerTo of) = false
is_chan (SliceOf of) = false
is_chan (ArrayOf size of) = false
is_chan (MapOf key of) = false
is_chan (FuncOf of) = false
is_chan (StructOf fields) = false
is_chan (InterfaceOf methods) = false

-- ---- `copy`: two slices of identical elements, or a string into bytes

abbrev pub is_byte : GoType → Bool
is_byte of = is_of is_byte_kind of

abbrev pub copies_from : GoType → Option GoType → Bool
copies_from element None = false
copies_from element (Some other) = same_type element other

abbrev pub copies_into : GoType → GoType → Bool
copies_into from element = if is_of is_string from then is_byte element else copies_from element (slice_of from)

unfoldable pub copies : GoType → GoType → Bool
copies to from = option_map_or (copies_into from) (slice_of to) false

-- ---- `make`: sizes

-- a constant that `int` represents and that isn't negative, or a value of an integer type
abbrev pub is_size_of : GoType → Option Const → Bool
is_size_of at None = is_of is_integer at
is_size_of at (Some c) = fits_in c kind.Int && is_natural c

-- no constant length is above a constant capacity
abbrev pub is_below : Const → Const → Bool
is_below (const.Int a) (const.Int b) = int_le a b
is_below _ _ = false

abbrev pub below_value : Const → Option Const → Bool
below_value a None = true
below_value a (Some b) = is_below a b

abbrev pub are_in_order : Option Const → Option Const → Bool
are_in_order None b = true
are_in_order (Some a) b = below_value a b

-- ---- good arguments

-- a good part, with the underlying type of its final type
pub record Argument : Type 0 where
  pub of : GoType
  pub value : Option Const
  pub under : GoType

abbrev pub argument_of : Known → GoType → Argument
argument_of x under = record { of = x.of; value = x.value; under = under }

abbrev pub known_argument : Option GoType → Known → Option Argument
known_argument under x = option_map_or (λ (of : GoType). Some (argument_of x of)) under None

abbrev pub good_argument : Option GoType → Meaning → Option Argument
good_argument under (Right x) = known_argument under x
good_argument under (Wrong rule) = None
good_argument under (Beyond limit) = None
good_argument under Quiet = None
good_argument under (Wishes demand wish) = None
good_argument under (Declares d) = None

unfoldable pub argument_at : List Part → ℕ → Option Argument
argument_at ps slot = good_argument (part_at ps slot).under (part_at ps slot).mark

abbrev pub is_there : List Part → ℕ → Bool
is_there ps slot = option_map_or (λ (a : Argument). true) (argument_at ps slot) false

-- an argument that was given is good
abbrev pub is_fine : List Part → ℕ → Bool
is_fine ps slot = nat_le (length ps) slot || is_there ps slot

-- the arguments on which the test rests are good
unfoldable pub are_known : Must → List Part → Bool
are_known must.Anything ps = true
are_known must.Pair ps = is_there ps 1 && is_there ps 2
are_known must.Made ps = is_there ps 1 && (is_fine ps 2 && is_fine ps 3)
are_known must.Good ps = is_there ps 1
are_known must.Slice ps = is_there ps 1
are_known must.Map ps = is_there ps 1
are_known must.Sender ps = is_there ps 1
are_known must.Measured ps = is_there ps 1
are_known must.Capacious ps = is_there ps 1

abbrev pub is_size : Argument → Bool
is_size a = is_size_of (counted a.of a.under) a.value

unfoldable pub one_size : List Part → ℕ → Bool
one_size ps slot = option_map_or is_size (argument_at ps slot) false

abbrev pub size_value : List Part → ℕ → Option Const
size_value ps slot = option_map_or (λ (a : Argument). a.value) (argument_at ps slot) None

unfoldable pub two_sizes : List Part → Bool
two_sizes ps = one_size ps 2 && (one_size ps 3 && are_in_order (size_value ps 2) (size_value ps 3))

-- a slice has a length, and may have a capacity
abbrev pub slice_sizes : List Part → Bool
slice_sizes ps = if length ps == 4 then two_sizes ps else one_size ps 2

-- a map or a channel may have one size
abbrev pub other_sizes : List Part → Bool
other_sizes ps = if length ps == 2 then true else ((length ps == 3) && one_size ps 2)

abbrev pub is_filled : GoType → Bool
is_filled of = is_map of || is_chan of

unfoldable pub is_made : List Part → GoType → Bool
is_made ps of = if is_slice of then slice_sizes ps else (is_filled of && other_sizes ps)

abbrev pub second_copied : List Part → GoType → Bool
second_copied ps of = option_map_or (λ (a : Argument). copies of a.under) (argument_at ps 2) false

-- ---- E55

-- what is looked at of a pointer to an array is the array
abbrev pub is_array : GoType → Bool
is_array (ArrayOf size of) = true
is_array (BasicType kind) = false
is_array (DefinedType name) = false
is_array (PointerTo of) = false
is_array (SliceOf of) = false
is_array (MapOf key of) = false
is_array (ChanOf direction of) = false
is_array (FuncOf of) = false
is_array (StructOf fields) = false
is_array (InterfaceOf methods) = false

abbrev pub or_itself : GoType → GoType → GoType
or_itself of under = if is_array under then under else of

abbrev pub pointed : GoType → Option GoType → Option GoType
pointed of None = None
pointed of (Some under) = Some (or_itself of under)

abbrev pub through : GoType → Option GoType → Asks (Option GoType)
through of under = done (pointed of under)

abbrev pub measured_base : Unit → GoType → GoType → Asks (Option GoType)
measured_base u of base = bind (under_ask u base) (through of)

unfoldable pub measured_ask : Unit → GoType → Asks (Option GoType)
measured_ask u of = option_map_or (measured_base u of) (base_of of) (done (Some of))

abbrev pub looks_through : Must → Bool
looks_through must.Measured = true
looks_through must.Capacious = true
looks_through _ = false

-- the type that is looked at, from the underlying type of the first argument
unfoldable pub shape_ask : Unit → Must → GoType → Asks (Option GoType)
shape_ask u m under = if looks_through m then measured_ask u under else done (Some under)

-- E55: the arguments are what they must be, where this type is looked at
unfoldable pub is_met : Must → List Part → GoType → Bool
is_met must.Anything ps of = true
is_met must.Good ps of = true
is_met must.Slice ps of = is_slice of
is_met must.Map ps of = is_map of
is_met must.Sender ps of = is_sender of
is_met must.Measured ps of = has_length of
is_met must.Capacious ps of = has_capacity of
is_met must.Pair ps of = second_copied ps of
is_met must.Made ps of = is_made ps of
