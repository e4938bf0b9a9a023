-- Slice expressions (Go 1.17, "Slice expressions"). The tests stand in the order E44, E42, E43, E45.
use Rattle.std.specs.Prelude.{ℕ, ℤ, pos, int_le, Bool, true, false, ◌&&◌, if◌then◌else◌, List, Option, Some, None, option_map}
use Rattle.std.specs.Option.{option_map_or}
use Rattle.gv_base.specs.declared.constant.Const.{Const}
use Rattle.gv_base.specs.declared.constant.Const.TheVariants as const
use Rattle.mark_walk.specs.Asks.{done, bind}
use Rattle.type_model.specs.GoTypes.{GoType, SliceOf}
use Rattle.typed_tree.specs.declared.mark.Mode.TheVariants as mode
use Rattle.typed_marks.specs.Meanings.{Meaning, Wrong, Quiet}
use Rattle.unit_read.specs.Units.{Unit}
use Rattle.rule_words.specs.Answers.{typed}
use Rattle.rule_words.specs.Asking.{Rule, under_ask}
use Rattle.rule_words.specs.Parts.{Part, part_at}
use Rattle.rule_words.specs.Words.{test}
use Rattle.primary_rules.specs.declared.forms.Bounds.{Bounds as Slots}
use Rattle.typed_tree.specs.declared.rule.TheConstants.{CANNOT_SLICE, BAD_INDEX, INDEX_OUT_OF_RANGE, INDEXES_OUT_OF_ORDER}
use Rattle.primary_rules.specs.Indexing.{is_index, constant_length}
use Rattle.primary_rules.specs.Operands.{Operand, operand_at, need_operand, is_variable, standing}
use Rattle.primary_rules.specs.Shapes.{Shape, Texts, Slices, Arrays, Maps, Pointers, Channels, Interfaces, Others, shape_of}

-- ---- what is written between the brackets

pub record Bounds (X : Type 0) : Type 0 where
  pub low : Option X
  pub high : Option X
  pub max : Option X

abbrev pub bounds : {X : Type 0} → Option X → Option X → Option X → Bounds X
bounds low high max = record { low = low; high = high; max = max }

abbrev pub bound_part : List Part → Option ℕ → Option Part
bound_part ps slot = option_map (part_at ps) slot

abbrev pub bound_parts : List Part → Slots → Bounds Part
bound_parts ps slots = bounds (bound_part ps slots.low) (bound_part ps slots.high) (bound_part ps slots.max)

abbrev pub good_bound : Option Operand → Option (Option Operand)
good_bound None = None
good_bound (Some x) = Some (Some x)

-- a bound that is left out, or the operand that it is, where it is good
abbrev pub bound_at : Option Part → Option (Option Operand)
bound_at None = Some None
bound_at (Some p) = good_bound (operand_at p)

-- what a rule makes of it; nothing is said where it isn't good
abbrev pub need_bound : Option (Option Operand) → (Option Operand → Rule) → Rule
need_bound None rest = done Quiet
need_bound (Some b) rest = rest b

-- ---- E42, E43, E45

abbrev pub is_index_if : Option Operand → Bool
is_index_if b = option_map_or is_index b true

unfoldable pub are_indexes : Bounds Operand → Bool
are_indexes b = is_index_if b.low && (is_index_if b.high && is_index_if b.max)

-- a constant isn't negative, and at most the length, where that is known
abbrev pub is_at_most : ℤ → Option ℕ → Bool
is_at_most z size = option_map_or (λ many. int_le z (pos many)) size true

abbrev pub lies_within : Option ℕ → Const → Bool
lies_within size (const.Int z) = int_le (pos 0) z && is_at_most z size
lies_within size (const.Truth b) = true
lies_within size (const.Text text) = true

abbrev pub value_of : Option Operand → Option Const
value_of None = None
value_of (Some x) = x.value

abbrev pub is_within_if : Option ℕ → Option Operand → Bool
is_within_if size b = option_map_or (lies_within size) (value_of b) true

unfoldable pub are_within : Option ℕ → Bounds Operand → Bool
are_within size b = is_within_if size b.low && (is_within_if size b.high && is_within_if size b.max)

abbrev pub at_most : Const → Const → Bool
at_most (const.Int a) (const.Int b) = int_le a b
at_most (const.Int a) (const.Truth b) = true
at_most (const.Int a) (const.Text text) = true
at_most (const.Truth a) other = true
at_most (const.Text a) other = true

abbrev pub is_ordered_with : Option Const → Const → Bool
is_ordered_with other c = option_map_or (at_most c) other true

-- the one isn't greater than the other, where both are constants
unfoldable pub are_ordered : Option Operand → Option Operand → Bool
are_ordered a b = option_map_or (is_ordered_with (value_of b)) (value_of a) true

unfoldable pub are_in_order : Bounds Operand → Bool
are_in_order b = are_ordered b.low b.high && (are_ordered b.low b.max && are_ordered b.high b.max)

-- ---- what is sliced

-- the length, where it is known, and what the expression gives
pub record Sliced : Type 0 where
  pub size : Option ℕ
  pub gives : Meaning

abbrev pub sliced : Option ℕ → Meaning → Sliced
sliced size gives = record { size = size; gives = gives }

unfoldable pub bounded : Sliced → Bounds Operand → Rule
bounded x b = test (are_indexes b) BAD_INDEX (test (are_within x.size b) INDEX_OUT_OF_RANGE (test (are_in_order b) INDEXES_OUT_OF_ORDER (done x.gives)))

abbrev pub with_max : Sliced → Option Operand → Option Operand → Option Operand → Rule
with_max x low high max = bounded x (bounds low high max)

abbrev pub with_high : Sliced → Bounds Part → Option Operand → Option Operand → Rule
with_high x ps low high = need_bound (bound_at ps.max) (with_max x low high)

abbrev pub with_low : Sliced → Bounds Part → Option Operand → Rule
with_low x ps low = need_bound (bound_at ps.high) (with_high x ps low)

unfoldable pub slice_bounds : Bounds Part → Sliced → Rule
slice_bounds ps x = need_bound (bound_at ps.low) (with_low x ps)

-- an array gives a slice of its elements
abbrev pub slice_of : ℕ → GoType → Sliced
slice_of size of = sliced (Some size) (typed mode.Value (SliceOf of))

-- a pointer to an array: `a[low:high]` is shorthand for `(*a)[low:high]`
abbrev pub pointed_slice : Bounds Part → Shape → Rule
pointed_slice ps (Arrays size of) = slice_bounds ps (slice_of size of)
pointed_slice ps Texts = done (Wrong CANNOT_SLICE)
pointed_slice ps (Slices of) = done (Wrong CANNOT_SLICE)
pointed_slice ps (Maps key of) = done (Wrong CANNOT_SLICE)
pointed_slice ps (Pointers of) = done (Wrong CANNOT_SLICE)
pointed_slice ps (Channels direction of) = done (Wrong CANNOT_SLICE)
pointed_slice ps Interfaces = done (Wrong CANNOT_SLICE)
pointed_slice ps Others = done (Wrong CANNOT_SLICE)

unfoldable pub slice_pointed : Bounds Part → Option GoType → Rule
slice_pointed ps None = done Quiet
slice_pointed ps (Some under) = pointed_slice ps (shape_of under)

-- a string has no capacity
abbrev pub has_max : {X : Type 0} → Option X → Bool
has_max None = false
has_max (Some x) = true

abbrev pub slice_text : Bounds Part → Operand → Rule
slice_text ps x = if has_max ps.max then done (Wrong CANNOT_SLICE) else slice_bounds ps (sliced (constant_length x.value) (standing mode.Value x.last))

-- an array has to have an address
abbrev pub slice_array : Bounds Part → Operand → ℕ → GoType → Rule
slice_array ps x size of = test (is_variable x.mode) CANNOT_SLICE (slice_bounds ps (slice_of size of))

-- E44. A slice gives a slice of its type, a string a string of its type, an untyped one a string.
unfoldable pub slice_shape : Unit → Bounds Part → Operand → Shape → Rule
slice_shape u ps x Texts = slice_text ps x
slice_shape u ps x (Slices of) = slice_bounds ps (sliced None (standing mode.Value x.last))
slice_shape u ps x (Arrays size of) = slice_array ps x size of
slice_shape u ps x (Maps key of) = done (Wrong CANNOT_SLICE)
slice_shape u ps x (Pointers of) = bind (under_ask u of) (slice_pointed ps)
slice_shape u ps x (Channels direction of) = done (Wrong CANNOT_SLICE)
slice_shape u ps x Interfaces = done (Wrong CANNOT_SLICE)
slice_shape u ps x Others = done (Wrong CANNOT_SLICE)

abbrev pub slice_by : Unit → Bounds Part → Operand → Rule
slice_by u ps x = slice_shape u ps x (shape_of x.under)

unfoldable pub slice_rule : Unit → Part → Bounds Part → Rule
slice_rule u a ps = need_operand (operand_at a) (slice_by u ps)
