-- Index expressions (Go 1.17, "Index expressions"). The tests stand in the order E41, E42, E43.
use Rattle.std.specs.Prelude.{ℕ, ℤ, pos, int_le, Bool, true, not, ◌&&◌, ◌||◌, length, Option, Some, None}
use Rattle.std.specs.Option.{option_map_or}
use Rattle.gv_base.specs.declared.constant.Const.{Const}
use Rattle.gv_base.specs.declared.constant.Const.TheVariants as const
use Rattle.gv_base.specs.declared.constant.Kind.TheVariants as k
use Rattle.mark_walk.specs.Asks.{done, bind}
use Rattle.type_model.specs.GoTypes.{GoType, BasicType}
use Rattle.type_rel.specs.Kinds.{is_untyped, is_integer}
use Rattle.typed_tree.specs.Operands.{fits_in}
use Rattle.typed_tree.specs.declared.mark.Mode.{Mode}
use Rattle.typed_tree.specs.declared.mark.Mode.TheVariants as mode
use Rattle.typed_marks.specs.Meanings.{Wrong, Quiet}
use Rattle.unit_read.specs.Units.{Unit}
use Rattle.rule_words.specs.Asking.{Rule, under_ask}
use Rattle.rule_words.specs.Parts.{Part}
use Rattle.rule_words.specs.Words.{test}
use Rattle.rule_words.specs.Types.{counted, is_of}
use Rattle.typed_tree.specs.declared.rule.TheConstants.{CANNOT_INDEX, BAD_INDEX, INDEX_OUT_OF_RANGE}
use Rattle.primary_rules.specs.Operands.{Operand, operand_at, need_operand, is_variable, part_mode, standing}
use Rattle.primary_rules.specs.Shapes.{Shape, Texts, Slices, Arrays, Maps, Pointers, Channels, Interfaces, Others, shape_of}

-- ---- E42

-- "the index must be of integer type or an untyped constant; a constant index must be representable by a value of type int"
abbrev pub indexes_by : Operand → Option Const → Bool
indexes_by i None = is_of is_integer (counted i.of i.under)
indexes_by i (Some c) = (is_of is_untyped i.of || is_of is_integer i.under) && fits_in c k.Int

unfoldable pub is_index : Operand → Bool
is_index i = indexes_by i i.value

-- ---- E43

-- the length of a constant string
abbrev pub text_length : Const → Option ℕ
text_length (const.Text text) = Some (length text)
text_length (const.Int z) = None
text_length (const.Truth b) = None

abbrev pub constant_length : Option Const → Option ℕ
constant_length None = None
constant_length (Some c) = text_length c

-- a constant isn't negative, and below the length, where that is known
abbrev pub is_below : ℤ → Option ℕ → Bool
is_below z size = option_map_or (λ many. not (int_le (pos many) z)) size true

abbrev pub lies_below : Option ℕ → Const → Bool
lies_below size (const.Int z) = int_le (pos 0) z && is_below z size
lies_below size (const.Truth b) = true
lies_below size (const.Text text) = true

unfoldable pub is_in_range : Option ℕ → Option Const → Bool
is_in_range size value = option_map_or (lies_below size) value true

-- ---- elements

-- what is indexed by integers: the type of an element, what one stands for, and how many there are where that is known
pub record Elements : Type 0 where
  pub of : GoType
  pub mode : Mode
  pub size : Option ℕ

abbrev pub elements : GoType → Mode → Option ℕ → Elements
elements of mode size = record { of = of; mode = mode; size = size }

abbrev pub index_operand : Elements → Operand → Rule
index_operand e i = test (is_index i) BAD_INDEX (test (is_in_range e.size i.value) INDEX_OUT_OF_RANGE (done (standing e.mode e.of)))

unfoldable pub index_part : Part → Elements → Rule
index_part b e = need_operand (operand_at b) (index_operand e)

-- a pointer to an array: `a[x]` is shorthand for `(*a)[x]`
abbrev pub pointed_shape : Part → Shape → Rule
pointed_shape b (Arrays size of) = index_part b (elements of mode.Variable (Some size))
pointed_shape b Texts = done (Wrong CANNOT_INDEX)
pointed_shape b (Slices of) = done (Wrong CANNOT_INDEX)
pointed_shape b (Maps key of) = done (Wrong CANNOT_INDEX)
pointed_shape b (Pointers of) = done (Wrong CANNOT_INDEX)
pointed_shape b (Channels direction of) = done (Wrong CANNOT_INDEX)
pointed_shape b Interfaces = done (Wrong CANNOT_INDEX)
pointed_shape b Others = done (Wrong CANNOT_INDEX)

unfoldable pub index_pointed : Part → Option GoType → Rule
index_pointed b None = done Quiet
index_pointed b (Some under) = pointed_shape b (shape_of under)

-- E41. The key of a map is tested where it stands, and a bad one doesn't make the index bad.
unfoldable pub index_shape : Unit → Part → Operand → Shape → Rule
index_shape u b x Texts = index_part b (elements (BasicType k.Uint8) mode.Value (constant_length x.value))
index_shape u b x (Slices of) = index_part b (elements of mode.Variable None)
index_shape u b x (Arrays size of) = index_part b (elements of (part_mode (is_variable x.mode)) (Some size))
index_shape u b x (Maps key of) = done (standing mode.MapIndex of)
index_shape u b x (Pointers of) = bind (under_ask u of) (index_pointed b)
index_shape u b x (Channels direction of) = done (Wrong CANNOT_INDEX)
index_shape u b x Interfaces = done (Wrong CANNOT_INDEX)
index_shape u b x Others = done (Wrong CANNOT_INDEX)

abbrev pub index_by : Unit → Part → Operand → Rule
index_by u b x = index_shape u b x (shape_of x.under)

unfoldable pub index_rule : Unit → Part → Part → Rule
index_rule u a b = need_operand (operand_at a) (index_by u b)
