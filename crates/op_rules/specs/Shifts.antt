-- Shifts (Go 1.17, "Operators", "Constant expressions").
use Rattle.std.specs.Prelude.{Bool, ◌&&◌, if◌then◌else◌, Option, Some, None}
use Rattle.gv_base.specs.declared.constant.Const.{Const}
use Rattle.gv_base.specs.declared.constant.Kind.TheVariants as k
use Rattle.const_eval.specs.declared.operator.Operator.{Operator}
use Rattle.const_eval.specs.Meaning.{on_operands}
use Rattle.mark_walk.specs.Asks.{done}
use Rattle.type_model.specs.GoTypes.{GoType, BasicType}
use Rattle.type_rel.specs.Kinds.{is_untyped, is_integer}
use Rattle.typed_tree.specs.declared.rule.TheConstants.{BAD_SHIFT_COUNT, SHIFTED_OPERAND_IS_NOT_AN_INTEGER}
use Rattle.typed_tree.specs.Operands.{fits_in, is_natural}
use Rattle.typed_marks.specs.Meanings.{Wish, Meaning}
use Rattle.rule_words.specs.Asking.{Rule}
use Rattle.rule_words.specs.Parts.{Part}
use Rattle.rule_words.specs.Types.{is_of}
use Rattle.op_rules.specs.Operands.{Operand, operand_at, need_operand, tested, folded, computed}

-- an untyped constant count is representable by uint, and a typed one isn't negative
abbrev pub counts_by : GoType → Const → Bool
counts_by of c = if is_of is_untyped of then fits_in c k.Uint else is_natural c

-- another count has an integer type
abbrev pub is_count : GoType → Option Const → GoType → Bool
is_count of None under = is_of is_integer under
is_count of (Some c) under = counts_by of c

-- a constant shift of an untyped operand gives an untyped integer
abbrev pub shifted_type : GoType → GoType
shifted_type of = if is_of is_untyped of then BasicType k.UntypedInt else of

-- A shift is a constant where both operands are. Else an untyped operand keeps its type, and has a final one by its place.
abbrev pub shift_beside : Operator → Operand → Wish → Const → Option Const → Meaning
shift_beside op x wish c None = computed x.of wish
shift_beside op x wish c (Some d) = folded (shifted_type x.at) (shifted_type x.of) wish (on_operands op c d)

abbrev pub shift_valued : Operator → Operand → Wish → Option Const → Option Const → Meaning
shift_valued op x wish None d = computed x.of wish
shift_valued op x wish (Some c) d = shift_beside op x wish c d

-- E37: the operand is an integer, and so is its final type
unfoldable pub is_shiftable : Operand → Bool
is_shiftable x = is_of is_integer x.at && is_of is_integer x.under

-- E36, then E37
abbrev pub shift_mark : Operator → Operand → Operand → Wish → Meaning
shift_mark op x count wish =
    tested (is_count count.of count.value count.under) BAD_SHIFT_COUNT
    (tested (is_shiftable x) SHIFTED_OPERAND_IS_NOT_AN_INTEGER (shift_valued op x wish x.value count.value))

abbrev pub shift_by : Operator → Part → Wish → Operand → Rule
shift_by op b wish x = need_operand (operand_at b) (λ count. done (shift_mark op x count wish))

unfoldable pub shift_of_parts : Operator → Part → Part → Wish → Rule
shift_of_parts op a b wish = need_operand (operand_at a) (shift_by op b wish)
