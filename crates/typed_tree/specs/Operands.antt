-- Basic types, and the operators that they have (Go 1.17, "Constants", "Representability", "Operators", "Arithmetic operators",
-- "Comparison operators", "Logical operators").
use Rattle.std.specs.Prelude.{pos, Bool, true, false, not, ◌||◌, Some, int_le}
use Rattle.gv_base.specs.declared.constant.Const.{Const}
use Rattle.gv_base.specs.declared.constant.Const.TheVariants as const
use Rattle.gv_base.specs.declared.constant.Kind.{Kind}
use Rattle.gv_base.specs.declared.constant.Kind.TheVariants as k
use Rattle.gv_base.specs.Fits.{values_of}
use Rattle.const_eval.specs.declared.operator.Operator.{Operator}
use Rattle.const_eval.specs.declared.operator.Operator.TheVariants as op
use Rattle.const_eval.specs.Meaning.{is_among}
use Rattle.type_model.specs.GoTypes.{BasicType}
use Rattle.type_rel.specs.Kinds.{is_integer}
use Rattle.typed_tree.specs.declared.mark.Mode.TheVariants as mode
use Rattle.typed_tree.specs.Meanings.{Meaning, Right}

-- ---- kinds

abbrev pub is_text : Kind → Bool
is_text k.Text = true
is_text k.UntypedText = true
is_text _ = false

abbrev pub is_boolean : Kind → Bool
is_boolean k.Bool = true
is_boolean k.UntypedBool = true
is_boolean _ = false

abbrev pub is_nil : Kind → Bool
is_nil k.UntypedNil = true
is_nil _ = false

abbrev pub is_rune : Kind → Bool
is_rune k.UntypedRune = true
is_rune _ = false

-- the constant is representable by a value of the kind
abbrev pub fits_in : Const → Kind → Bool
fits_in c kind = is_among c (values_of kind)

-- a constant of the kind
abbrev pub constant_mark : Kind → Const → Meaning
constant_mark kind c = Right (record { mode = mode.Constant; of = BasicType kind; value = Some c })

-- ---- operators

abbrev pub is_comparison : Operator → Bool
is_comparison op.Equal = true
is_comparison op.NotEqual = true
is_comparison op.Less = true
is_comparison op.LessEqual = true
is_comparison op.Greater = true
is_comparison op.GreaterEqual = true
is_comparison _ = false

abbrev pub is_shift : Operator → Bool
is_shift op.ShiftLeft = true
is_shift op.ShiftRight = true
is_shift _ = false

-- E34: the operators that two operands of a kind have; `==` and `!=` are E35's
abbrev pub takes : Operator → Kind → Bool
takes op.Equal kind = true
takes op.NotEqual kind = true
takes op.Less kind = is_integer kind || is_text kind
takes op.LessEqual kind = is_integer kind || is_text kind
takes op.Greater kind = is_integer kind || is_text kind
takes op.GreaterEqual kind = is_integer kind || is_text kind
takes op.Add kind = is_integer kind || is_text kind
takes op.AndAlso kind = is_boolean kind
takes op.OrElse kind = is_boolean kind
takes op.Not kind = false
takes _ kind = is_integer kind

-- E34: the operators that one operand of a kind has
abbrev pub takes_alone : Operator → Kind → Bool
takes_alone op.Add kind = is_integer kind
takes_alone op.Subtract kind = is_integer kind
takes_alone op.Xor kind = is_integer kind
takes_alone op.Not kind = is_boolean kind
takes_alone _ kind = false

-- E35: two operands of a kind are compared by `==` and `!=`, but not nil with nil
abbrev pub is_comparable : Operator → Kind → Bool
is_comparable op.Equal kind = not (is_nil kind)
is_comparable op.NotEqual kind = not (is_nil kind)
is_comparable _ kind = true

-- E36: an untyped count is representable by uint; a typed one is an integer that isn't negative
abbrev pub is_natural : Const → Bool
is_natural (const.Int z) = int_le (pos 0) z
is_natural _ = false
