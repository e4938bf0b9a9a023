-- The values of constant expressions: Go 1.17, "Constant expressions", "Operators" and "Conversions".
use Rattle.std.specs.Prelude.{ℕ, ℤ, pos, negsuc, cond, ◌&&◌, ◌||◌, nat_lt, nat_le, Bool, true, false, int_le, Option, Some, None, encode_utf8}
use Rattle.gv_base.specs.Kinds.{is_texts}
use Rattle.gv_base.specs.Fits.{Values, Truths, Integers, Texts, NoConstants, values_of}
use Rattle.gv_base.specs.declared.constant.Const.{Const}
use Rattle.gv_base.specs.declared.constant.Const.TheVariants.{Truth, Text, Int as Integer}
use Rattle.gv_base.specs.declared.constant.Kind.{Kind}
use Rattle.const_eval.specs.Integers.{on_integer, on_integers, ones_of}
use Rattle.const_eval.specs.Operators.{operator_of}
use Rattle.const_eval.specs.Texts.{on_texts}
use Rattle.const_eval.specs.Truths.{on_truth, on_truths}
use Rattle.const_eval.specs.declared.answer.ConstAnswer.{ConstAnswer}
use Rattle.const_eval.specs.declared.answer.ConstAnswer.TheVariants.{Value, BadOperands}
use Rattle.const_eval.specs.declared.operator.Operator.{Operator}

abbrev pub on_operand : Operator → ℤ → Const → ConstAnswer
on_operand operator ones (Truth p) = on_truth operator p
on_operand operator ones (Integer x) = on_integer operator ones x
on_operand operator ones (Text s) = BadOperands

abbrev pub apply_to_one : Option Operator → ℤ → Const → ConstAnswer
apply_to_one None ones x = BadOperands
apply_to_one (Some operator) ones x = on_operand operator ones x

-- the value of the unary operator with this mark at an operand of this kind
abbrev pub unary_of : ℕ → Const → Kind → ConstAnswer
unary_of mark x k = apply_to_one (operator_of mark) (ones_of (values_of k)) x

abbrev pub on_operands : Operator → Const → Const → ConstAnswer
on_operands operator (Truth p) (Truth q) = on_truths operator p q
on_operands operator (Integer x) (Integer y) = on_integers operator x y
on_operands operator (Text s) (Text t) = on_texts operator s t
on_operands operator x y = BadOperands

abbrev pub apply_to_two : Option Operator → Const → Const → ConstAnswer
apply_to_two None x y = BadOperands
apply_to_two (Some operator) x y = on_operands operator x y

-- the value of the binary operator with this mark
abbrev pub binary_of : ℕ → Const → Const → ConstAnswer
binary_of mark x y = apply_to_two (operator_of mark) x y

-- the number is that of a character: at most 10FFFF, and no surrogate half
abbrev pub is_character : ℕ → Bool
is_character n = nat_lt n 0xD800 || (nat_lt 0xDFFF n && nat_le n 0x10FFFF)

-- the character with this number, else U+FFFD
abbrev pub character_of : ℤ → ℕ
character_of (pos n) = cond (is_character n) n 0xFFFD
character_of (negsuc n) = 0xFFFD

-- the constant is one of the values
abbrev pub is_among : Const → Values → Bool
is_among (Truth p) Truths = true
is_among (Integer x) (Integers first last) = int_le first x && int_le x last
is_among (Text s) Texts = true
is_among x values = false

-- a constant stays as it is where it is one of the values
abbrev pub kept_among : Const → Values → ConstAnswer
kept_among x values = cond (is_among x values) (Value x) BadOperands

-- where texts are wanted, an integer becomes the text of one character
abbrev pub convert_among : Const → Values → ConstAnswer
convert_among (Integer x) Texts = Value (Text (encode_utf8 (character_of x)))
convert_among x values = kept_among x values

-- the value of a conversion to this kind
abbrev pub convert_of : Const → Kind → ConstAnswer
convert_of x k = convert_among x (values_of k)
