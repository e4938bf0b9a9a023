-- What the value of a constant expression may be.
use Rattle.std.specs.Prelude.{ℕ, ◌-◌, ◌^◌, List, length, nat_le, ℤ, pos, neg_ℤ, int_le, Bool, ◌&&◌, cond}
use Rattle.std.specs.Ordering.{int_eq}
use Rattle.gv_base.specs.declared.constant.Const.TheVariants.{Truth, Text, Int as Integer}
use Rattle.const_eval.specs.declared.answer.ConstAnswer.{ConstAnswer}
use Rattle.const_eval.specs.declared.answer.ConstAnswer.TheVariants.{Value, ZeroDivisor, Wide, LongText}

-- profile: integers of constants lie from -2^127 to 2^127 - 1
abbrev pub is_narrow : ℤ → Bool
is_narrow z = int_le (neg_ℤ (pos (2 ^ 127))) z && int_le z (pos (2 ^ 127 - 1))

abbrev pub whole : ℤ → ConstAnswer
whole z = cond (is_narrow z) (Value (Integer z)) Wide

-- the answer of a division by d
abbrev pub divided_by : ℤ → ℤ → ConstAnswer
divided_by d z = cond (int_eq d (pos 0)) ZeroDivisor (whole z)

abbrev pub truth : Bool → ConstAnswer
truth b = Value (Truth b)

-- profile: texts of constants have at most 65,536 bytes
abbrev pub text : List ℕ → ConstAnswer
text t = cond (nat_le (length t) 65536) (Value (Text t)) LongText
