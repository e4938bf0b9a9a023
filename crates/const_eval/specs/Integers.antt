-- The operators on integers: Go 1.17, "Arithmetic operators" and "Comparison operators".
use Rattle.std.specs.Prelude.{◌^◌, ℤ, pos, negsuc, ◌+ℤ◌, ◌-ℤ◌, ◌*ℤ◌, neg_ℤ, int_lt, int_le, int_div, int_rem, not}
use Rattle.std.specs.Ordering.{int_eq}
use Rattle.std.specs.Int.{int_shr}
use Rattle.gv_base.specs.Fits.{Values, Truths, Integers, Texts, NoConstants}
use Rattle.const_eval.specs.Answers.{whole, divided_by, truth}
use Rattle.const_eval.specs.Bits.{and_of, or_of, xor_of, and_not_of}
use Rattle.const_eval.specs.declared.answer.ConstAnswer.{ConstAnswer}
use Rattle.const_eval.specs.declared.answer.ConstAnswer.TheVariants.{BadOperands}
use Rattle.const_eval.specs.declared.operator.Operator.{Operator}
use Rattle.const_eval.specs.declared.operator.Operator.TheVariants.{Not, NotEqual, Remainder, And, AndAlso, AndNot, Multiply, Add, Subtract, Divide, Less, ShiftLeft, LessEqual, Equal, Greater, GreaterEqual, ShiftRight, Xor, Or, OrElse}

-- x times two to the count
abbrev pub shift_left : ℤ → ℤ → ConstAnswer
shift_left x (pos count) = whole (x *ℤ pos (2 ^ count))
shift_left x (negsuc n) = BadOperands

-- x by two to the count, rounded down
abbrev pub shift_right : ℤ → ℤ → ConstAnswer
shift_right x (pos count) = whole (int_shr x count)
shift_right x (negsuc n) = BadOperands

-- `int_div` rounds toward zero, and `int_rem` has the sign of x
abbrev pub on_integers : Operator → ℤ → ℤ → ConstAnswer
on_integers Add x y = whole (x +ℤ y)
on_integers Subtract x y = whole (x -ℤ y)
on_integers Multiply x y = whole (x *ℤ y)
on_integers Divide x y = divided_by y (int_div x y)
on_integers Remainder x y = divided_by y (int_rem x y)
on_integers And x y = whole (and_of x y)
on_integers Or x y = whole (or_of x y)
on_integers Xor x y = whole (xor_of x y)
on_integers AndNot x y = whole (and_not_of x y)
on_integers ShiftLeft x y = shift_left x y
on_integers ShiftRight x y = shift_right x y
on_integers Equal x y = truth (int_eq x y)
on_integers NotEqual x y = truth (not (int_eq x y))
on_integers Less x y = truth (int_lt x y)
on_integers LessEqual x y = truth (int_le x y)
on_integers Greater x y = truth (int_lt y x)
on_integers GreaterEqual x y = truth (int_le y x)
on_integers Not x y = BadOperands
on_integers AndAlso x y = BadOperands
on_integers OrElse x y = BadOperands

-- all ones: the greatest value of an unsigned kind, and -1 for any other
abbrev pub ones_of : Values → ℤ
ones_of Truths = negsuc 0
ones_of (Integers (pos first) last) = last
ones_of (Integers (negsuc first) last) = negsuc 0
ones_of Texts = negsuc 0
ones_of NoConstants = negsuc 0

-- the unary operators, at a kind whose ones are these
abbrev pub on_integer : Operator → ℤ → ℤ → ConstAnswer
on_integer Add ones x = whole x
on_integer Subtract ones x = whole (neg_ℤ x)
on_integer Xor ones x = whole (xor_of ones x)
on_integer operator ones x = BadOperands
