-- The Go specification's own examples, as theorems about the definitions.
use Rattle.std.proofs.Common.{◌≡◌, ℕ, zero, suc, ◌+◌, ◌-◌, ◌^◌, ◌<◌, List, [], ◌∷◌, length, refl, ap, arith}
use Rattle.std.specs.Char.{encode_utf8}
use Rattle.std.specs.Prelude.{ℤ, pos, negsuc, neg_ℤ, ◌+ℤ◌, ◌*ℤ◌, ◌≤ℤ◌, int_div, int_rem, unsigned_abs, Bool, true, false, ◌&&◌, Option, Some, None, codes, bytes_eq}
use Rattle.std.specs.Cmp.Lexicographic.{slice_cmp}
use Rattle.std.specs.Ordering.{nat_cmp, is_lt}
use Rattle.std.proofs.lemmas.Int.{quot-rem, rem_below, ints}
use Rattle.std.specs.Int.{bit_at}
use Rattle.std.proofs.lemmas.Nat.Bits.{bit_at_above, same_from_bits, bit_at-lt}
use Rattle.std.proofs.lemmas.Nat.{pow_below}
use Rattle.gv_base.specs.Fits.{Fits}
use Rattle.gv_base.specs.declared.constant.Const.{Const}
use Rattle.gv_base.specs.declared.constant.Const.TheVariants.{Truth, Text, Int as Integer}
use Rattle.gv_base.specs.declared.constant.Kind.TheVariants.{Int as IntKind, Int8, Uint, Uint8, Text as TextKind, UntypedInt}
use Rattle.const_eval.specs.Bits.{digit}
use Rattle.const_eval.specs.Operators.{marks}
use Rattle.const_eval.specs.Meaning.{unary_of, binary_of, convert_of}
use Rattle.const_eval.specs.declared.answer.ConstAnswer.{ConstAnswer}
use Rattle.const_eval.specs.declared.answer.ConstAnswer.TheVariants.{Value, ZeroDivisor, BadOperands}
use Rattle.const_eval.specs.declared.operator.Operator.{Operator}
use Rattle.const_eval.specs.declared.operator.Operator.TheVariants.{Not, NotEqual, Remainder, And, AndAlso, AndNot, Multiply, Add, Subtract, Divide, Less, ShiftLeft, LessEqual, Equal, Greater, GreaterEqual, ShiftRight, Xor, Or, OrElse}

-- ---- "Operators and punctuation": the marks, in byte order

abbrev spellings : List (List ℕ)
spellings =
    codes "!" ∷ codes "!=" ∷ codes "%" ∷ codes "%=" ∷ codes "&" ∷ codes "&&" ∷ codes "&=" ∷ codes "&^" ∷ codes "&^="
    ∷ codes "(" ∷ codes ")" ∷ codes "*" ∷ codes "*=" ∷ codes "+" ∷ codes "++" ∷ codes "+=" ∷ codes "," ∷ codes "-"
    ∷ codes "--" ∷ codes "-=" ∷ codes "." ∷ codes "..." ∷ codes "/" ∷ codes "/=" ∷ codes ":" ∷ codes ":=" ∷ codes ";"
    ∷ codes "<" ∷ codes "<-" ∷ codes "<<" ∷ codes "<<=" ∷ codes "<=" ∷ codes "=" ∷ codes "==" ∷ codes ">" ∷ codes ">="
    ∷ codes ">>" ∷ codes ">>=" ∷ codes "[" ∷ codes "]" ∷ codes "^" ∷ codes "^=" ∷ codes "{" ∷ codes "|" ∷ codes "|="
    ∷ codes "||" ∷ codes "}" ∷ []

abbrev spelling : Operator → List ℕ
spelling Not = codes "!"
spelling NotEqual = codes "!="
spelling Remainder = codes "%"
spelling And = codes "&"
spelling AndAlso = codes "&&"
spelling AndNot = codes "&^"
spelling Multiply = codes "*"
spelling Add = codes "+"
spelling Subtract = codes "-"
spelling Divide = codes "/"
spelling Less = codes "<"
spelling ShiftLeft = codes "<<"
spelling LessEqual = codes "<="
spelling Equal = codes "=="
spelling Greater = codes ">"
spelling GreaterEqual = codes ">="
spelling ShiftRight = codes ">>"
spelling Xor = codes "^"
spelling Or = codes "|"
spelling OrElse = codes "||"

-- each mark stands before the next
abbrev is_ascending : List (List ℕ) → Bool
is_ascending [] = true
is_ascending (s ∷ []) = true
is_ascending (s ∷ t ∷ rest) = is_lt (slice_cmp nat_cmp s t) && is_ascending (t ∷ rest)

-- each operator stands at its spelling
abbrev is_spelled : List (List ℕ) → List (Option Operator) → Bool
is_spelled [] [] = true
is_spelled [] (o ∷ os) = false
is_spelled (s ∷ ss) [] = false
is_spelled (s ∷ ss) (None ∷ os) = is_spelled ss os
is_spelled (s ∷ ss) (Some o ∷ os) = bytes_eq s (spelling o) && is_spelled ss os

abbrev count_operators : List (Option Operator) → ℕ
count_operators [] = 0
count_operators (None ∷ os) = count_operators os
count_operators (Some o ∷ os) = suc (count_operators os)

marks_are_47 : length spellings ≡ 47
marks_are_47 = refl

marks_are_in_byte_order : is_ascending spellings ≡ true
marks_are_in_byte_order = refl

each_operator_is_at_its_mark : is_spelled spellings marks ≡ true
each_operator_is_at_its_mark = refl

-- and so no mark without an operator spells one
operators_are_20 : count_operators marks ≡ 20
operators_are_20 = refl

-- ---- "Arithmetic operators": the tables of quotients, remainders and shifts

abbrev int : ℤ → Const
int z = Integer z

abbrev by : Operator → ℤ → ℤ → ConstAnswer
by Divide x y = binary_of 22 (int x) (int y)
by Remainder x y = binary_of 2 (int x) (int y)
by ShiftRight x y = binary_of 36 (int x) (int y)
by ShiftLeft x y = binary_of 29 (int x) (int y)
by And x y = binary_of 4 (int x) (int y)
by Multiply x y = binary_of 11 (int x) (int y)
by o x y = BadOperands

quotients : (by Divide (pos 5) (pos 3) ≡ Value (int (pos 1))) × (by Divide (neg_ℤ (pos 5)) (pos 3) ≡ Value (int (neg_ℤ (pos 1)))) × (by Divide (pos 5) (neg_ℤ (pos 3)) ≡ Value (int (neg_ℤ (pos 1)))) × (by Divide (neg_ℤ (pos 5)) (neg_ℤ (pos 3)) ≡ Value (int (pos 1)))
quotients = (refl, refl, refl, refl)

remainders : (by Remainder (pos 5) (pos 3) ≡ Value (int (pos 2))) × (by Remainder (neg_ℤ (pos 5)) (pos 3) ≡ Value (int (neg_ℤ (pos 2)))) × (by Remainder (pos 5) (neg_ℤ (pos 3)) ≡ Value (int (pos 2))) × (by Remainder (neg_ℤ (pos 5)) (neg_ℤ (pos 3)) ≡ Value (int (neg_ℤ (pos 2))))
remainders = (refl, refl, refl, refl)

-- "If the divisor is a constant power of 2": 11 and -11 by 4
by_four : (by Divide (pos 11) (pos 4) ≡ Value (int (pos 2))) × (by Remainder (pos 11) (pos 4) ≡ Value (int (pos 3))) × (by ShiftRight (pos 11) (pos 2) ≡ Value (int (pos 2))) × (by And (pos 11) (pos 3) ≡ Value (int (pos 3)))
by_four = (refl, refl, refl, refl)

minus_by_four : (by Divide (neg_ℤ (pos 11)) (pos 4) ≡ Value (int (neg_ℤ (pos 2)))) × (by Remainder (neg_ℤ (pos 11)) (pos 4) ≡ Value (int (neg_ℤ (pos 3)))) × (by ShiftRight (neg_ℤ (pos 11)) (pos 2) ≡ Value (int (neg_ℤ (pos 3)))) × (by And (neg_ℤ (pos 11)) (pos 3) ≡ Value (int (pos 1)))
minus_by_four = (refl, refl, refl, refl)

-- "x = q*y + r and |r| < |y|", "truncated toward zero": the remainder has the sign of x
division : (x y : ℤ) → 0 < unsigned_abs y → (int_div x y *ℤ y +ℤ int_rem x y ≡ x) × (unsigned_abs (int_rem x y) < unsigned_abs y)
division x y h = (quot-rem x y, rem_below x y h)

remainder_of_a_natural : (n : ℕ) (y : ℤ) → pos 0 ≤ℤ int_rem (pos n) y
remainder_of_a_natural n y = omega (arith, ints)

-- ---- "Integer operators": an integer is what its binary digits are

below_power : (n : ℕ) → n < 2 ^ n
below_power zero = omega arith
below_power (suc n) =
    let h : n < 2 ^ n = below_power n in
    let k : 2 ^ n < 2 ^ suc n = pow_below n (suc n) (omega arith) in
    omega arith

apart : (m n : ℕ) → bit_at m (m + n) ≡ 1 - bit_at n (m + n) → ⊥
apart m n e =
    let a : bit_at m (m + n) ≡ 0 = bit_at_above m m (m + n) (below_power m) (omega arith) in
    let b : bit_at n (m + n) ≡ 0 = bit_at_above n n (m + n) (below_power n) (omega arith) in
    absurd (omega arith)

same_from_digits : (x y : ℤ) → ((i : ℕ) → digit x i ≡ digit y i) → x ≡ y
same_from_digits (pos m) (pos n) e = ap pos (same_from_bits m n e)
same_from_digits (pos m) (negsuc n) e = absurd (apart m n (e (m + n)))
same_from_digits (negsuc m) (pos n) e = absurd (apart n m (omega (arith, e (n + m))))
same_from_digits (negsuc m) (negsuc n) e =
    ap negsuc (same_from_bits m n (λ i. omega (arith, e i, bit_at-lt m i, bit_at-lt n i)))

-- ---- "Constant expressions"

-- const b = 15 / 4          // b == 3
fifteen_by_four : by Divide (pos 15) (pos 4) ≡ Value (int (pos 3))
fifteen_by_four = refl

-- const Huge = 1 << 100, const Four int8 = Huge >> 98
huge : by ShiftLeft (pos 1) (pos 100) ≡ Value (int (pos (2 ^ 100)))
huge = refl

four : by ShiftRight (pos (2 ^ 100)) (pos 98) ≡ Value (int (pos 4))
four = refl

-- 3.14 / 0.0 and its like: the divisor of a constant division must not be zero
by_zero : by Divide (pos 3) (pos 0) ≡ ZeroDivisor
by_zero = refl

-- uint(-1), int(Huge) and Four * 300 are not representable
negative_uint : convert_of (int (neg_ℤ (pos 1))) Uint ≡ BadOperands
negative_uint = refl

huge_int : convert_of (int (pos (2 ^ 100))) IntKind ≡ BadOperands
huge_int = refl

four_times_300 : ¬ Fits (int (pos 1200)) Int8
four_times_300 h = absurd (omega (arith, ints, h.1))

-- ^1 == -2, ^uint8(1) == 0xFE, ^int8(1) == -2, and uint8(^1) is illegal
complement_untyped : unary_of 40 (int (pos 1)) UntypedInt ≡ Value (int (neg_ℤ (pos 2)))
complement_untyped = refl

complement_uint8 : unary_of 40 (int (pos 1)) Uint8 ≡ Value (int (pos 0xFE))
complement_uint8 = refl

complement_int8 : unary_of 40 (int (pos 1)) Int8 ≡ Value (int (neg_ℤ (pos 2)))
complement_int8 = refl

uint8_of_complement : convert_of (int (neg_ℤ (pos 2))) Uint8 ≡ BadOperands
uint8_of_complement = refl

-- const h = "foo" > "bar"   // h == true
foo_is_after_bar : binary_of 34 (Text (codes "foo")) (Text (codes "bar")) ≡ Value (Truth true)
foo_is_after_bar = refl

-- ---- "Conversions": to and from a string type

string_of_a : convert_of (int (pos 97)) TextKind ≡ Value (Text (codes "a"))
unfolding encode_utf8
string_of_a = refl

-- string(-1) == "\ufffd" == "\xef\xbf\xbd", string(0xf8) == "\u00f8" == "\xc3\xb8"
string_of_minus_one : convert_of (int (neg_ℤ (pos 1))) TextKind ≡ Value (Text (0xEF ∷ 0xBF ∷ 0xBD ∷ []))
unfolding encode_utf8
string_of_minus_one = refl

string_of_f8 : convert_of (int (pos 0xF8)) TextKind ≡ Value (Text (0xC3 ∷ 0xB8 ∷ []))
unfolding encode_utf8
string_of_f8 = refl

-- string(0x65e5) == "\xe6\x97\xa5"
string_of_65e5 : convert_of (int (pos 0x65E5)) TextKind ≡ Value (Text (0xE6 ∷ 0x97 ∷ 0xA5 ∷ []))
unfolding encode_utf8
string_of_65e5 = refl
