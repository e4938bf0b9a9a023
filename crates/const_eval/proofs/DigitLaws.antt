-- The operators on bits go digit by digit.
use Rattle.std.proofs.Common.{◌≡◌, ℕ, ◌+◌, ◌-◌, ◌*◌, ◌%◌, ◌<◌, ◌≤◌, min, ap, sym, ◌∙◌, arith}
use Rattle.std.specs.Prelude.{ℤ, pos, negsuc, bit_and, bit_xor}
use Rattle.std.specs.Int.{bit_at}
use Rattle.std.specs.Int.Bits.{and_self, and_le_l, xor_add_and}
use Rattle.std.proofs.lemmas.Nat.{and_assoc}
use Rattle.std.proofs.lemmas.Nat.Bits.{bit_at_and, bit_at_or, bit_at_xor, bit_at-lt}
use Rattle.const_eval.specs.Bits.{and_of, or_of, xor_of, AndsDigits, OrsDigits, XorsDigits}

-- what m has beyond n is where m differs from what they share
beyond_is : (m n : ℕ) → m - bit_and m n ≡ bit_xor m (bit_and m n)
beyond_is m n =
    let a : bit_and (bit_and m m) n ≡ bit_and m (bit_and m n) = and_assoc n m m in
    let b : bit_and m m ≡ m = and_self m in
    let c : bit_and m (bit_and m n) ≡ bit_and m n = sym a ∙ ap (λ k. bit_and k n) b in
    let d : bit_xor m (bit_and m n) + bit_and m (bit_and m n) * 2 ≡ m + bit_and m n = xor_add_and m (bit_and m n) in
    let e : bit_and m n ≤ m = and_le_l m n in
    omega arith

beyond_digit : (m n i : ℕ) → bit_at (m - bit_and m n) i ≡ min (bit_at m i) (1 - bit_at n i)
beyond_digit m n i =
    let a : bit_at (m - bit_and m n) i ≡ bit_at (bit_xor m (bit_and m n)) i = ap (λ k. bit_at k i) (beyond_is m n) in
    let b : bit_at (bit_xor m (bit_and m n)) i ≡ (bit_at m i + bit_at (bit_and m n) i) % 2 = bit_at_xor m (bit_and m n) i in
    let c : bit_at (bit_and m n) i ≡ min (bit_at m i) (bit_at n i) = bit_at_and m n i in
    let d : bit_at m i < 2 = bit_at-lt m i in
    let e : bit_at n i < 2 = bit_at-lt n i in
    omega arith

pub and_digits : (x y : ℤ) → AndsDigits x y (and_of x y)
and_digits (pos m) (pos n) i = bit_at_and m n i
and_digits (pos m) (negsuc n) i = beyond_digit m n i
and_digits (negsuc m) (pos n) i = omega (arith, beyond_digit n m i)
and_digits (negsuc m) (negsuc n) i = omega (arith, bit_at_or m n i, bit_at-lt m i, bit_at-lt n i)

pub or_digits : (x y : ℤ) → OrsDigits x y (or_of x y)
or_digits (pos m) (pos n) i = bit_at_or m n i
or_digits (pos m) (negsuc n) i = omega (arith, beyond_digit n m i, bit_at-lt m i, bit_at-lt n i)
or_digits (negsuc m) (pos n) i = omega (arith, beyond_digit m n i, bit_at-lt m i, bit_at-lt n i)
or_digits (negsuc m) (negsuc n) i = omega (arith, bit_at_and m n i, bit_at-lt m i, bit_at-lt n i)

pub xor_digits : (x y : ℤ) → XorsDigits x y (xor_of x y)
xor_digits (pos m) (pos n) i = bit_at_xor m n i
xor_digits (pos m) (negsuc n) i = omega (arith, bit_at_xor m n i, bit_at-lt m i, bit_at-lt n i)
xor_digits (negsuc m) (pos n) i = omega (arith, bit_at_xor m n i, bit_at-lt m i, bit_at-lt n i)
xor_digits (negsuc m) (negsuc n) i = omega (arith, bit_at_xor m n i, bit_at-lt m i, bit_at-lt n i)
