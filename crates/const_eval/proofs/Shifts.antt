-- Shifts by 127 places and more.
use Rattle.std.proofs.Common.{◌≡◌, ℕ, zero, suc, ◌-◌, ◌*◌, ◌%◌, ◌^◌, ◌<◌, ◌≤◌, arith, refl, ap, ◌∙◌, sym, inl, inr}
use Rattle.std.specs.Prelude.{ℤ, pos, negsuc, ◌*ℤ◌, neg_ℤ, ◌≤ℤ◌, ◌⊎◌, ◌<ℤ◌, FitsSigned, unsigned_abs}
use Rattle.std.specs.Int.{w128, int_shr, cast_signed, cast_unsigned}
use Rattle.std.proofs.Math.Pow.{pow_mono}
use Rattle.std.proofs.Math.Nat.{div-eq_of_lt, lt_of_lt_of_le, mul-le-mul_right}
use Rattle.std.proofs.lemmas.Int.{to_z_pos, ints}
use Rattle.std.proofs.lemmas.Nat.{one_shl, pow_below, pow_pos}
use Rattle.std.proofs.lemmas.Bool.Decides.{nat_tests}
use Rattle.const_eval.specs.Answers.{whole}
use Rattle.const_eval.specs.declared.answer.ConstAnswer.TheVariants.{Wide}

-- `1 << k`
pub one_shifted : (n : ℤ) → pos 0 ≤ℤ n → unsigned_abs n < 127 → cast_signed w128 ((1 * 2 ^ cast_unsigned w128 n) % 2 ^ 128) ≡ pos (2 ^ unsigned_abs n)
one_shifted (pos k) low high = ap (cast_signed w128) (one_shl k 128 (omega arith)) ∙ to_z_pos w128 (2 ^ k) (pow_below k 127 high)
one_shifted (negsuc k) low high = absurd low.le

wide_above : (p : ℕ) → 2 ^ 127 ≤ p → Wide ≡ whole (pos p)
wide_above p h = grind (arith, nat_tests)

wide_below : (p : ℕ) → 2 ^ 127 < p → Wide ≡ whole (neg_ℤ (pos p))
wide_below zero h = absurd (omega arith)
wide_below (suc p) h = below p (omega arith)
  where
    below : (p : ℕ) → 2 ^ 127 ≤ p → Wide ≡ whole (negsuc p)
    below p h = grind (arith, nat_tests)

power_far : (k : ℕ) → 127 ≤ k → 2 ^ 127 ≤ 2 ^ k
power_far k h = pow_mono h

-- two or more times a large power, and one of the powers from 128 on
two_far : (a b k : ℕ) → 2 ≤ a → b ≤ k → 2 ^ b < a * 2 ^ k
two_far a b k h l =
    let p : 2 ^ b ≤ 2 ^ k = pow_mono l in
    let q : 2 * 2 ^ k ≤ a * 2 ^ k = mul-le-mul_right (2 ^ k) h in
    let r : 0 < 2 ^ b = pow_pos b in
    omega arith

some_far : (a b k : ℕ) → b ≤ k → 2 ^ b ≤ suc a * 2 ^ k
some_far a b k l =
    let p : 2 ^ b ≤ 2 ^ k = pow_mono l in
    let q : 1 * 2 ^ k ≤ suc a * 2 ^ k = mul-le-mul_right (2 ^ k) (omega arith) in
    omega arith

-- a product with a large power is wide
pub wide_shifted : (x n : ℤ) → pos 127 ≤ℤ n → (cast_unsigned w128 x ≡ 0 → ⊥) → (cast_unsigned w128 x ≡ 2 ^ 128 - 1) × (cast_unsigned w128 n ≡ 127 → ⊥) ⊎ (cast_unsigned w128 x ≡ 2 ^ 128 - 1 → ⊥) → Wide ≡ whole (x *ℤ pos (2 ^ unsigned_abs n))
wide_shifted (pos zero) (pos k) far not_zero either = absurd (not_zero refl)
wide_shifted (pos (suc a)) (pos k) far not_zero either = wide_above (suc a * 2 ^ k) (some_far a 127 k (omega (arith, ints)))
wide_shifted (negsuc zero) (pos k) far not_zero (inl e) =
    let h : 128 ≤ k = omega (arith, ints, e.1) in
    let p : 2 ^ 128 ≤ 1 * 2 ^ k = some_far 0 128 k h in
    wide_below (1 * 2 ^ k) (omega arith)
wide_shifted (negsuc zero) (pos k) far not_zero (inr e) = absurd (e refl)
wide_shifted (negsuc (suc a)) (pos k) far not_zero either = wide_below (suc (suc a) * 2 ^ k) (two_far (suc (suc a)) 127 k (omega arith) (omega (arith, ints)))
wide_shifted x (negsuc k) far not_zero either = absurd far.le

pub right_positive : (x n : ℤ) → FitsSigned w128 x → pos 127 ≤ℤ n → pos 0 ≤ℤ x → pos 0 ≡ int_shr x (unsigned_abs n)
right_positive (pos a) (pos k) fits far sign =
    let h : 127 ≤ k = omega (arith, ints) in
    let p : 2 ^ 127 ≤ 2 ^ k = power_far k h in
    ap pos (sym (div-eq_of_lt (lt_of_lt_of_le fits.sfits p)))
right_positive (pos a) (negsuc k) fits far sign = absurd far.le
right_positive (negsuc a) n fits far sign = absurd sign.le

pub right_negative : (x n : ℤ) → FitsSigned w128 x → pos 127 ≤ℤ n → x <ℤ pos 0 → negsuc 0 ≡ int_shr x (unsigned_abs n)
right_negative (negsuc a) (pos k) fits far sign =
    let h : 127 ≤ k = omega (arith, ints) in
    let p : 2 ^ 127 ≤ 2 ^ k = power_far k h in
    ap negsuc (sym (div-eq_of_lt (lt_of_lt_of_le fits.sfits p)))
right_negative (negsuc a) (negsuc k) fits far sign = absurd far.le
right_negative (pos a) n fits far sign = absurd (omega (arith, ints))
