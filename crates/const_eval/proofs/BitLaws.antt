-- The operators on the 128 bits of two integers are those on the integers.
use Rattle.std.proofs.Common.{◌≡◌, ℕ, suc, ◌+◌, ◌-◌, ◌*◌, ◌^◌, ◌<◌, ◌≤◌, ap, ◌∙◌, arith, refl}
use Rattle.std.specs.Prelude.{ℤ, pos, negsuc, FitsSigned, bit_and, bit_or, bit_xor}
use Rattle.std.specs.Int.{w128, cast_signed, cast_unsigned}
use Rattle.std.specs.Int.Bits.{and_comm, or_comm, and_le_l, or_add_and, xor_add_and, or_lt, xor_lt, xor_comm}
use Rattle.std.proofs.lemmas.Nat.{and-not}
use Rattle.std.proofs.lemmas.Int.{to_z-of_z}
use Rattle.const_eval.specs.Bits.{and_of, or_of, xor_of}

-- the other digits of n, at 128 places
abbrev others : ℕ → ℕ
others n = 2 ^ 128 - suc n

and_others : (m n : ℕ) → m < 2 ^ 128 → n < 2 ^ 128 → bit_and m (others n) ≡ m - bit_and m n
and_others m n hm hn =
    let e : bit_and (2 ^ 128 - 1 - n) m + bit_and n m ≡ m = and-not 128 n m hn hm in
    let s : 2 ^ 128 - suc n ≡ 2 ^ 128 - 1 - n = omega arith in
    let c : bit_and m n ≡ bit_and n m = and_comm m n in
    ap (bit_and m) s ∙ (and_comm m (2 ^ 128 - 1 - n) ∙ omega arith)

others_and_others : (m n : ℕ) → m < 2 ^ 128 → n < 2 ^ 128 → bit_and (others m) (others n) ≡ others (bit_or m n)
others_and_others m n hm hn =
    let a : bit_and (others m) (others n) ≡ others m - bit_and (others m) n = and_others (others m) n (omega arith) hn in
    let b : bit_and n (others m) ≡ n - bit_and n m = and_others n m hn hm in
    let c : bit_and (others m) n ≡ bit_and n (others m) = and_comm (others m) n in
    let d : bit_and m n ≡ bit_and n m = and_comm m n in
    let e : bit_or m n + bit_and m n ≡ m + n = or_add_and m n in
    let f : bit_and m n ≤ m = and_le_l m n in
    let g : bit_or m n < 2 ^ 128 = or_lt 128 m n hm hn in
    let h : bit_and n m ≤ n = and_le_l n m in
    omega arith

xor_others : (m n : ℕ) → m < 2 ^ 128 → n < 2 ^ 128 → bit_xor m (others n) ≡ others (bit_xor m n)
xor_others m n hm hn =
    let a : bit_and m (others n) ≡ m - bit_and m n = and_others m n hm hn in
    let b : bit_xor m (others n) + bit_and m (others n) * 2 ≡ m + others n = xor_add_and m (others n) in
    let c : bit_xor m n + bit_and m n * 2 ≡ m + n = xor_add_and m n in
    let f : bit_and m n ≤ m = and_le_l m n in
    let g : bit_xor m n < 2 ^ 128 = xor_lt 128 m n hm hn in
    omega arith

or_others : (m n : ℕ) → m < 2 ^ 128 → n < 2 ^ 128 → bit_or m (others n) ≡ others (n - bit_and n m)
or_others m n hm hn =
    let a : bit_and m (others n) ≡ m - bit_and m n = and_others m n hm hn in
    let b : bit_or m (others n) + bit_and m (others n) ≡ m + others n = or_add_and m (others n) in
    let c : bit_and m n ≡ bit_and n m = and_comm m n in
    let d : bit_and m n ≤ m = and_le_l m n in
    let e : bit_and n m ≤ n = and_le_l n m in
    omega arith

others_or_others : (m n : ℕ) → m < 2 ^ 128 → n < 2 ^ 128 → bit_or (others m) (others n) ≡ others (bit_and m n)
others_or_others m n hm hn =
    let a : bit_and (others m) (others n) ≡ others (bit_or m n) = others_and_others m n hm hn in
    let b : bit_or (others m) (others n) + bit_and (others m) (others n) ≡ others m + others n = or_add_and (others m) (others n) in
    let c : bit_or m n + bit_and m n ≡ m + n = or_add_and m n in
    let d : bit_or m n < 2 ^ 128 = or_lt 128 m n hm hn in
    omega arith

others_xor_others : (m n : ℕ) → m < 2 ^ 128 → n < 2 ^ 128 → bit_xor (others m) (others n) ≡ bit_xor m n
others_xor_others m n hm hn =
    let a : bit_xor (others m) (others n) ≡ others (bit_xor (others m) n) = xor_others (others m) n (omega arith) hn in
    let b : bit_xor n (others m) ≡ others (bit_xor n m) = xor_others n m hn hm in
    let c : bit_xor (others m) n ≡ bit_xor n (others m) = xor_comm (others m) n in
    let d : bit_xor n m ≡ bit_xor m n = xor_comm n m in
    let e : bit_xor m n < 2 ^ 128 = xor_lt 128 m n hm hn in
    omega arith

-- ---- at integers of 128 bits

and_bits : (x y : ℤ) → FitsSigned w128 x → FitsSigned w128 y → bit_and (cast_unsigned w128 x) (cast_unsigned w128 y) ≡ cast_unsigned w128 (and_of x y)
and_bits (pos m) (pos n) p q = refl
and_bits (pos m) (negsuc n) p q = and_others m n (omega arith) (omega arith)
and_bits (negsuc m) (pos n) p q = and_comm (others m) n ∙ and_others n m (omega arith) (omega arith)
and_bits (negsuc m) (negsuc n) p q = others_and_others m n (omega arith) (omega arith)

and_fits : (x y : ℤ) → FitsSigned w128 x → FitsSigned w128 y → FitsSigned w128 (and_of x y)
and_fits (pos m) (pos n) p q = record { sfits = omega (arith, and_le_l m n) }
and_fits (pos m) (negsuc n) p q = record { sfits = omega arith }
and_fits (negsuc m) (pos n) p q = record { sfits = omega arith }
and_fits (negsuc m) (negsuc n) p q = record { sfits = or_lt 127 m n p.sfits q.sfits }

pub and_is : (x y : ℤ) → FitsSigned w128 x → FitsSigned w128 y → cast_signed w128 (bit_and (cast_unsigned w128 x) (cast_unsigned w128 y)) ≡ and_of x y
and_is x y p q = ap (cast_signed w128) (and_bits x y p q) ∙ to_z-of_z w128 (and_of x y) (and_fits x y p q)

or_bits : (x y : ℤ) → FitsSigned w128 x → FitsSigned w128 y → bit_or (cast_unsigned w128 x) (cast_unsigned w128 y) ≡ cast_unsigned w128 (or_of x y)
or_bits (pos m) (pos n) p q = refl
or_bits (pos m) (negsuc n) p q = or_others m n (omega arith) (omega arith)
or_bits (negsuc m) (pos n) p q = or_comm (others m) n ∙ or_others n m (omega arith) (omega arith)
or_bits (negsuc m) (negsuc n) p q = others_or_others m n (omega arith) (omega arith)

or_fits : (x y : ℤ) → FitsSigned w128 x → FitsSigned w128 y → FitsSigned w128 (or_of x y)
or_fits (pos m) (pos n) p q = record { sfits = or_lt 127 m n p.sfits q.sfits }
or_fits (pos m) (negsuc n) p q = record { sfits = omega arith }
or_fits (negsuc m) (pos n) p q = record { sfits = omega arith }
or_fits (negsuc m) (negsuc n) p q = record { sfits = omega (arith, and_le_l m n) }

pub or_is : (x y : ℤ) → FitsSigned w128 x → FitsSigned w128 y → cast_signed w128 (bit_or (cast_unsigned w128 x) (cast_unsigned w128 y)) ≡ or_of x y
or_is x y p q = ap (cast_signed w128) (or_bits x y p q) ∙ to_z-of_z w128 (or_of x y) (or_fits x y p q)

xor_bits : (x y : ℤ) → FitsSigned w128 x → FitsSigned w128 y → bit_xor (cast_unsigned w128 x) (cast_unsigned w128 y) ≡ cast_unsigned w128 (xor_of x y)
xor_bits (pos m) (pos n) p q = refl
xor_bits (pos m) (negsuc n) p q = xor_others m n (omega arith) (omega arith)
xor_bits (negsuc m) (pos n) p q = xor_comm (others m) n ∙ (xor_others n m (omega arith) (omega arith) ∙ ap others (xor_comm n m))
xor_bits (negsuc m) (negsuc n) p q = others_xor_others m n (omega arith) (omega arith)

xor_fits : (x y : ℤ) → FitsSigned w128 x → FitsSigned w128 y → FitsSigned w128 (xor_of x y)
xor_fits (pos m) (pos n) p q = record { sfits = xor_lt 127 m n p.sfits q.sfits }
xor_fits (pos m) (negsuc n) p q = record { sfits = xor_lt 127 m n p.sfits q.sfits }
xor_fits (negsuc m) (pos n) p q = record { sfits = xor_lt 127 m n p.sfits q.sfits }
xor_fits (negsuc m) (negsuc n) p q = record { sfits = xor_lt 127 m n p.sfits q.sfits }

pub xor_is : (x y : ℤ) → FitsSigned w128 x → FitsSigned w128 y → cast_signed w128 (bit_xor (cast_unsigned w128 x) (cast_unsigned w128 y)) ≡ xor_of x y
xor_is x y p q = ap (cast_signed w128) (xor_bits x y p q) ∙ to_z-of_z w128 (xor_of x y) (xor_fits x y p q)
