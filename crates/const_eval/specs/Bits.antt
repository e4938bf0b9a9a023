-- The operators on bits, over the two's complement of integers with no bound on its width.
-- There n has its binary digits, above them zeros without end; -(n + 1) has the other digit at each place, above them ones.
-- So each of the operators is one on the digits of two naturals, and the sign of the result is that operator on the signs.
use Rattle.std.specs.Prelude.{ℕ, ◌+◌, ◌-◌, ◌%◌, min, max, ℤ, pos, negsuc, bit_and, bit_or, bit_xor, ◌≡◌}
use Rattle.std.specs.Int.{int_shr}

-- z is odd: 1, or even: 0
abbrev pub parity : ℤ → ℕ
parity (pos n) = n % 2
parity (negsuc n) = 1 - n % 2

-- digit i of z: the parity of z by two to the i, rounded down
abbrev pub digit : ℤ → ℕ → ℕ
digit z i = parity (int_shr z i)

-- What each operator does to the digits. The definitions below have these laws.
abbrev pub ComplementsDigits : ℤ → ℤ → Type 0
ComplementsDigits x z = (i : ℕ) → digit z i ≡ 1 - digit x i

abbrev pub AndsDigits : ℤ → ℤ → ℤ → Type 0
AndsDigits x y z = (i : ℕ) → digit z i ≡ min (digit x i) (digit y i)

abbrev pub OrsDigits : ℤ → ℤ → ℤ → Type 0
OrsDigits x y z = (i : ℕ) → digit z i ≡ max (digit x i) (digit y i)

abbrev pub XorsDigits : ℤ → ℤ → ℤ → Type 0
XorsDigits x y z = (i : ℕ) → digit z i ≡ (digit x i + digit y i) % 2

-- the other digit at each place
abbrev pub complement_of : ℤ → ℤ
complement_of (pos n) = negsuc n
complement_of (negsuc n) = pos n

-- the ones of m at places where n has a zero
abbrev pub ones_beyond : ℕ → ℕ → ℕ
ones_beyond n m = m - bit_and m n

-- a one where both have one
abbrev pub and_of : ℤ → ℤ → ℤ
and_of (pos m) (pos n) = pos (bit_and m n)
and_of (pos m) (negsuc n) = pos (ones_beyond n m)
and_of (negsuc m) (pos n) = pos (ones_beyond m n)
and_of (negsuc m) (negsuc n) = negsuc (bit_or m n)

-- a one where either has one
abbrev pub or_of : ℤ → ℤ → ℤ
or_of x y = complement_of (and_of (complement_of x) (complement_of y))

-- a one where they differ
abbrev pub xor_of : ℤ → ℤ → ℤ
xor_of (pos m) (pos n) = pos (bit_xor m n)
xor_of (pos m) (negsuc n) = negsuc (bit_xor m n)
xor_of (negsuc m) (pos n) = negsuc (bit_xor m n)
xor_of (negsuc m) (negsuc n) = pos (bit_xor m n)

-- a one where the first has one and the second none
abbrev pub and_not_of : ℤ → ℤ → ℤ
and_not_of x y = and_of x (complement_of y)
