-- Go 1.17, "Integer literals", "Floating-point literals" and "Imaginary literals".
use Rattle.std.specs.Prelude.{ℕ, ◌+◌, ◌-◌, Bool, true, false, ◌&&◌, ◌||◌, ◌==◌, nat_lt, List, Option, Some, None, length, take, drop, slice_index, if◌then◌else◌}
use Rattle.std.specs.List.{fold, position_from}
use Rattle.std.specs.Char.{digit_value}
use Rattle.std.specs.Str.{byte}
use Rattle.go_tree.specs.declared.class.Digits.{Digits}
use Rattle.go_tree.specs.declared.class.Digits.TheVariants.{Due, Fine, Bad}
use Rattle.go_tree.specs.declared.token.TokenKind.{TokenKind}
use Rattle.go_tree.specs.declared.token.TokenKind.TheVariants.{Int, Float, Imag}

-- digits = digit { [ "_" ] digit }
unfoldable pub digits_step : ℕ → Digits → ℕ → Digits
digits_step base Due b = if nat_lt (digit_value b) base then Fine else Bad
digits_step base Fine b = if b == byte "_" then Due else (if nat_lt (digit_value b) base then Fine else Bad)
digits_step base Bad b = Bad

abbrev pub is_fine : Digits → Bool
is_fine Due = false
is_fine Fine = true
is_fine Bad = false

-- the bytes are digits of a base
unfoldable pub are_digits : ℕ → List ℕ → Bool
are_digits base bytes = is_fine (fold (digits_step base) Due bytes)

-- [ "_" ] may stand before digits that follow a prefix
abbrev pub behind_underscore : List ℕ → List ℕ
behind_underscore bytes = if slice_index bytes 0 == byte "_" then drop 1 bytes else bytes

-- [ "+" | "-" ] may stand before the digits of an exponent
abbrev pub behind_sign : List ℕ → List ℕ
behind_sign bytes = if slice_index bytes 0 == byte "+" || slice_index bytes 0 == byte "-" then drop 1 bytes else bytes

-- the base that the letter behind a leading zero tells; without a letter it is octal
abbrev pub base_of_letter : ℕ → ℕ
base_of_letter b =
    if b == byte "b" || b == byte "B" then 2
    else (if b == byte "x" || b == byte "X" then 16
    else 8)

-- a letter that tells a base
abbrev pub is_base_letter : ℕ → Bool
is_base_letter b = b == byte "b" || b == byte "B" || b == byte "o" || b == byte "O" || b == byte "x" || b == byte "X"

-- the base of an integer literal
abbrev pub base_of : List ℕ → ℕ
base_of bytes = if slice_index bytes 0 == byte "0" then base_of_letter (slice_index bytes 1) else 10

-- what stands behind the prefix: nothing, "0", or "0" and a letter
abbrev pub behind_prefix : List ℕ → List ℕ
behind_prefix bytes =
    if slice_index bytes 0 == byte "0" then (if is_base_letter (slice_index bytes 1) then drop 2 bytes else drop 1 bytes)
    else bytes

abbrev pub is_zero : List ℕ → Bool
is_zero bytes = length bytes == 1 && slice_index bytes 0 == byte "0"

-- decimal_lit = "0" | ( "1" … "9" ) [ [ "_" ] decimal_digits ], and the literals with a prefix
unfoldable pub is_int : List ℕ → Bool
is_int bytes =
    if slice_index bytes 0 == byte "0" then is_zero bytes || are_digits (base_of bytes) (behind_underscore (behind_prefix bytes))
    else are_digits 10 bytes

-- the digits before a point: behind the prefix "0x" an underscore may come first
abbrev pub are_whole : ℕ → List ℕ → Bool
are_whole base bytes = if base == 16 then are_digits 16 (behind_underscore bytes) else are_digits base bytes

-- [ digits ]
abbrev pub are_digits_or_none : ℕ → List ℕ → Bool
are_digits_or_none base bytes = length bytes == 0 || are_digits base bytes

abbrev pub is_point : ℕ → Bool
is_point b = b == byte "."

-- digits "." [ digits ] | "." digits, where a point stands at the place
abbrev pub is_pointed_at : ℕ → List ℕ → Option ℕ → Bool
is_pointed_at base bytes None = false
is_pointed_at base bytes (Some place) =
    if place == 0 then are_digits base (drop 1 bytes)
    else are_whole base (take place bytes) && are_digits_or_none base (drop (place + 1) bytes)

unfoldable pub is_pointed : ℕ → List ℕ → Bool
is_pointed base bytes = is_pointed_at base bytes (position_from is_point 0 bytes)

-- what may stand before an exponent
abbrev pub is_mantissa : ℕ → List ℕ → Bool
is_mantissa base bytes = are_whole base bytes || is_pointed base bytes

-- what stands behind the letter of an exponent
abbrev pub is_exponent : List ℕ → Bool
is_exponent bytes = are_digits 10 (behind_sign bytes)

abbrev pub is_decimal_mark : ℕ → Bool
is_decimal_mark b = b == byte "e" || b == byte "E"

abbrev pub is_hex_mark : ℕ → Bool
is_hex_mark b = b == byte "p" || b == byte "P"

-- a mantissa and an exponent, where the letter of the exponent stands at the place
abbrev pub is_scaled_at : ℕ → List ℕ → Option ℕ → Bool
is_scaled_at base bytes None = false
is_scaled_at base bytes (Some place) = is_mantissa base (take place bytes) && is_exponent (drop (place + 1) bytes)

-- decimal_float_lit = digits "." [ digits ] [ exponent ] | digits exponent | "." digits [ exponent ]
unfoldable pub is_decimal_float : List ℕ → Bool
is_decimal_float bytes = is_pointed 10 bytes || is_scaled_at 10 bytes (position_from is_decimal_mark 0 bytes)

-- hex_float_lit = "0" ( "x" | "X" ) hex_mantissa hex_exponent
unfoldable pub is_hex_float : List ℕ → Bool
is_hex_float bytes = base_of bytes == 16 && is_scaled_at 16 (drop 2 bytes) (position_from is_hex_mark 0 (drop 2 bytes))

abbrev pub is_float : List ℕ → Bool
is_float bytes = is_decimal_float bytes || is_hex_float bytes

-- imaginary_lit = ( decimal_digits | int_lit | float_lit ) "i"
unfoldable pub is_imag : List ℕ → Bool
is_imag bytes =
    let front = take (length bytes - 1) bytes in
    slice_index bytes (length bytes - 1) == byte "i" && (are_digits 10 front || is_int front || is_float front)

-- what kind of literal the bytes are, if they are a number
unfoldable pub number_kind : List ℕ → Option TokenKind
number_kind bytes = if is_int bytes then Some Int else (if is_float bytes then Some Float else (if is_imag bytes then Some Imag else None))
