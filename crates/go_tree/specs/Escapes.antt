-- Go 1.17, "Rune literals" and "String literals": the escapes of literals between quotes.
use Rattle.std.specs.Prelude.{ℕ, ◌+◌, ◌-◌, ◌*◌, Bool, true, false, ◌||◌, ◌==◌, nat_lt, nat_le, List, length, take, drop, slice_index, if◌then◌else◌, not, ◌&&◌}
use Rattle.std.specs.List.{fold}
use Rattle.std.specs.Char.{digit_value}
use Rattle.std.specs.Str.{byte, chars, is_utf8}
use Rattle.go_tree.specs.declared.class.Escape.{Escape}
use Rattle.go_tree.specs.declared.class.Escape.TheVariants.{Plain, Slash, Octal, Hex, Point, Bad}

abbrev pub double_quote : ℕ
double_quote = 34

abbrev pub single_quote : ℕ
single_quote = 39

abbrev pub backslash : ℕ
backslash = 92

-- a b f n r t v and the backslash
abbrev pub is_simple : ℕ → Bool
is_simple b = b == byte "a" || b == byte "b" || b == byte "f" || b == byte "n" || b == byte "r" || b == byte "t" || b == byte "v" || b == backslash

-- behind a backslash: the quote of the literal may stand there, too
abbrev pub slash_step : ℕ → ℕ → Escape
slash_step quote b =
    if is_simple b || b == quote then Plain
    else (if nat_lt (digit_value b) 8 then Octal 2 (digit_value b)
    else (if b == byte "x" then Hex 2 0
    else (if b == byte "u" then Point 4 0
    else (if b == byte "U" then Point 8 0
    else Bad))))

-- three octal digits, up to 255: before the last of them the value is at most 31
abbrev pub octal_step : ℕ → ℕ → ℕ → Escape
octal_step left value b =
    if nat_lt 31 value || not (nat_lt (digit_value b) 8) then Bad
    else (if nat_le left 1 then Plain else Octal (left - 1) (value * 8 + digit_value b))

-- two hexadecimal digits
abbrev pub hex_step : ℕ → ℕ → ℕ → Escape
hex_step left value b =
    if nat_lt 15 value || not (nat_lt (digit_value b) 16) then Bad
    else (if nat_le left 1 then Plain else Hex (left - 1) (value * 16 + digit_value b))

-- no half of a surrogate pair
abbrev pub point_end : ℕ → Escape
point_end value = if nat_lt 0xD7FF value && nat_lt value 0xE000 then Bad else Plain

-- four or eight hexadecimal digits, up to 10FFFF: before the last of them the value is at most 10FFF
abbrev pub point_step : ℕ → ℕ → ℕ → Escape
point_step left value b =
    if nat_lt 0x10FFF value || not (nat_lt (digit_value b) 16) then Bad
    else (if nat_le left 1 then point_end (value * 16 + digit_value b) else Point (left - 1) (value * 16 + digit_value b))

unfoldable pub escape_step : ℕ → Escape → ℕ → Escape
escape_step quote Plain b = if b == backslash then Slash else Plain
escape_step quote Slash b = slash_step quote b
escape_step quote (Octal left value) b = octal_step left value b
escape_step quote (Hex left value) b = hex_step left value b
escape_step quote (Point left value) b = point_step left value b
escape_step quote Bad b = Bad

abbrev pub is_plain : Escape → Bool
is_plain Plain = true
is_plain Slash = false
is_plain (Octal left value) = false
is_plain (Hex left value) = false
is_plain (Point left value) = false
is_plain Bad = false

-- what stands between the quotes of a literal
abbrev pub inner : List ℕ → List ℕ
inner bytes = take (length bytes - 2) (drop 1 bytes)

-- each escape in the bytes is whole and good
unfoldable pub escapes_well : ℕ → List ℕ → Bool
escapes_well quote bytes = is_plain (fold (escape_step quote) Plain bytes)

-- a lone escape: nothing follows it
unfoldable pub lone_step : Escape → ℕ → Escape
lone_step state b = if is_plain state then Bad else escape_step single_quote state b

-- behind the backslash the bytes are one escape of a rune literal
unfoldable pub is_lone_escape : List ℕ → Bool
is_lone_escape bytes = is_plain (fold lone_step Slash bytes)

-- the bytes are one character
abbrev pub is_lone_char : List ℕ → Bool
is_lone_char bytes = is_utf8 bytes && length (chars bytes) == 1

-- between the quotes of a rune literal stands exactly one character or escape
unfoldable pub is_rune_body : List ℕ → Bool
is_rune_body bytes = if slice_index bytes 0 == backslash then is_lone_escape (drop 1 bytes) else is_lone_char bytes
