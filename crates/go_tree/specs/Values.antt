-- Go 1.17, "Integer literals", "Rune literals" and "String literals": the values of literals.
use Rattle.std.specs.Prelude.{◌≡◌, ℕ, ◌+◌, ◌*◌, ◌^◌, ◌≤◌, Bool, true, false, ◌==◌, List, [], ◌∷◌, ◌++◌, slice_index, drop, if◌then◌else◌, not, pos}
use Rattle.std.specs.List.{fold, filter}
use Rattle.std.specs.Char.{digit_value, encode_utf8, InScalarRange}
use Rattle.std.specs.Str.{byte, chars, is_utf8}
use Rattle.go_tree.specs.Numbers.{base_of, behind_prefix}
use Rattle.go_tree.specs.Escapes.{double_quote, backslash, inner, is_plain, escape_step, lone_step}
use Rattle.go_tree.specs.declared.class.Escape.{Escape}
use Rattle.go_tree.specs.declared.class.Escape.TheVariants.{Plain, Slash, Octal, Hex, Point, Bad}
use Rattle.go_tree.specs.declared.value.IntValue.{IntValue}
use Rattle.go_tree.specs.declared.value.IntValue.TheVariants.{Value, Wide}

-- the number so far with one digit more; `_` counts for nothing
unfoldable pub number_with : ℕ → ℕ → ℕ → ℕ
number_with base n b = if b == byte "_" then n else n * base + digit_value b

-- the number that an integer literal writes
unfoldable pub number_of : List ℕ → ℕ
number_of bytes = fold (number_with (base_of bytes)) 0 (behind_prefix bytes)

-- the value is the number, unless that passes 2^127 - 1
abbrev pub IsIntValue : List ℕ → IntValue → Type 0
IsIntValue bytes (Value n) = n ≡ pos (number_of bytes)
IsIntValue bytes Wide = 2 ^ 127 ≤ number_of bytes

-- what a letter behind a backslash stands for
abbrev pub simple_value : ℕ → ℕ
simple_value b =
    if b == byte "a" then 7
    else (if b == byte "b" then 8
    else (if b == byte "f" then 12
    else (if b == byte "n" then 10
    else (if b == byte "r" then 13
    else (if b == byte "t" then 9
    else (if b == byte "v" then 11
    else b))))))

-- what a byte ends: a byte for itself, or an escape with its value
unfoldable pub unit_value : Escape → ℕ → ℕ
unit_value Plain b = b
unit_value Slash b = simple_value b
unit_value (Octal left value) b = value * 8 + digit_value b
unit_value (Hex left value) b = value * 16 + digit_value b
unit_value (Point left value) b = value * 16 + digit_value b
unit_value Bad b = 0

-- the byte ends an escape, or stands for itself: what came before it is small enough
abbrev pub IsEnding : Escape → ℕ → Type 0
IsEnding Plain b = Unit {0}
IsEnding Slash b = Unit {0}
IsEnding (Octal left value) b = (value ≤ 31) × (digit_value b ≤ 7)
IsEnding (Hex left value) b = (value ≤ 15) × (digit_value b ≤ 15)
IsEnding (Point left value) b = (value ≤ 0x10FFF) × (digit_value b ≤ 15) × InScalarRange (value * 16 + digit_value b)
IsEnding Bad b = ⊥

-- the value of the escape that the bytes go on with
unfoldable pub lone_value : Escape → List ℕ → ℕ
lone_value state [] = 0
lone_value state (b ∷ bytes) = if is_plain (lone_step state b) then unit_value state b else lone_value (lone_step state b) bytes

-- the code of the first character of a text
abbrev pub char_value : List ℕ → ℕ
char_value bytes = if is_utf8 bytes then slice_index (chars bytes) 0 else 0

-- the value of a rune literal: of its escape, or its character
unfoldable pub rune_value : List ℕ → ℕ
rune_value bytes =
    if slice_index (inner bytes) 0 == backslash then lone_value Slash (drop 1 (inner bytes))
    else char_value (inner bytes)

-- `\u` and `\U` give a character
abbrev pub gives_char : Escape → Bool
gives_char Plain = false
gives_char Slash = false
gives_char (Octal left value) = false
gives_char (Hex left value) = false
gives_char (Point left value) = true
gives_char Bad = false

-- the bytes of what a byte ends: a character in UTF-8, or one byte
abbrev pub unit_bytes : Escape → ℕ → List ℕ
unit_bytes state b = if gives_char state then encode_utf8 (unit_value state b) else unit_value state b ∷ []

-- the bytes that a byte of a text adds
abbrev pub added : Escape → ℕ → List ℕ
added state b = if is_plain (escape_step double_quote state b) then unit_bytes state b else []

unfoldable pub text_from : Escape → List ℕ → List ℕ
text_from state [] = []
text_from state (b ∷ bytes) = added state b ++ text_from (escape_step double_quote state b) bytes

-- a raw text has no carriage returns
abbrev pub is_kept : ℕ → Bool
is_kept b = not (b == 13)

-- the value of a text literal
unfoldable pub text_value : List ℕ → List ℕ
text_value bytes = if slice_index bytes 0 == byte "`" then filter is_kept (inner bytes) else text_from Plain (inner bytes)
