-- The grammar of a directive: %, flags, an optional [n], a width of digits or *, an optional precision of
-- a point, an optional [n] and digits or *, an optional [n], and the character that is the verb.
use Rattle.std.specs.Prelude.{◌≡◌, ◌≤◌, ◌<◌, ◌⊎◌, ℕ, ◌+◌, ◌-◌, ◌*◌, ◌==◌, ◌&&◌, Bool, true, false, not, nat_lt, nat_le, Option, Some, None, List, length, drop, slice_index, slice_range, if◌then◌else◌}
use Rattle.std.specs.List.{fold}
use Rattle.printf_format.specs.declared.parts.Index.{Index}
use Rattle.printf_format.specs.declared.parts.Size.{Size}
use Rattle.printf_format.specs.declared.parts.Parts.{Parts}
use Rattle.printf_format.specs.declared.parts.Turn.{Turn}
use Rattle.printf_format.specs.declared.parts.Turn.TheVariants.{End, Whole, NoVerb, BadIndex}
use Rattle.printf_format.specs.Bytes.{is_flag, is_digit, is_other, run_end}
use Rattle.printf_format.specs.Characters.{IsCharacter}
use Rattle.printf_format.specs.Flags.{flags_of}

-- the bytes from one offset to before another spell a number from 1 to 99999: one to five digits, of
-- which the first is not 0
abbrev pub is_number : List ℕ → ℕ → ℕ → Bool
is_number text from to = nat_lt from to && nat_le to (from + 5) && not (slice_index text from == 48)

-- the number that decimal digits spell
abbrev pub decimal : List ℕ → ℕ
decimal digits = fold (λ n digit. 10 * n + (digit - 48)) 0 digits

-- what stands behind a [ whose digits end at `close`: the number if it is one and ] follows
abbrev pub bracketed : List ℕ → ℕ → ℕ → Option Index
bracketed text from close =
    if is_number text from close && (slice_index text close == 93)
    then Some (record { number = Some (decimal (slice_range text from close)); end = close + 1 })
    else None

-- what stands where an index may stand: [n], or nothing; None where a [ begins no [n]
abbrev pub index_at : List ℕ → ℕ → Option Index
index_at text at =
    if slice_index text at == 91
    then bracketed text (at + 1) (run_end is_digit text (at + 1))
    else Some (record { number = None; end = at })

-- a * or digits, behind an index
abbrev pub counted : List ℕ → Index → Size
counted text index =
    if slice_index text index.end == 42
    then record { index = index.number; star = true; end = index.end + 1 }
    else record { index = index.number; star = false; end = run_end is_digit text index.end }

-- an optional [n] and * or digits; None where the index is bad
abbrev pub sized : List ℕ → Option Index → Option Size
sized text (Some index) = Some (counted text index)
sized text None = None

abbrev pub size_at : List ℕ → ℕ → Option Size
size_at text at = sized text (index_at text at)

-- an optional precision; None where its index is bad, which stands behind the point
abbrev pub precision_at : List ℕ → ℕ → Option Size
precision_at text at =
    if slice_index text at == 46
    then size_at text (at + 1)
    else Some (record { index = None; star = false; end = at })

-- where the flags of the directive that starts at the offset end
abbrev pub flags_end : List ℕ → ℕ → ℕ
flags_end text start = run_end is_flag text (start + 1)

-- the parts up to the verb
pub record IsFront (text : List ℕ) (start : ℕ) (width precision : Size) (last : Index) : Type 0 where
  pub first : size_at text (flags_end text start) ≡ Some width
  pub second : precision_at text width.end ≡ Some precision
  pub third : index_at text precision.end ≡ Some last

-- a whole directive
pub record IsWhole (text : List ℕ) (start : ℕ) (parts : Parts) : Type 0 where
  pub flags : parts.flags ≡ flags_of (slice_range text (start + 1) (flags_end text start))
  pub front : IsFront text start parts.width parts.precision parts.last
  pub size : ℕ
  pub verb : IsCharacter (drop parts.last.end text) parts.verb size
  pub end : parts.end ≡ parts.last.end + size

-- a directive behind whose other parts the text ends
pub record LacksVerb (text : List ℕ) (start : ℕ) : Type 0 where
  pub width : Size
  pub precision : Size
  pub last : Index
  pub front : IsFront text start width precision last
  pub ends : last.end ≡ length text

-- a directive with a bad index before its precision's point, behind it, or before its verb
pub record IsBadWidth (text : List ℕ) (start at : ℕ) : Type 0 where
  pub bad : size_at text (flags_end text start) ≡ None
  pub place : at ≡ flags_end text start

pub record IsBadPrecision (text : List ℕ) (start at : ℕ) : Type 0 where
  pub width : Size
  pub before : size_at text (flags_end text start) ≡ Some width
  pub bad : precision_at text width.end ≡ None
  pub place : at ≡ width.end + 1

pub record IsBadLast (text : List ℕ) (start at : ℕ) : Type 0 where
  pub width : Size
  pub precision : Size
  pub before : size_at text (flags_end text start) ≡ Some width
  pub between : precision_at text width.end ≡ Some precision
  pub bad : index_at text precision.end ≡ None
  pub place : at ≡ precision.end

abbrev pub HasBadIndex : List ℕ → ℕ → ℕ → Type 0
HasBadIndex text start at = IsBadWidth text start at ⊎ IsBadPrecision text start at ⊎ IsBadLast text start at

-- the offset of the first % from an offset on, or the text's length
abbrev pub percent_from : List ℕ → ℕ → ℕ
percent_from text at = run_end is_other text at

-- what the % at the offset begins
abbrev pub Begun : List ℕ → ℕ → Turn → Type 0
Begun text start End = ⊥
Begun text start (Whole from parts) = (from ≡ start) × IsWhole text start parts
Begun text start (NoVerb at) = (at ≡ start) × LacksVerb text start
Begun text start (BadIndex at) = HasBadIndex text start at

-- what comes first from an offset on
abbrev pub IsTurn : List ℕ → ℕ → Turn → Type 0
IsTurn text at turn =
    ((percent_from text at ≡ length text) × (turn ≡ End))
    ⊎ ((percent_from text at < length text) × Begun text (percent_from text at) turn)

-- decimal digits
abbrev pub AreDigits : List ℕ → Type 0
AreDigits digits = (k : ℕ) → k < length digits → (48 ≤ slice_index digits k) × (slice_index digits k ≤ 57)
