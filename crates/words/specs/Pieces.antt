-- What a word is by its bytes.
use Rattle.std.specs.Prelude.{ℕ, List, codes, drop, Bool, bytes_eq, nat_eq, if◌then◌else◌}
use Rattle.std.specs.List.{starts_with}
use Rattle.words.specs.declared.word.Valued.{Valued}
use Rattle.words.specs.declared.word.Valued.TheVariants as option
use Rattle.words.specs.declared.word.Piece.{Piece}
use Rattle.words.specs.declared.word.Piece.TheVariants as piece

-- `--`, `--json`, the name of an option whose value is the next word, a name with its value, a word that doesn't
-- begin with `-`, and another that does
pub data WordKind : Type 0 where
  dashes : WordKind
  flag : WordKind
  named : Valued → WordKind
  given : Valued → List ℕ → WordKind
  plain : WordKind
  wrong : WordKind

abbrev pub dashed : List ℕ → Bool
dashed word = starts_with nat_eq word (codes "-")

abbrev pub kind_of : List ℕ → WordKind
kind_of word =
    if bytes_eq word (codes "--") then dashes
    else (if bytes_eq word (codes "--json") then flag
    else (if bytes_eq word (codes "--workers") then named option.Workers
    else (if bytes_eq word (codes "--only") then named option.Only
    else (if starts_with nat_eq word (codes "--workers=") then given option.Workers (drop 10 word)
    else (if starts_with nat_eq word (codes "--only=") then given option.Only (drop 7 word)
    else (if dashed word then wrong else plain))))))

-- what a piece shows
abbrev pub kind_shown : Piece → WordKind
kind_shown piece.Dashes = dashes
kind_shown piece.Json = flag
kind_shown (piece.Named o) = named o
kind_shown (piece.Given o value) = given o value.now
kind_shown piece.Plain = plain
kind_shown piece.Wrong = wrong
