-- The reply to `report` as JSON: one line, compact, with keys in byte order.
use Rattle.std.specs.Prelude.{◌≡◌, ℕ, zero, suc, ◌+◌, ◌/◌, ◌%◌, List, [], ◌∷◌, ◌++◌, length, codes, flat_map, nat_lt, ◌==◌, Bool, Option, Some, None, if◌then◌else◌}
use Rattle.std.specs.Str.{bytes_eq, is_utf8}
use Rattle.std.specs.Option.{option_map_or}
use Rattle.std.specs.Ordering.{nat_cmp, on, then_cmp}
use Rattle.std.specs.declared.cmp.Ordering.{Ordering}
use Rattle.std.specs.Cmp.Lexicographic.{slice_cmp}
use Rattle.std.specs.List.Sorted.{IsPermutation, IsSorted}
use Rattle.gv_base.specs.Files.{Entry}
use Rattle.gv_base.specs.declared.place.Place.{Place}
use Rattle.analysis_core.specs.declared.reply.ErrorLine.{ErrorLine}
use Rattle.analysis_core.specs.declared.reply.FoundLine.{FoundLine}
use Rattle.analysis_core.specs.declared.reply.Reply.{Reply}
use Rattle.analysis_core.specs.declared.said.Said.{Said}
use Rattle.analysis_core.specs.Replies.{place_text, analyzer_text, limit_line}

-- ---- texts

-- the bytes that are written as a backslash and a letter
abbrev pub SHORT_FORMS : List (ℕ × ℕ)
SHORT_FORMS = (34, 34) ∷ (92, 92) ∷ (8, 98) ∷ (9, 116) ∷ (10, 110) ∷ (12, 102) ∷ (13, 114) ∷ []

abbrev pub letter_in : List (ℕ × ℕ) → ℕ → Option ℕ
letter_in [] c = None
letter_in (row ∷ rows) c = if row.0 == c then Some row.1 else letter_in rows c

-- a hexadecimal digit, in small letters
abbrev pub hex_digit : ℕ → ℕ
hex_digit n = if nat_lt n 10 then n + 48 else n + 87

-- a control byte as \u and four digits; any other byte as it is
abbrev pub plain : ℕ → List ℕ
plain c = if nat_lt c 32 then codes "\\u00" ++ (hex_digit (c / 16) ∷ hex_digit (c % 16) ∷ []) else c ∷ []

abbrev pub escaped : ℕ → List ℕ
escaped c = option_map_or (λ letter. 92 ∷ letter ∷ []) (letter_in SHORT_FORMS c) (plain c)

-- a text between double quotes
abbrev pub quoted : List ℕ → List ℕ
quoted bytes = 34 ∷ (flat_map escaped bytes ++ 34 ∷ [])

-- a text that isn't UTF-8 is taken as the empty one
abbrev pub as_text : List ℕ → List ℕ
as_text bytes = if is_utf8 bytes then bytes else []

-- ---- what is said

-- the key of error lines, and of an analyzer by its number
abbrev pub key_text : ℕ → List ℕ
key_text zero = codes "types"
key_text (suc n) = analyzer_text (suc n)

-- an error line and a diagnostic as what is said, with this number
abbrev pub error_said : ℕ → ErrorLine → Said
error_said n e = record { «package» = e.package; key = 0; number = n; place = e.place; text = e.text }

abbrev pub diagnostic_said : ℕ → FoundLine → Said
diagnostic_said n l = record { «package» = l.package; key = l.diagnostic.analyzer; number = n; place = Some l.diagnostic.place; text = l.diagnostic.text }

-- error lines with their numbers from this one on
abbrev pub errors_said : ℕ → List ErrorLine → List Said
errors_said n [] = []
errors_said n (e ∷ es) = error_said n e ∷ errors_said (n + 1) es

-- diagnostics with their numbers from this one on
abbrev pub found_said : ℕ → List FoundLine → List Said
found_said n [] = []
found_said n (l ∷ ls) = diagnostic_said n l ∷ found_said (n + 1) ls

-- all that the reply says, numbered in its order
abbrev pub all_said : Reply → List Said
all_said r = errors_said 0 r.errors ++ found_said (length r.errors) r.diagnostics

-- by package, then by key, both in byte order, then in the order of the reply
abbrev pub said_order : Said → Said → Ordering
said_order =
    then_cmp (on (λ s. s.package) (slice_cmp nat_cmp))
    (then_cmp (on (λ s. key_text s.key) (slice_cmp nat_cmp))
    (on (λ s. s.number) nat_cmp))

-- ---- the line

-- where it stands is empty where it stands nowhere
abbrev pub said_json : List Entry → Said → List ℕ
said_json files s =
    codes "{\"message\":"
    ++ (quoted (as_text s.text) ++ (codes ",\"posn\":" ++ (quoted (option_map_or (place_text files) s.place []) ++ codes "}")))

abbrev pub key_opening : Said → List ℕ
key_opening s = quoted (key_text s.key) ++ codes ":["

abbrev pub package_opening : Said → List ℕ
package_opening s = quoted s.package ++ (codes ":{" ++ key_opening s)

-- what stands between two things that are said one after the other
abbrev pub between : Said → Said → List ℕ
between s t =
    if bytes_eq s.package t.package
    then (if bytes_eq (key_text s.key) (key_text t.key) then codes "," else codes "]," ++ key_opening t)
    else codes "]}," ++ package_opening t

-- the rest of the line, behind this one
abbrev pub json_behind : List Entry → Said → List Said → List ℕ
json_behind files s [] = codes "]}}\n"
json_behind files s (t ∷ ts) = between s t ++ (said_json files t ++ json_behind files t ts)

-- An object of packages, of objects of keys, of lists of what is said.
abbrev pub json_line : List Entry → List Said → List ℕ
json_line files [] = codes "{}\n"
json_line files (s ∷ ss) = codes "{" ++ (package_opening s ++ (said_json files s ++ json_behind files s ss))

-- the bytes are the line of all that the reply says, in order
pub record IsJsonLine (files : List Entry) (r : Reply) (bytes : List ℕ) : Type 0 where
  pub said : List Said
  pub all : IsPermutation (all_said r) said
  pub order : IsSorted said_order said
  pub line : bytes ≡ json_line files said

-- The reply as JSON: the limit line alone, or the line of all that it says.
pub record IsJson (files : List Entry) (r : Reply) (bytes : List ℕ) : Type 0 where
  pub over : option_map_or (λ l. limit_line l) r.limit bytes ≡ bytes
  pub within : r.limit ≡ None → IsJsonLine files r bytes
