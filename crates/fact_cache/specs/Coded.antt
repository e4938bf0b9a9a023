-- The text of a cache before its numbers are read as texts: the distinct texts, and rows of their numbers.
use Rattle.std.specs.Prelude.{◌≡◌, ◌==◌, ℕ, ◌+◌, ◌-◌, ◌<◌, ◌^◌, Option, Some, None, List, [], ◌∷◌, ◌++◌, map, length, take, drop, slice_index_or, nat_lt, if◌then◌else◌}
use Rattle.std.specs.Str.{bytes_eq}
use Rattle.std.specs.List.{flat_map}
use Rattle.gv_bytes.specs.Spelling.{natural, text, items}
use Rattle.gv_bytes.specs.Reading.{◌>>=◌, natural_at, text_at, items_at}
use Rattle.fact_cache.specs.declared.list.Entry.{Entry}
use Rattle.fact_cache.specs.declared.numbered.Numbered.{Numbered}
use Rattle.fact_cache.specs.Inputs.{Text}
use Rattle.fact_cache.specs.Caches.{AreDistinct}
use Rattle.fact_cache.specs.CacheTexts.{HEADER, number_in}
use Rattle.fact_cache.specs.Numbered.{numbers_of}

abbrev pub row_text : Numbered → List ℕ
row_text row = natural row.node ++ items natural row.texts ++ natural row.outcome

abbrev pub coded_text : List Text → List Numbered → List ℕ
coded_text texts rows = HEADER ++ items text texts ++ items row_text rows

-- a row whose numbers are those of texts, and an entry whose texts are those of numbers
abbrev pub coded : List Text → Entry → Numbered
coded texts e = record { node = e.input.node; texts = map (number_in texts) e.input.texts; outcome = number_in texts e.outcome }

abbrev pub nth : List Text → ℕ → Text
nth texts n = slice_index_or texts n []

abbrev pub entry_by : (ℕ → Text) → Numbered → Entry
entry_by f row = record { input = record { node = row.node; texts = map f row.texts }; outcome = f row.outcome }

abbrev pub decoded : List Text → Numbered → Entry
decoded texts row = entry_by (nth texts) row

-- what reading gives: a row, and the texts and rows of all bytes
unfoldable pub row_at : List ℕ → Option (Numbered × List ℕ)
row_at bytes = do
  node ← natural_at 255 bytes
  texts ← items_at (natural_at (2 ^ 64 - 1)) node.1
  outcome ← natural_at (2 ^ 64 - 1) texts.1
  Some (record { node = node.0; texts = texts.0; outcome = outcome.0 }, outcome.1)

unfoldable pub header_at : List ℕ → Option (List ℕ)
header_at bytes = if nat_lt (length bytes) 10 then None else if bytes_eq (take 10 bytes) HEADER then Some (drop 10 bytes) else None

unfoldable pub coded_of : List ℕ → Option (List Text × List Numbered)
coded_of bytes = do
  rest ← header_at bytes
  texts ← items_at text_at rest
  rows ← items_at row_at texts.1
  if length rows.1 == 0 then Some (texts.0, rows.0) else None

-- each number is below the next, or the next, which rises then
abbrev pub rises : ℕ → List ℕ → Option ℕ
rises next [] = Some next
rises next (n ∷ ns) = if nat_lt n next then rises next ns else if n == next then rises (next + 1) ns else None

-- The same with the count at hand, so that no number rises above it.
abbrev pub climb : ℕ → ℕ → ℕ → Option ℕ
climb count next n = if nat_lt n next then Some next else if nat_lt next n then None else if nat_lt n count then Some (next + 1) else None

abbrev pub climbs : ℕ → ℕ → List ℕ → Option ℕ
climbs count next [] = Some next
climbs count next (n ∷ ns) = climb count next n >>= λ k. climbs count k ns

abbrev pub climbs_rows : ℕ → ℕ → List Numbered → Option ℕ
climbs_rows count next [] = Some next
climbs_rows count next (r ∷ rs) = climbs count next r.texts >>= λ k. climb count k r.outcome >>= λ j. climbs_rows count j rs

-- the numbers are those of first mentions, and each text is mentioned
abbrev pub IsInOrder : List Text → List Numbered → Type 0
IsInOrder texts rows = rises 0 (flat_map numbers_of rows) ≡ Some (length texts)

-- no two texts are equal
abbrev pub AreApart : List Text → Type 0
AreApart texts = (a b : ℕ) → a < length texts → b < length texts → nth texts a ≡ nth texts b → a ≡ b

-- texts and rows that are those of a cache
pub record AreCoded (texts : List Text) (rows : List Numbered) : Type 0 where
  pub apart : AreApart texts
  pub order : IsInOrder texts rows
  pub distinct : AreDistinct (map (decoded texts) rows)
