-- Rows whose numbers lead to places by a list, as the rows of a text do.
use Rattle.std.specs.Prelude.{◌≡◌, ℕ, ◌<◌, List, [], ◌∷◌, ◌++◌, map, slice_index_or}
use Rattle.fact_cache.specs.declared.spread.Key.{Key}
use Rattle.fact_cache.specs.declared.kept.Place.{Place}
use Rattle.fact_cache.specs.declared.numbered.Numbered.{Numbered}
use Rattle.fact_cache.specs.Inputs.{Text}
use Rattle.fact_cache.specs.Kept.{text_at, IsHeld}
use Rattle.fact_cache.specs.Numbered.{entry_in, times, IsCache}

abbrev pub place_at : List ℕ → ℕ → ℕ
place_at places n = slice_index_or places n 0

abbrev pub placed : List ℕ → Numbered → Numbered
placed places row = record { node = row.node; texts = map (place_at places) row.texts; outcome = place_at places row.outcome }

abbrev pub AreBelow : ℕ → List ℕ → Type 0
AreBelow count numbers = (m : ℕ) → 0 < times m numbers → m < count

-- one place more, which holds the text
abbrev pub IsHeldNext : List Place → List Place → Text → List ℕ → List ℕ → Type 0
IsHeldNext old new text before after = (n : ℕ) × (held : IsHeld old new text n) × (after ≡ before ++ n ∷ [])

-- an entry more, while `places` are held beside the entries
pub record IsPut (key : Key) (places : List ℕ) (old new : List Place) (index : List ℕ) (before after : List Numbered) (row : Numbered) : Type 0 where
  pub cache : IsCache key places new index after
  pub entries : map (entry_in new) after ≡ map (entry_in old) before ++ entry_in old row ∷ []
  pub same : map (text_at new) places ≡ map (text_at old) places
