-- Entries as rows of the numbers of kept texts, and the condition of a cache.
use Rattle.std.specs.Prelude.{◌≡◌, ℕ, ◌+◌, ◌<◌, List, [], ◌∷◌, ◌++◌, map}
use Rattle.std.specs.List.{flat_map}
use Rattle.fact_cache.specs.declared.texts.Input.{Input}
use Rattle.fact_cache.specs.declared.list.Entry.{Entry}
use Rattle.fact_cache.specs.declared.spread.Key.{Key}
use Rattle.fact_cache.specs.declared.kept.Place.{Place}
use Rattle.fact_cache.specs.declared.numbered.Numbered.{Numbered}
use Rattle.fact_cache.specs.Inputs.{Text}
use Rattle.fact_cache.specs.Spread.{bucket_of}
use Rattle.fact_cache.specs.Kept.{uses_at, text_at, one_at, AreMixed}
use Rattle.fact_cache.specs.Caches.{AreDistinct}

abbrev pub input_in : List Place → Numbered → Input
input_in kept row = record { node = row.node; texts = map (text_at kept) row.texts }

abbrev pub entry_in : List Place → Numbered → Entry
entry_in kept row = record { input = input_in kept row; outcome = text_at kept row.outcome }

-- the numbers that a row mentions
abbrev pub numbers_of : Numbered → List ℕ
numbers_of row = row.texts ++ row.outcome ∷ []

-- how often a number stands in a list
abbrev pub times : ℕ → List ℕ → ℕ
times m [] = 0
times m (n ∷ ns) = one_at n m + times m ns

-- the same uses, and the same text where there are any
pub record IsLike (old new : List Place) : Type 0 where
  pub uses : (m : ℕ) → uses_at new m ≡ uses_at old m
  pub same : (m : ℕ) → 0 < uses_at old m → text_at new m ≡ text_at old m

-- these texts are held by these numbers
pub record AreTaken (old new : List Place) (texts : List Text) (numbers : List ℕ) : Type 0 where
  pub spelled : map (text_at new) numbers ≡ texts
  pub more : (m : ℕ) → uses_at new m ≡ times m numbers + uses_at old m
  pub same : (m : ℕ) → 0 < uses_at old m → text_at new m ≡ text_at old m

-- and let go
pub record AreFreed (old new : List Place) (numbers : List ℕ) : Type 0 where
  pub less : (m : ℕ) → uses_at old m ≡ times m numbers + uses_at new m
  pub same : (m : ℕ) → 0 < uses_at new m → text_at new m ≡ text_at old m

abbrev pub entry_bucket : Key → Entry → ℕ
entry_bucket key e = bucket_of key e.input

-- Each kept text is used as often as the rows mention it, and as `more` has it, and each row is found from its
-- input's bucket.
pub record IsCache (key : Key) (more : List ℕ) (kept : List Place) (index : List ℕ) (rows : List Numbered) : Type 0 where
  pub uses : (m : ℕ) → uses_at kept m ≡ times m (flat_map numbers_of rows) + times m more
  pub mixed : AreMixed key kept
  pub keyed : index ≡ map (entry_bucket key) (map (entry_in kept) rows)
  pub distinct : AreDistinct (map (entry_in kept) rows)
