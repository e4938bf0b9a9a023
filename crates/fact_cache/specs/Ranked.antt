-- Numbers by their first mention: how `encode` numbers the kept texts.
use Rattle.std.specs.Prelude.{◌≡◌, ℕ, ◌+◌, ◌-◌, ◌<◌, ◌≤◌, Some, List, map, length, slice_index_or}
use Rattle.fact_cache.specs.declared.numbered.Numbered.{Numbered}
use Rattle.fact_cache.specs.Coded.{rises}
use Rattle.fact_cache.specs.Numbered.{times}

-- one more than a place's number in the text, or 0 where it has none
abbrev pub rank_at : List ℕ → ℕ → ℕ
rank_at ranks n = slice_index_or ranks n 0

abbrev pub number_at : List ℕ → ℕ → ℕ
number_at ranks n = rank_at ranks n - 1

abbrev pub numbered_by : List ℕ → Numbered → Numbered
numbered_by ranks row = record { node = row.node; texts = map (number_at ranks) row.texts; outcome = number_at ranks row.outcome }

-- these are mentioned: each has a number, those are the places of `order`, and they rise
pub record IsNoted (ranks order mentioned : List ℕ) : Type 0 where
  pub ranked : (m : ℕ) → 0 < times m mentioned → 0 < rank_at ranks m
  pub placed : (m : ℕ) → 0 < rank_at ranks m → (rank_at ranks m ≤ length order) × (slice_index_or order (rank_at ranks m - 1) 0 ≡ m)
  pub back : (k : ℕ) → k < length order → rank_at ranks (slice_index_or order k 0) ≡ k + 1
  pub used : (k : ℕ) → k < length order → 0 < times (slice_index_or order k 0) mentioned
  pub risen : rises 0 (map (number_at ranks) mentioned) ≡ Some (length order)
