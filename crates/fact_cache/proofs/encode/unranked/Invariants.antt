use Rattle.std.proofs.Common.{◌≡◌, ℕ, length}
use Rattle.fact_cache.specs.Ranked.{rank_at}
use Rattle.fact_cache.proofs.encode.unranked.Given as goal

abbrev pub invariant-loop : goal.invariant-loop
invariant-loop l = (length l.ranks.items ≡ l.counter) × ((n : ℕ) → rank_at l.ranks.items n ≡ 0)
