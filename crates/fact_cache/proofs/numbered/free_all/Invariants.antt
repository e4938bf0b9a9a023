use Rattle.std.proofs.Common.{◌≡◌, ℕ, ◌+◌, ◌<◌, drop}
use Rattle.fact_cache.specs.Kept.{uses_at, text_at, AreMixed}
use Rattle.fact_cache.specs.declared.spread.Key.{Key}
use Rattle.fact_cache.specs.Numbered.{times}
use Rattle.fact_cache.proofs.numbered.free_all.Given as goal

abbrev pub invariant-loop-n : goal.invariant-loop-n
invariant-loop-n l = ((m : ℕ) → uses_at l.initial.kept m + times m (drop l.n-index l.numbers) ≡ uses_at l.kept m + times m l.numbers) × ((m : ℕ) → 0 < uses_at l.kept m → text_at l.kept m ≡ text_at l.initial.kept m) × ((key : Key) → AreMixed key l.initial.kept → AreMixed key l.kept)
