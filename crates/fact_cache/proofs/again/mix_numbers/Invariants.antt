use Rattle.std.proofs.Common.{◌≡◌, drop, map}
use Rattle.fact_cache.specs.Spread.{mixed_texts}
use Rattle.fact_cache.specs.Kept.{text_at}
use Rattle.fact_cache.proofs.again.mix_numbers.Given as goal

abbrev pub invariant-loop-n : goal.invariant-loop-n
invariant-loop-n l = mixed_texts l.fn.key l.hash (map (text_at l.kept) (drop l.n-index l.numbers)) ≡ mixed_texts l.fn.key l.fn.seed (map (text_at l.kept) l.numbers)
