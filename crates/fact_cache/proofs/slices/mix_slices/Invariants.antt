use Rattle.std.proofs.Common.{◌≡◌, drop, map}
use Rattle.fact_cache.specs.Spread.{mixed_texts}
use Rattle.fact_cache.proofs.slices.mix_slices.Given as goal

abbrev pub invariant-loop-text : goal.invariant-loop-text
invariant-loop-text l = mixed_texts l.fn.key l.hash (map (λ t. t.now) (drop l.text-index l.texts)) ≡ mixed_texts l.fn.key l.fn.seed (map (λ t. t.now) l.texts)
