use Rattle.fact_cache.proofs.ValueLemmas.{AreSmall}
use Rattle.fact_cache.proofs.laws.each_cache_has_a_text.Given as goal

abbrev pub invariant-loop-at : goal.invariant-loop-at
invariant-loop-at l = AreSmall l.at l.cache
