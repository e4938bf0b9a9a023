use Rattle.fact_cache.proofs.DecodeLemmas.{one-cache}
use Rattle.fact_cache.proofs.laws.one_cache_of_a_text.Goals as goal

pub returns : goal.returns
returns c = one-cache
