use Rattle.std.proofs.Common.{◌∙◌, sym}
use Rattle.fact_cache.proofs.CacheLemmas.{trimmed-within}
use Rattle.fact_cache.proofs.list.Cache.trim.Goals as goal

pub returns : goal.returns
returns c = sym (trimmed-within c.loop-self.self (sym c.is_within.ensures ∙ c.loop-self-test.false)) ∙ c.loop-self.invariant
