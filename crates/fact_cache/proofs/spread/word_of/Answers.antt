use Rattle.std.proofs.Common.{◌∙◌}
use Rattle.fact_cache.proofs.SpreadLemmas.{word-front}
use Rattle.fact_cache.proofs.spread.word_of.Goals as goal

pub returns : goal.returns
returns c = c.word_in_front-2.ensures ∙ word-front c.args.bytes.now c.split_at.result.0.now c.split_at.ensures.front
