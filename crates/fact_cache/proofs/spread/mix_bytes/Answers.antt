use Rattle.std.proofs.Common.{◌/◌, length}
use Rattle.fact_cache.specs.Spread.{mixed_bytes}
use Rattle.fact_cache.proofs.SpreadLemmas.{words-step}
use Rattle.fact_cache.proofs.spread.mix_bytes.Goals as goal

pub loop-i-preserved : goal.loop-i-preserved
loop-i-preserved c = words-step c.args.point (length c.args.bytes.now / 7) c.loop-i._i c.loop-i.hash c.word_of.result c.mix-hash.result c.loop-i.rest.now c.after_word-rest.result.now
    (mixed_bytes c.args.point c.args.seed c.args.bytes.now) c.loop-i-test.true c.word_of.ensures c.mix-hash.ensures c.after_word-rest.ensures c.loop-i.invariant
