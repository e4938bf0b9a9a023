use Rattle.std.proofs.Common.{refl}
use Rattle.fact_cache.proofs.NumberedLemmas.{taken-turn}
use Rattle.fact_cache.proofs.numbered.hold_all.Goals as goal

pub loop-text-preserved : goal.loop-text-preserved
loop-text-preserved c = (
  c.hold_one.ensures.mixed,
  taken-turn c.args.kept.now c.loop-text.kept c.hold_one.new.kept c.args.texts.now c.loop-text.text-index c.loop-text.numbers.items c.hold_one.new.numbers.items c.text-item.result c.text-item.result c.in-Ok._n
      c.loop-text.invariant.1 c.loop-text-test.true c.text-item.is refl c.in-Ok.ensures.held.0 c.in-Ok.ensures.held.1,
)
