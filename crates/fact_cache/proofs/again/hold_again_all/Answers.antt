use Rattle.std.proofs.Common.{map, take}
use Rattle.fact_cache.specs.Kept.{text_at}
use Rattle.fact_cache.proofs.AgainLemmas.{again-used, again-turn}
use Rattle.fact_cache.proofs.again.hold_again_all.Goals as goal

pub hold_again-requires : goal.hold_again-requires
hold_again-requires c =
    again-used c.args.kept.now c.loop-i.kept (map (text_at c.args.kept.now) (take c.loop-i.i c.args.numbers.now)) (take c.loop-i.i c.args.numbers.now) c.args.numbers.now c.loop-i.i c.number_at-n.result
    c.loop-i.invariant.0 c.requires.used c.loop-i-test.true c.number_at-n.ensures

pub loop-i-preserved : goal.loop-i-preserved
loop-i-preserved c = (
  again-turn c.args.kept.now c.loop-i.kept c.hold_again.new.self c.args.numbers.now c.loop-i.i c.number_at-n.result
      c.loop-i.invariant.0 c.requires.used c.loop-i-test.true c.number_at-n.ensures c.in_ok-hold_again.ensures.held,
  λ key mixed. c.hold_again.ensures.mixed key (c.loop-i.invariant.1 key mixed),
)
