use Rattle.std.proofs.Common.{All, subst, arith, refl}
use Rattle.std.proofs.lemmas.List.{take_all}
use Rattle.report_text.specs.Standing.{StandsIn}
use Rattle.report_text.proofs.TestLemmas.{stand-more}
use Rattle.report_text.proofs.stand.all_stand.Goals as goal

pub loop-error-preserved : goal.loop-error-preserved
loop-error-preserved c = stand-more c.args.files.now c.args.errors.now c.loop-error.error-index c.error-item.result c.loop-error-test.true c.loop-error.invariant c.error-item.is (c.if-not-stands.ensures.0 refl)

pub returns : goal.returns
returns c = (
  λ _. subst (All (StandsIn c.args.files.now)) (take_all c.loop-error.error-index c.args.errors.now (let f = c.loop-error-test.false in omega (arith, f))) c.loop-error.invariant,
  λ _. refl,
)
