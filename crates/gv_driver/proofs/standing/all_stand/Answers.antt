use Rattle.std.proofs.Common.{All, subst, arith, refl}
use Rattle.std.proofs.lemmas.List.{take_all}
use Rattle.std.proofs.lemmas.List.Elements.{All-more}
use Rattle.gv_driver.specs.Standing.{Stands}
use Rattle.gv_driver.proofs.standing.all_stand.Goals as goal

pub loop-mark-preserved : goal.loop-mark-preserved
loop-mark-preserved c = All-more (Stands c.args.files.now) c.args.marks.now c.loop-mark.mark-index _ c.loop-mark-test.true c.loop-mark.invariant (c.if-not-stands.ensures.0 refl)

pub returns : goal.returns
returns c = (
  λ _. subst (All (Stands c.args.files.now)) (take_all c.loop-mark.mark-index c.args.marks.now (let f = c.loop-mark-test.false in omega (arith, f))) c.loop-mark.invariant,
  λ _. refl,
)
