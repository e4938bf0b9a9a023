use Rattle.std.proofs.Common.{All, subst, arith, refl}
use Rattle.std.proofs.lemmas.List.{take_all}
use Rattle.gv_driver.specs.Standing.{LiesWithin}
use Rattle.gv_driver.proofs.FoundInLaws.{holds-more}
use Rattle.gv_driver.proofs.standing.lie_in.Goals as goal

pub loop-edit-preserved : goal.loop-edit-preserved
loop-edit-preserved c = holds-more (LiesWithin c.args.size) c.args.edits.now c.loop-edit.edit-index c.edit-item.result c.loop-edit-test.true c.loop-edit.invariant c.edit-item.is (c.if-not-lies.ensures.0 refl)

pub returns : goal.returns
returns c = (
  λ _. subst (All (LiesWithin c.args.size)) (take_all c.loop-edit.edit-index c.args.edits.now (let f = c.loop-edit-test.false in omega (arith, f))) c.loop-edit.invariant,
  λ _. refl,
)
