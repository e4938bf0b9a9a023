use Rattle.std.proofs.Common.{◌≡◌, true, false, All, subst, arith, refl}
use Rattle.std.proofs.lemmas.List.{take_all}
use Rattle.action_graph.specs.Standing.{IsFoundBy}
use Rattle.gv_driver.proofs.FoundInLaws.{found-back, found-to, holds-more, item-holds}
use Rattle.gv_driver.proofs.standing.all_found.Goals as goal

pub loop-one-preserved : goal.loop-one-preserved
loop-one-preserved c =
    holds-more (IsFoundBy c.args.files.now c.args.analyzer) c.args.found.now c.loop-one.one-index c.one-item.result c.loop-one-test.true c.loop-one.invariant c.one-item.is
    (found-to c.args.files.now c.args.analyzer c.one-item.result (c.if-not-is_found_by.ensures.0 refl))

pub returns-then-not-is_found_by : goal.returns-then-not-is_found_by
returns-then-not-is_found_by c = (
  λ h. (let e : false ≡ true = h in cc),
  λ all.
      c.if-not-is_found_by.ensures.1
      (found-back c.args.files.now c.args.analyzer c.one-item.result (item-holds (IsFoundBy c.args.files.now c.args.analyzer) c.args.found.now c.loop-one.one-index c.one-item.result c.loop-one-test.true c.one-item.is all)),
)

pub returns : goal.returns
returns c = (
  λ _. subst (All (IsFoundBy c.args.files.now c.args.analyzer)) (take_all c.loop-one.one-index c.args.found.now (let f = c.loop-one-test.false in omega (arith, f))) c.loop-one.invariant,
  λ _. refl,
)
