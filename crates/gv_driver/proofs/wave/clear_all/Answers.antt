use Rattle.std.proofs.Common.{◌≡◌, ◌<◌, ◌≤◌, ◌∙◌, Some, length, slice_get, get_or, refl, arith}
use Rattle.std.proofs.Math.ListN.{length-set}
use Rattle.std.proofs.lemmas.Option.{slice_get-get_or, slice_get_within}
use Rattle.gv_driver.proofs.WaveSums.{all-set, map-set}
use Rattle.gv_driver.proofs.wave.clear_all.Goals as goal

pub loop-k-init : goal.loop-k-init
loop-k-init g c = record { size = refl; holds = λ j kit l at. absurd (omega (arith, l)); loads = refl; runs = refl }

pub loop-k-preserved : goal.loop-k-preserved
loop-k-preserved g c =
    let kits = c.loop-k.kits in
    let k = c.loop-k.k in
    let v = c.clear.new.self in
    let w = get_or kits k c.index-kits-k.result in
    let same : length kits ≡ length c.args.kits.now = c.loop-k.auto.kits in
    let test : k < length c.args.kits.now = c.loop-k-test.true in
    let low : k < length kits = omega (arith, same, test) in
    let at : slice_get kits k ≡ Some w = slice_get-get_or kits k c.index-kits-k.result low in
    record {
      size = length-set kits k v ∙ c.loop-k.invariant.size;
      holds = all-set g.K.Kit.holds kits k v low c.clear.ensures.holds c.loop-k.invariant.holds;
      loads = map-set g.K.Kit.loads kits k w v at c.clear.ensures.loads ∙ c.loop-k.invariant.loads;
      runs = map-set g.K.Kit.runs kits k w v at c.clear.ensures.runs ∙ c.loop-k.invariant.runs;
    }

pub returns-clause-holds : goal.returns-clause-holds
returns-clause-holds g c = λ j kit at.
    let same : length c.loop-k.kits ≡ length c.args.kits.now = c.loop-k.auto.kits in
    let test : length c.args.kits.now ≤ c.loop-k.k = c.loop-k-test.false in
    let inside : j < length c.loop-k.kits = slice_get_within c.loop-k.kits j kit at in
    c.loop-k.invariant.holds j kit (omega (arith, same, test, inside)) at
