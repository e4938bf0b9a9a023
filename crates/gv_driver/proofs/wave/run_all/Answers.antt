use Rattle.std.proofs.Common.{rules, arith, ◌≡◌, ◌≤◌, ◌<◌, ◌*◌, ◌^◌, ◌∙◌, ℕ, List, length, map, sym, ap, ap₂, subst}
use Rattle.std.specs.Prelude.{sum_by}
use Rattle.std.proofs.lemmas.List.{length-map}
use Rattle.gv_driver.specs.Runs.{Goes, Stops}
use Rattle.gv_driver.specs.Tables.{waiting}
use Rattle.gv_driver.specs.Tallies.{Tally, tally}
use Rattle.gv_driver.proofs.WaveSums.{cleared-can, map-sum}
use Rattle.gv_driver.proofs.GrownLaws.{grown-on, grown-same}
use Rattle.gv_driver.proofs.wave.run_all.Goals as goal

pub waves-requires-clause-few : goal.waves-requires-clause-few
waves-requires-clause-few g c = let few : length c.args.tree.now < 2 ^ 28 = c.requires.few in omega (arith, few)

pub waves-requires-clause-some : goal.waves-requires-clause-some
waves-requires-clause-some g c =
    let kits = c.args.kits.now in
    let now = c.clear_all.new.kits in
    let a : length (map g.K.Kit.loads now) ≡ length now = length-map now g.K.Kit.loads in
    let b : length (map g.K.Kit.loads kits) ≡ length kits = length-map kits g.K.Kit.loads in
    let same : length (map g.K.Kit.loads now) ≡ length (map g.K.Kit.loads kits) = ap (λ (l : List ℕ). length l) c.clear_all.ensures.loads in
    let some : 0 < length kits = c.requires.some in
    omega (arith, a, b, same, some)

pub waves-requires-clause-can : goal.waves-requires-clause-can
waves-requires-clause-can g c = λ κs _.
    let few : length c.args.tree.now < 2 ^ 28 = c.requires.few in
    let waits : waiting c.args.table.now.items ≡ length c.args.tree.now = c.requires.waits in
    cleared-can g.K.Kit.holds g.K.Kit.loads g.K.Kit.runs (2 * waiting c.args.table.now.items) c.args.kits.now c.clear_all.new.kits (omega (arith, few, waits))
    c.clear_all.ensures.holds c.clear_all.ensures.loads c.clear_all.ensures.runs c.requires.loads c.requires.runs

pub returns-in_err-waves-clause-stops : goal.returns-in_err-waves-clause-stops
returns-in_err-waves-clause-stops g c =
    let same = ap₂ tally (map-sum g.K.Kit.holds g.K.Kit.loads g.K.Kit.runs g.K.Kit.loads c.args.kits.now c.clear_all.new.kits c.clear_all.ensures.loads) (map-sum g.K.Kit.holds g.K.Kit.loads g.K.Kit.runs g.K.Kit.runs c.args.kits.now c.clear_all.new.kits c.clear_all.ensures.runs) in
    let now = tally (sum_by g.K.Kit.loads c.waves.new.kits) (sum_by g.K.Kit.runs c.waves.new.kits) in
    let h = subst (λ (count : Tally). Stops c.args.tree.now c.args.only c.args.cache.now c.args.table.now.items count now) same c.in_err-waves.ensures.stops in
    search (rules, h)

pub returns-clause-goes : goal.returns-clause-goes
returns-clause-goes g c =
    let same = ap₂ tally (map-sum g.K.Kit.holds g.K.Kit.loads g.K.Kit.runs g.K.Kit.loads c.args.kits.now c.clear_all.new.kits c.clear_all.ensures.loads) (map-sum g.K.Kit.holds g.K.Kit.loads g.K.Kit.runs g.K.Kit.runs c.args.kits.now c.clear_all.new.kits c.clear_all.ensures.runs) in
    let now = tally (sum_by g.K.Kit.loads c.waves.new.kits) (sum_by g.K.Kit.runs c.waves.new.kits) in
    subst (λ (count : Tally). Goes c.args.tree.now c.args.only c.args.cache.now c.args.table.now.items c.waves.new.table.items count now) same c.in_ok-waves.ensures.goes

pub returns-in_err-waves-clause-least : goal.returns-in_err-waves-clause-least
returns-in_err-waves-clause-least g c =
    grown-on g.K.Kit.loads g.K.Kit.runs c.args.kits.now c.clear_all.new.kits c.waves.new.kits
    (grown-same g.K.Kit.loads g.K.Kit.runs c.args.kits.now c.clear_all.new.kits c.clear_all.ensures.loads c.clear_all.ensures.runs) c.waves.ensures.least

pub returns-clause-least : goal.returns-clause-least
returns-clause-least g c =
    grown-on g.K.Kit.loads g.K.Kit.runs c.args.kits.now c.clear_all.new.kits c.waves.new.kits
    (grown-same g.K.Kit.loads g.K.Kit.runs c.args.kits.now c.clear_all.new.kits c.clear_all.ensures.loads c.clear_all.ensures.runs) c.waves.ensures.least
