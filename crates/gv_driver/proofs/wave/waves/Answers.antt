use Rattle.std.proofs.Common.{rules, ◌≡◌, ◌≤◌, ◌<◌, ◌+◌, ◌*◌, List, Option, length, sym, ap, ◌∙◌, subst, arith}
use Rattle.std.specs.Prelude.{sum_by}
use Rattle.gv_driver.specs.declared.node.Node.{Node}
use Rattle.gv_driver.specs.Tables.{waiting}
use Rattle.gv_driver.specs.Tallies.{tally}
use Rattle.gv_driver.proofs.StepLaws.{goes-on, goes-refl, stops-goes, stops-none, stops-on}
use Rattle.gv_driver.proofs.WaveLaws.{jobs-wait, none-ready}
use Rattle.gv_driver.proofs.WaveSums.{all-fewer, served-can, served-size}
use Rattle.gv_driver.proofs.GrownLaws.{grown-not, grown-on, grown-served}
use Rattle.gv_driver.specs.Waves.{AreJobs, CanDo}
use Rattle.gv_driver.proofs.wave.waves.Goals as goal

pub ready_jobs-requires-clause-size : goal.ready_jobs-requires-clause-size
ready_jobs-requires-clause-size g c = ap (λ (t : List (Option Node)). length t) c.deref.ensures.value ∙ c.requires.table.size

pub returns-in_err-importers-clause-stops : goal.returns-in_err-importers-clause-stops
returns-in_err-importers-clause-stops g c =
    let h = stops-none c.args.tree.now c.args.only c.args.cache.now c.args.table.now.items (tally (sum_by g.K.Kit.loads c.args.kits.now) (sum_by g.K.Kit.runs c.args.kits.now)) c.requires.table in
    search (rules, h)

pub returns-in_err-jobs-clause-stops : goal.returns-in_err-jobs-clause-stops
returns-in_err-jobs-clause-stops g c =
    let h = stops-none c.args.tree.now c.args.only c.args.cache.now c.args.table.now.items (tally (sum_by g.K.Kit.loads c.args.kits.now) (sum_by g.K.Kit.runs c.args.kits.now)) c.requires.table in
    search (rules, h)

pub loop-alloc-init : goal.loop-alloc-init
loop-alloc-init g c = record {
  goes = goes-refl c.args.tree.now c.args.only c.args.cache.now c.args.table.now.items (tally (sum_by g.K.Kit.loads c.args.kits.now) (sum_by g.K.Kit.runs c.args.kits.now)) c.requires.table;
  rows = c.requires.rows;
  jobs = subst (λ (t : List (Option Node)). AreJobs c.args.tree.now t (length c.args.tree.now) c.in_ok-jobs.jobs.items) c.deref.ensures.value c.in_ok-jobs.ensures;
  can = c.requires.can;
  some = c.requires.some;
  grown = grown-not g.K.Kit.loads g.K.Kit.runs c.args.kits.now;
}

pub wave-requires-clause-can : goal.wave-requires-clause-can
wave-requires-clause-can g c = λ κs _.
    let l = c.loop-alloc in
    let wait : length l.jobs.items ≤ waiting l.table.items = jobs-wait c.args.tree.now l.table.items (length c.args.tree.now) l.jobs.items l.invariant.jobs in
    let size : c.count_of.result ≡ length l.jobs.items = c.count_of.ensures in
    let more : 0 < c.count_of.result = c.loop-alloc-test.true in
    all-fewer g.K.Kit.holds g.K.Kit.loads g.K.Kit.runs (length l.jobs.items + 1) (2 * waiting l.table.items) l.kits (omega (arith, wait, size, more)) l.invariant.can

pub returns-in_err-wave-clause-stops : goal.returns-in_err-wave-clause-stops
returns-in_err-wave-clause-stops g c =
    let l = c.loop-alloc in
    let begun = tally (sum_by g.K.Kit.loads c.args.kits.now) (sum_by g.K.Kit.runs c.args.kits.now) in
    let count = tally (sum_by g.K.Kit.loads l.kits) (sum_by g.K.Kit.runs l.kits) in
    let now = tally (sum_by g.K.Kit.loads c.wave.new.kits) (sum_by g.K.Kit.runs c.wave.new.kits) in
    let h = stops-on c.args.tree.now c.args.only c.args.cache.now c.args.table.now.items l.table.items begun count now l.invariant.goes c.in_err-wave.ensures.stops in
    search (rules, h)

pub next_jobs-requires-clause-size : goal.next_jobs-requires-clause-size
next_jobs-requires-clause-size g c = ap (λ (t : List (Option Node)). length t) c.deref-in-loop-alloc.ensures.value ∙ c.in_ok-wave.ensures.goes.right.size

pub returns-in_err-jobs-2-clause-stops : goal.returns-in_err-jobs-2-clause-stops
returns-in_err-jobs-2-clause-stops g c =
    let l = c.loop-alloc in
    let begun = tally (sum_by g.K.Kit.loads c.args.kits.now) (sum_by g.K.Kit.runs c.args.kits.now) in
    let count = tally (sum_by g.K.Kit.loads l.kits) (sum_by g.K.Kit.runs l.kits) in
    let now = tally (sum_by g.K.Kit.loads c.wave.new.kits) (sum_by g.K.Kit.runs c.wave.new.kits) in
    let all = goes-on c.args.tree.now c.args.only c.args.cache.now c.args.table.now.items l.table.items c.wave.new.table.items begun count now l.invariant.goes c.in_ok-wave.ensures.goes in
    let h = stops-goes c.args.tree.now c.args.only c.args.cache.now c.args.table.now.items c.wave.new.table.items begun now all in
    search (rules, h)

pub loop-alloc-preserved : goal.loop-alloc-preserved
loop-alloc-preserved g c =
    let l = c.loop-alloc in
    let tree = c.args.tree.now in
    let next = c.wave.new.table.items in
    let kits = c.wave.new.kits in
    let begun = tally (sum_by g.K.Kit.loads c.args.kits.now) (sum_by g.K.Kit.runs c.args.kits.now) in
    let count = tally (sum_by g.K.Kit.loads l.kits) (sum_by g.K.Kit.runs l.kits) in
    let now = tally (sum_by g.K.Kit.loads kits) (sum_by g.K.Kit.runs kits) in
    let size : c.count_of.result ≡ length l.jobs.items = c.count_of.ensures in
    let more : 0 < c.count_of.result = c.loop-alloc-test.true in
    let put : waiting next + length l.jobs.items ≡ waiting l.table.items = c.in_ok-wave.ensures.put in
    let same : length kits ≡ length l.kits = served-size g.K.Kit.holds g.K.Kit.loads g.K.Kit.runs (length l.jobs.items + 1) l.kits kits c.in_ok-wave.ensures.can in
    let some : 0 < length l.kits = l.invariant.some in
    record {
      goes = goes-on tree c.args.only c.args.cache.now c.args.table.now.items l.table.items next begun count now l.invariant.goes c.in_ok-wave.ensures.goes;
      rows = c.in_ok-wave.ensures.rows;
      jobs = subst (λ (t : List (Option Node)). AreJobs tree t (length tree) c.in_ok-jobs-2.jobs.items) c.deref-in-loop-alloc.ensures.value c.in_ok-jobs-2.ensures;
      can = served-can g.K.Kit.holds g.K.Kit.loads g.K.Kit.runs (2 * waiting next) (2 * waiting l.table.items) (length l.jobs.items + 1) l.kits kits (omega (arith, size, more, put)) c.in_ok-wave.ensures.can l.invariant.can;
      some = omega (arith, same, some);
      grown = grown-on g.K.Kit.loads g.K.Kit.runs c.args.kits.now l.kits kits l.invariant.grown (grown-served g.K.Kit.loads g.K.Kit.runs (CanDo g.K.Kit.holds g.K.Kit.loads g.K.Kit.runs) (length l.jobs.items + 1) l.kits kits c.in_ok-wave.ensures.can);
    }

pub loop-alloc-smaller : goal.loop-alloc-smaller
loop-alloc-smaller g c =
    let l = c.loop-alloc in
    let size : c.count_of.result ≡ length l.jobs.items = c.count_of.ensures in
    let more : 0 < c.count_of.result = c.loop-alloc-test.true in
    let put : waiting c.wave.new.table.items + length l.jobs.items ≡ waiting l.table.items = c.in_ok-wave.ensures.put in
    omega (arith, size, more, put)

pub returns-clause-done : goal.returns-clause-done
returns-clause-done g c =
    let l = c.loop-alloc in
    let size : c.count_of.result ≡ length l.jobs.items = c.count_of.ensures in
    let ended : c.count_of.result ≤ 0 = c.loop-alloc-test.false in
    none-ready c.args.tree.now l.table.items l.jobs.items l.invariant.jobs (omega (arith, size, ended))

pub returns-in_err-importers-clause-least : goal.returns-in_err-importers-clause-least
returns-in_err-importers-clause-least g c = grown-not g.K.Kit.loads g.K.Kit.runs c.args.kits.now

pub returns-in_err-jobs-clause-least : goal.returns-in_err-jobs-clause-least
returns-in_err-jobs-clause-least g c = grown-not g.K.Kit.loads g.K.Kit.runs c.args.kits.now

pub returns-in_err-wave-clause-least : goal.returns-in_err-wave-clause-least
returns-in_err-wave-clause-least g c =
    let l = c.loop-alloc in
    grown-on g.K.Kit.loads g.K.Kit.runs c.args.kits.now l.kits c.wave.new.kits l.invariant.grown
    (grown-served g.K.Kit.loads g.K.Kit.runs (CanDo g.K.Kit.holds g.K.Kit.loads g.K.Kit.runs) (length l.jobs.items + 1) l.kits c.wave.new.kits c.wave.ensures.can)

pub returns-in_err-jobs-2-clause-least : goal.returns-in_err-jobs-2-clause-least
returns-in_err-jobs-2-clause-least g c =
    let l = c.loop-alloc in
    grown-on g.K.Kit.loads g.K.Kit.runs c.args.kits.now l.kits c.wave.new.kits l.invariant.grown
    (grown-served g.K.Kit.loads g.K.Kit.runs (CanDo g.K.Kit.holds g.K.Kit.loads g.K.Kit.runs) (length l.jobs.items + 1) l.kits c.wave.new.kits c.wave.ensures.can)

pub returns-clause-least : goal.returns-clause-least
returns-clause-least g c = c.loop-alloc.invariant.grown
