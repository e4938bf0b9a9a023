use Rattle.std.proofs.Common.{◌≡◌, ◌≤◌, ◌+◌, length, arith}
use Rattle.gv_driver.proofs.RunNodeLaws.{fresh-more}
use Rattle.gv_driver.proofs.counts.fresh_count.Goals as goal

pub loop-run-preserved : goal.loop-run-preserved
loop-run-preserved c = record {
  sums = fresh-more c.args.runs.now c.loop-run.run-index c.run-item.result c.loop-run.count c.fresh_one-count.result c.loop-run-test.true c.run-item.is c.loop-run.invariant.sums c.fresh_one-count.ensures.value;
  small =
      let one : c.fresh_one-count.result ≤ 1 = c.fresh_one-count.ensures.small in
      let so_far : c.loop-run.count ≤ c.loop-run.run-index = c.loop-run.invariant.small in
      omega (arith, one, so_far);
}
