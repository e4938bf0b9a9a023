use Rattle.gv_driver.proofs.WaveSums.{no-jobs}
use Rattle.gv_driver.proofs.jobs.ready_jobs.Goals as goal

pub loop-at-init : goal.loop-at-init
loop-at-init c = no-jobs c.args.tree.now c.args.table.now c.new-jobs.result.items c.new-jobs.ensures.items
