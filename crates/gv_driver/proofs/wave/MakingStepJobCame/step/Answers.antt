use Rattle.std.proofs.Common.{rules}
use Rattle.gv_driver.specs.Tallies.{tally}
use Rattle.gv_driver.proofs.WaveSums.{came-told}
use Rattle.gv_driver.proofs.wave.MakingStepJobCame.step.Goals as goal

pub returns-clause-took : goal.returns-clause-took
returns-clause-took g c =
    let s = c.args.self.now in
    let count = tally (g.K.Kit.loads c.args.worker.now) (g.K.Kit.runs c.args.worker.now) in
    let now = tally (g.K.Kit.loads c.perform-made.new.kit) (g.K.Kit.runs c.perform-made.new.kit) in
    let e = c.perform-made.ensures in
    came-told s.tree.now s.only s.cache.now s.table.now c.args.job.now.at count now e.least c.perform-made.result c.as_told.result c.as_told.ensures e.performs e.row e.begun e.circle
