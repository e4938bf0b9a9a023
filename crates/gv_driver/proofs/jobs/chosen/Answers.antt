use Rattle.gv_driver.proofs.ChosenLaws.{none-chosen}
use Rattle.gv_driver.proofs.jobs.chosen.Goals as goal

pub loop-at-init : goal.loop-at-init
loop-at-init c = none-chosen c.args.tree.now c.args.table.now c.new-jobs.result.items c.new-jobs.ensures.items

pub returns : goal.returns
returns c = (c.loop-at.end, c.loop-at.invariant)
