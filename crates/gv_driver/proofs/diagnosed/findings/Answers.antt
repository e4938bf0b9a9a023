use Rattle.gv_driver.proofs.FindingLaws.{found-none}
use Rattle.gv_driver.proofs.diagnosed.findings.Goals as goal

pub loop-p-init : goal.loop-p-init
loop-p-init c = rw c.new-list.ensures.items (found-none c.args.tree.now c.args.table.now)
