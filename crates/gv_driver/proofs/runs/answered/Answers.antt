use Rattle.gv_driver.proofs.SoughtLaws.{none-in, nothing_asked}
use Rattle.gv_driver.proofs.runs.answered.Goals as goal

pub returns-then-is_empty-clause-filled : goal.returns-then-is_empty-clause-filled
returns-then-is_empty-clause-filled g c =
    nothing_asked c.args.load.now c.args.asked.now c.args.nodes.now.items (none-in c.args.asked.now c.is_empty.result c.is_empty.ensures c.if-is_empty.true)
