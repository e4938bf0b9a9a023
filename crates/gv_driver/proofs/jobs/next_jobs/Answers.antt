use Rattle.std.proofs.Common.{◌≡◌, ◌<◌, length}
use Rattle.gv_driver.proofs.ChosenLaws.{chosen-are}
use Rattle.gv_driver.proofs.jobs.next_jobs.Goals as goal

pub returns-then-count_of-gt0 : goal.returns-then-count_of-gt0
returns-then-count_of-gt0 c =
    let some = c.in_ok-next.ensures in
    chosen-are c.args.tree.now c.args.table.now some.0 c.in_ok-next.next.items some.1 c.count_of.result c.count_of.ensures c.if-count_of-gt0.true
