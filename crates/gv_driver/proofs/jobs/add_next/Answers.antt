use Rattle.std.proofs.Common.{rules, ◌≡◌, ◌≤◌, ◌<◌, ◌^◌, length, arith}
use Rattle.gv_driver.specs.Tables.{IsReady}
use Rattle.gv_driver.proofs.ChosenLaws.{chosen-added}
use Rattle.gv_driver.proofs.jobs.add_next.Goals as goal

pub push_job-requires-clause-few : goal.push_job-requires-clause-few
push_job-requires-clause-few c =
    let few : length c.args.jobs.now.items ≤ c.args.end = c.requires.jobs.few in
    let low : c.args.end ≤ c.args.at = c.if-at-end.false in
    let at : c.args.at < length c.args.tree.now = c.if-at-tree.false in
    let most : length c.args.tree.now < 2 ^ 32 = c.requires.few in
    omega (arith, few, low, at, most)

pub returns : goal.returns
returns c =
    let low : c.args.end ≤ c.args.at = c.if-at-end.false in
    let at : c.args.at < length c.args.tree.now = c.if-at-tree.false in
    let ready : IsReady c.args.tree.now c.args.table.now c.args.at = search rules in
    chosen-added c.args.tree.now c.args.table.now c.args.end c.args.jobs.now.items c.requires.jobs c.args.at c.push_job.new.jobs.items low at ready c.in_ok-push_job.ensures
