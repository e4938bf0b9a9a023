use Rattle.std.proofs.Common.{rules, ◌≡◌, ◌≤◌, ◌<◌, ◌^◌, refl, length, arith}
use Rattle.std.specs.Prelude.{IsTrue}
use Rattle.gv_driver.specs.Tables.{IsReady}
use Rattle.gv_driver.specs.Waves.{job_of}
use Rattle.gv_driver.proofs.WaveSums.{one-added, passed-by}
use Rattle.gv_driver.proofs.jobs.add_ready.Goals as goal

pub returns-then-not-is_ready : goal.returns-then-not-is_ready
returns-then-not-is_ready c =
    let unready : IsReady c.args.tree.now c.args.table.now c.args.at → ⊥ = λ r. (let ready : IsTrue c.is_ready.result = c.is_ready.ensures.1 r in let told = c.if-not-is_ready.true in absurd cc) in
    passed-by c.args.tree.now c.args.table.now c.args.at c.args.jobs.now.items c.requires.jobs unready

pub push_job-requires-clause-few : goal.push_job-requires-clause-few
push_job-requires-clause-few c =
    let few : length c.args.jobs.now.items ≤ c.args.at = c.requires.jobs.few in
    let at : c.args.at < length c.args.tree.now = c.requires.at in
    let most : length c.args.tree.now < 2 ^ 32 = c.requires.few in
    omega (arith, few, at, most)

pub returns : goal.returns
returns c =
    let ready : IsReady c.args.tree.now c.args.table.now c.args.at = search rules in
    one-added c.args.tree.now c.args.table.now c.args.at c.args.jobs.now.items c.requires.jobs (job_of (length c.args.jobs.now.items) c.args.at) c.push_job.new.jobs.items c.in_ok-push_job.ensures refl refl ready
