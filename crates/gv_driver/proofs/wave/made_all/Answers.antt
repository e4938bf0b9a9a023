use Rattle.std.proofs.Common.{rules, arith, ◌≡◌, ◌≤◌, ◌<◌, ◌^◌, length}
use Rattle.gv_driver.specs.Waves.{AreJobs}
use Rattle.gv_driver.proofs.wave.made_all.Goals as goal

pub all_done-requires-clause-few : goal.all_done-requires-clause-few
all_done-requires-clause-few g c =
    let a : length c.args.jobs.now.items ≤ length c.args.tree.now = c.requires.jobs.few in
    let b : length c.args.tree.now < 2 ^ 32 = c.requires.few in
    omega (arith, a, b)

pub all_done-requires-clause-lawful : goal.all_done-requires-clause-lawful
all_done-requires-clause-lawful g c = λ κs _ k job h.
    let e = c.requires.jobs.each k job h in
    (e.0, record { tree_is = c.requires.tree; few = c.requires.few; table_is = c.requires.table; rows = c.requires.rows; ready = e.1 })

pub returns-in_err-made-clause-made : goal.returns-in_err-made-clause-made
returns-in_err-made-clause-made g c = let t = c.in_err-made.ensures.counted in record { costs = t.0; spent = t.1; loads = t.2 0; runs = t.2 1; answers = search rules }

pub returns-clause-made : goal.returns-clause-made
returns-clause-made g c = let t = c.in_ok-made.ensures.counted in record { costs = t.0; spent = t.1; loads = t.2 0; runs = t.2 1; answers = t.3 }
