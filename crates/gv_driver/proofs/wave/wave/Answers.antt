use Rattle.std.proofs.Common.{rules, ◌≡◌, List, Option, length, sym, ap, ◌∙◌, subst}
use Rattle.std.specs.Prelude.{sum_by}
use Rattle.gv_driver.specs.declared.node.Node.{Node}
use Rattle.gv_driver.specs.Tables.{AreRows, IsTable}
use Rattle.gv_driver.specs.Tallies.{tally}
use Rattle.gv_driver.specs.Waves.{AllWithin, AreJobs, AreMade}
use Rattle.gv_driver.proofs.WaveLaws.{all-within, wave-circle, wave-goes, wave-rows, wave-stops, wave-waits}
use Rattle.gv_driver.proofs.wave.wave.Goals as goal

pub made_all-requires-clause-table : goal.made_all-requires-clause-table
made_all-requires-clause-table g c = λ κs _. subst (λ (t : List (Option Node)). IsTable c.args.tree.now c.args.only c.args.cache.now t) (sym c.deref.ensures.value) c.requires.table

pub made_all-requires-clause-rows : goal.made_all-requires-clause-rows
made_all-requires-clause-rows g c = λ κs _. subst (λ (t : List (Option Node)). AreRows c.args.tree.now c.args.cache.now t) (sym c.deref.ensures.value) c.requires.rows

pub made_all-requires-clause-jobs : goal.made_all-requires-clause-jobs
made_all-requires-clause-jobs g c = λ κs _. subst (λ (t : List (Option Node)). AreJobs c.args.tree.now t (length c.args.tree.now) c.args.jobs.now.items) (sym c.deref.ensures.value) c.requires.jobs

pub returns-in_err-made-clause-stops : goal.returns-in_err-made-clause-stops
returns-in_err-made-clause-stops g c =
    let tree = c.args.tree.now in
    let table = c.args.table.now.items in
    let jobs = c.args.jobs.now.items in
    let count = tally (sum_by g.K.Kit.loads c.args.kits.now) (sum_by g.K.Kit.runs c.args.kits.now) in
    let now = tally (sum_by g.K.Kit.loads c.made_all.new.kits) (sum_by g.K.Kit.runs c.made_all.new.kits) in
    let made = subst (λ (t : List (Option Node)). AreMade tree c.args.only c.args.cache.now t jobs count now c.made_all.result) c.deref.ensures.value c.made_all.ensures.made in
    let h = wave-stops tree c.args.only c.args.cache.now table jobs count now c.made_all.result c.requires.table c.requires.rows c.requires.jobs made in
    search (rules, h)

pub put_each-requires : goal.put_each-requires
put_each-requires g c =
    let tree = c.args.tree.now in
    let table = c.args.table.now.items in
    let jobs = c.args.jobs.now.items in
    let count = tally (sum_by g.K.Kit.loads c.args.kits.now) (sum_by g.K.Kit.runs c.args.kits.now) in
    let now = tally (sum_by g.K.Kit.loads c.made_all.new.kits) (sum_by g.K.Kit.runs c.made_all.new.kits) in
    let made = subst (λ (t : List (Option Node)). AreMade tree c.args.only c.args.cache.now t jobs count now c.made_all.result) c.deref.ensures.value c.made_all.ensures.made in
    all-within tree c.args.only c.args.cache.now table jobs count now c.made_all.result c.requires.table c.requires.rows c.requires.jobs made c.in_ok-made.made c.in_ok-made.was

pub returns-in_err-put_each-clause-stops : goal.returns-in_err-put_each-clause-stops
returns-in_err-put_each-clause-stops g c =
    let tree = c.args.tree.now in
    let table = c.args.table.now.items in
    let jobs = c.args.jobs.now.items in
    let count = tally (sum_by g.K.Kit.loads c.args.kits.now) (sum_by g.K.Kit.runs c.args.kits.now) in
    let now = tally (sum_by g.K.Kit.loads c.made_all.new.kits) (sum_by g.K.Kit.runs c.made_all.new.kits) in
    let made = subst (λ (t : List (Option Node)). AreMade tree c.args.only c.args.cache.now t jobs count now c.made_all.result) c.deref.ensures.value c.made_all.ensures.made in
    let h = wave-stops tree c.args.only c.args.cache.now table jobs count now c.made_all.result c.requires.table c.requires.rows c.requires.jobs made in
    search (rules, h)

pub returns-in_err-put_each-clause-circle : goal.returns-in_err-put_each-clause-circle
returns-in_err-put_each-clause-circle g c =
    let tree = c.args.tree.now in
    let table = c.args.table.now.items in
    let jobs = c.args.jobs.now.items in
    let count = tally (sum_by g.K.Kit.loads c.args.kits.now) (sum_by g.K.Kit.runs c.args.kits.now) in
    let now = tally (sum_by g.K.Kit.loads c.made_all.new.kits) (sum_by g.K.Kit.runs c.made_all.new.kits) in
    let made = subst (λ (t : List (Option Node)). AreMade tree c.args.only c.args.cache.now t jobs count now c.made_all.result) c.deref.ensures.value c.made_all.ensures.made in
    λ _. wave-circle tree c.args.only c.args.cache.now table jobs count now c.made_all.result c.requires.table c.requires.rows c.requires.jobs made c.in_ok-made.made c.in_ok-made.was c.in_err-put_each.ensures.stuck.0

pub returns-clause-goes : goal.returns-clause-goes
returns-clause-goes g c =
    let tree = c.args.tree.now in
    let table = c.args.table.now.items in
    let jobs = c.args.jobs.now.items in
    let count = tally (sum_by g.K.Kit.loads c.args.kits.now) (sum_by g.K.Kit.runs c.args.kits.now) in
    let now = tally (sum_by g.K.Kit.loads c.made_all.new.kits) (sum_by g.K.Kit.runs c.made_all.new.kits) in
    let made = subst (λ (t : List (Option Node)). AreMade tree c.args.only c.args.cache.now t jobs count now c.made_all.result) c.deref.ensures.value c.made_all.ensures.made in
    wave-goes tree c.args.only c.args.cache.now table jobs count now c.made_all.result c.requires.table c.requires.rows c.requires.jobs made c.in_ok-made.made c.in_ok-made.was c.put_each.new.table.items c.in_ok-put_each.ensures.put.0 c.in_ok-put_each.ensures.put.1

pub returns-clause-put : goal.returns-clause-put
returns-clause-put g c =
    let tree = c.args.tree.now in
    let table = c.args.table.now.items in
    let jobs = c.args.jobs.now.items in
    let count = tally (sum_by g.K.Kit.loads c.args.kits.now) (sum_by g.K.Kit.runs c.args.kits.now) in
    let now = tally (sum_by g.K.Kit.loads c.made_all.new.kits) (sum_by g.K.Kit.runs c.made_all.new.kits) in
    let made = subst (λ (t : List (Option Node)). AreMade tree c.args.only c.args.cache.now t jobs count now c.made_all.result) c.deref.ensures.value c.made_all.ensures.made in
    wave-waits tree c.args.only c.args.cache.now table jobs count now c.made_all.result c.requires.table c.requires.rows c.requires.jobs made c.in_ok-made.made c.in_ok-made.was c.put_each.new.table.items c.in_ok-put_each.ensures.put.0 c.in_ok-put_each.ensures.put.1

pub returns-clause-rows : goal.returns-clause-rows
returns-clause-rows g c =
    let tree = c.args.tree.now in
    let table = c.args.table.now.items in
    let jobs = c.args.jobs.now.items in
    let count = tally (sum_by g.K.Kit.loads c.args.kits.now) (sum_by g.K.Kit.runs c.args.kits.now) in
    let now = tally (sum_by g.K.Kit.loads c.made_all.new.kits) (sum_by g.K.Kit.runs c.made_all.new.kits) in
    let made = subst (λ (t : List (Option Node)). AreMade tree c.args.only c.args.cache.now t jobs count now c.made_all.result) c.deref.ensures.value c.made_all.ensures.made in
    wave-rows tree c.args.only c.args.cache.now table jobs count now c.made_all.result c.requires.table c.requires.rows c.requires.jobs made c.in_ok-made.made c.in_ok-made.was c.put_each.new.table.items c.in_ok-put_each.ensures.put.0 c.in_ok-put_each.ensures.put.1
