use Rattle.gv_driver.specs.Tables.{load_over}
use Rattle.gv_driver.proofs.LoadingLaws.{loading-from, opened-loading, outcome-from}
use Rattle.gv_driver.proofs.loading.executed.Goals as goal

pub returns-clause-right : goal.returns-clause-right
returns-clause-right g c =
    outcome-from c.in_ok-input.input (load_over c.args.tree.now c.args.table.now c.args.env.now c.args.pack.now) _ _ c.in_ok-input.ensures c.opened.ensures.answer c.in_ok-load.ensures.right

pub returns-clause-loading : goal.returns-clause-loading
returns-clause-loading g c =
    loading-from g.K.Kit.is_of g.K.Kit.keeps c.in_ok-input.input (load_over c.args.tree.now c.args.table.now c.args.env.now c.args.pack.now) c.opened.result.loading c.in_ok-input.ensures
    (opened-loading g.K.Kit.is_of g.K.Kit.keeps c.in_ok-input.input c.in_ok-load.load c.opened.result.loading c.opened.ensures.loaded c.in_ok-load.ensures.is_of c.in_ok-load.ensures.keeps c.in_ok-load.ensures.right)
