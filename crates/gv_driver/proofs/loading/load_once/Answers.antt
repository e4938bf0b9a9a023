use Rattle.std.proofs.Common.{refl}
use Rattle.gv_driver.proofs.LoadingLaws.{opened-loading, taken-loading}
use Rattle.gv_driver.proofs.loading.load_once.Goals as goal

pub returns-in_err-load-clause-loading : goal.returns-in_err-load-clause-loading
returns-in_err-load-clause-loading g c =
    taken-loading g.K.Kit.is_of g.K.Kit.keeps c.args.input.now c.args.loading.now _ refl refl c.requires.loading

pub returns-clause-loading : goal.returns-clause-loading
returns-clause-loading g c =
    opened-loading g.K.Kit.is_of g.K.Kit.keeps c.args.input.now c.in_ok-load.load c.loading_of.result c.loading_of.ensures.loaded c.in_ok-load.ensures.is_of c.in_ok-load.ensures.keeps c.in_ok-load.ensures.right
