use Rattle.gv_driver.proofs.GrownLaws.{grown-not}
use Rattle.tree_report.proofs.run.report_on.Goals as goal

pub returns-in_err-known-clause-least : goal.returns-in_err-known-clause-least
returns-in_err-known-clause-least g c = grown-not g.K.Kit.loads g.K.Kit.runs c.args.kits.now

pub returns-in-Over-clause-least : goal.returns-in-Over-clause-least
returns-in-Over-clause-least g c = grown-not g.K.Kit.loads g.K.Kit.runs c.args.kits.now

pub returns-in_err-shared-in-Of-clause-least : goal.returns-in_err-shared-in-Of-clause-least
returns-in_err-shared-in-Of-clause-least g c = grown-not g.K.Kit.loads g.K.Kit.runs c.args.kits.now
