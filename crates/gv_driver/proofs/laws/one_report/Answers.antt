use Rattle.gv_driver.proofs.OnceLaws.{found-once, report-once}
use Rattle.gv_driver.proofs.ToldLaws.{facts-report-once}
use Rattle.gv_driver.proofs.laws.one_report.Goals as goal

pub returns-clause-verdicts : goal.returns-clause-verdicts
returns-clause-verdicts c = report-once

pub returns-clause-found : goal.returns-clause-found
returns-clause-found c = found-once

pub returns-clause-facts : goal.returns-clause-facts
returns-clause-facts c = facts-report-once
