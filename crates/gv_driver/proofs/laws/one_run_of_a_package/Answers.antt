use Rattle.gv_driver.proofs.DueLaws.{facts-everywhere}
use Rattle.gv_driver.proofs.FactLaws.{facts-once, run-of-once, run-without}
use Rattle.gv_driver.proofs.laws.one_run_of_a_package.Goals as goal

pub returns-clause-input : goal.returns-clause-input
returns-clause-input c = run-of-once

pub returns-clause-facts : goal.returns-clause-facts
returns-clause-facts c = facts-once

pub returns-clause-without : goal.returns-clause-without
returns-clause-without c = run-without

pub returns-clause-everywhere : goal.returns-clause-everywhere
returns-clause-everywhere c = facts-everywhere
