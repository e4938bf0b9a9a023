use Rattle.gv_driver.proofs.FactsTold.{facts-known, facts-told, run-lawful}
use Rattle.gv_driver.proofs.laws.an_outcome_has_the_facts.Goals as goal

pub returns-clause-lawful : goal.returns-clause-lawful
returns-clause-lawful c = run-lawful

pub returns-clause-told : goal.returns-clause-told
returns-clause-told c = facts-told
