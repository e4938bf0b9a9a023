use Rattle.gv_driver.proofs.PlanLaws.{unique-plan}
use Rattle.gv_driver.proofs.laws.one_plan.Goals as goal

pub returns : goal.returns
returns c = unique-plan
