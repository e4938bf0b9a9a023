use Rattle.std.proofs.Common.{arith}
use Rattle.type_answers.proofs.ComingLaws.{bind_comes, bind_waits}
use Rattle.primary_rules.specs.Selecting.{select_rule}
use Rattle.primary_rules.proofs.selecting.judge_select.Goals as goal

pub returns-in_ok-step-in-Is-clause-comes : goal.returns-in_ok-step-in-Is-clause-comes
unfolding select_rule
returns-in_ok-step-in-Is-clause-comes c = grind (arith, bind_comes)

pub returns-in-Wait-clause-comes : goal.returns-in-Wait-clause-comes
unfolding select_rule
returns-in-Wait-clause-comes c = grind (arith, bind_waits)
