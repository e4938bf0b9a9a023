use Rattle.std.proofs.Common.{arith}
use Rattle.type_answers.proofs.ComingLaws.{same_comes}
use Rattle.primary_rules.proofs.rules.judge_owned.Goals as goal

pub returns-in_ok-step-in-Bad-clause-comes : goal.returns-in_ok-step-in-Bad-clause-comes
returns-in_ok-step-in-Bad-clause-comes c = grind (arith, same_comes)

pub returns-in_ok-step-in-Outside-clause-comes : goal.returns-in_ok-step-in-Outside-clause-comes
returns-in_ok-step-in-Outside-clause-comes c = grind (arith, same_comes)

pub returns-in_ok-step-in-Silent-clause-comes : goal.returns-in_ok-step-in-Silent-clause-comes
returns-in_ok-step-in-Silent-clause-comes c = grind (arith, same_comes)

pub returns-in_ok-step-in-Wants-clause-comes : goal.returns-in_ok-step-in-Wants-clause-comes
returns-in_ok-step-in-Wants-clause-comes c = grind (arith, same_comes)

pub returns-in_ok-step-in-Declared-clause-comes : goal.returns-in_ok-step-in-Declared-clause-comes
returns-in_ok-step-in-Declared-clause-comes c = grind (arith, same_comes)
