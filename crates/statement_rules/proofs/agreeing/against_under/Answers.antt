use Rattle.std.proofs.Common.{arith}
use Rattle.type_answers.proofs.ComingLaws.{bind_comes, bind_waits}
use Rattle.statement_rules.proofs.agreeing.against_under.Goals as goal

pub returns-in_ok-step-in-Is-clause-comes : goal.returns-in_ok-step-in-Is-clause-comes
returns-in_ok-step-in-Is-clause-comes c = grind (arith, bind_comes)

pub returns-in-Wait-clause-comes : goal.returns-in-Wait-clause-comes
returns-in-Wait-clause-comes c = grind (arith, bind_waits)
