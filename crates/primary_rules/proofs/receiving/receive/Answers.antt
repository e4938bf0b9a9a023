use Rattle.std.proofs.Common.{arith}
use Rattle.type_answers.proofs.ComingLaws.{bind_comes, bind_waits}
use Rattle.primary_rules.specs.Receiving.{receive}
use Rattle.primary_rules.proofs.receiving.receive.Goals as goal

pub returns-in-Is-clause-comes : goal.returns-in-Is-clause-comes
unfolding receive
returns-in-Is-clause-comes c = grind (arith, bind_comes)

pub returns-in-Wait-clause-comes : goal.returns-in-Wait-clause-comes
unfolding receive
returns-in-Wait-clause-comes c = grind (arith, bind_waits)
