use Rattle.std.proofs.Common.{arith}
use Rattle.type_answers.proofs.ComingLaws.{bind_found, bind_waits}
use Rattle.primary_rules.specs.Selecting.{pass_ask}
use Rattle.primary_rules.proofs.passing.pass.Goals as goal

pub returns-in-Is-clause-is : goal.returns-in-Is-clause-is
unfolding pass_ask
returns-in-Is-clause-is c = grind (arith, bind_found)

pub returns-in-Wait-clause-is : goal.returns-in-Wait-clause-is
unfolding pass_ask
returns-in-Wait-clause-is c = grind (arith, bind_waits)
