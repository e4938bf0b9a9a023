use Rattle.std.proofs.Common.{arith}
use Rattle.type_answers.proofs.ComingLaws.{bind_comes, bind_waits}
use Rattle.primary_rules.specs.Selecting.{set_asked}
use Rattle.primary_rules.proofs.selecting.set_asked.Goals as goal

pub returns-in-Is-clause-comes : goal.returns-in-Is-clause-comes
unfolding set_asked
returns-in-Is-clause-comes c = grind (arith, bind_comes)

pub returns-in-Wait-clause-comes : goal.returns-in-Wait-clause-comes
unfolding set_asked
returns-in-Wait-clause-comes c = grind (arith, bind_waits)
