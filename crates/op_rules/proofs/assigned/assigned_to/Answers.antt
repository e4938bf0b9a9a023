use Rattle.std.proofs.Common.{arith}
use Rattle.type_answers.proofs.ComingLaws.{bind_comes, bind_waits}
use Rattle.op_rules.proofs.assigned.assigned_to.Goals as goal

pub returns-in-Is-clause-comes : goal.returns-in-Is-clause-comes
returns-in-Is-clause-comes c = grind (arith, bind_comes)

pub returns-in-Wait-clause-comes : goal.returns-in-Wait-clause-comes
returns-in-Wait-clause-comes c = grind (arith, bind_waits)
