use Rattle.std.proofs.Common.{arith}
use Rattle.type_answers.proofs.ComingLaws.{same_comes}
use Rattle.op_rules.proofs.assigned.held_told.Goals as goal

pub returns-in-Got-clause-comes : goal.returns-in-Got-clause-comes
returns-in-Got-clause-comes c = grind (arith, same_comes)
