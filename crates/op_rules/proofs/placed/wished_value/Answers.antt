use Rattle.std.proofs.Common.{arith}
use Rattle.type_answers.proofs.ComingLaws.{same_comes}
use Rattle.op_rules.proofs.placed.wished_value.Goals as goal

pub returns-in-Free-clause-comes : goal.returns-in-Free-clause-comes
returns-in-Free-clause-comes c = grind (arith, same_comes)

pub returns-in-Fits-clause-comes : goal.returns-in-Fits-clause-comes
returns-in-Fits-clause-comes c = grind (arith, same_comes)
