use Rattle.std.proofs.Common.{arith}
use Rattle.type_answers.proofs.ComingLaws.{same_comes}
use Rattle.statement_rules.proofs.comparing.second_told.Goals as goal

pub returns-in-Got-clause-comes : goal.returns-in-Got-clause-comes
returns-in-Got-clause-comes c = grind (arith, same_comes)
