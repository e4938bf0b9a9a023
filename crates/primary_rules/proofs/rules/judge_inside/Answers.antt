use Rattle.std.proofs.Common.{arith}
use Rattle.type_answers.proofs.ComingLaws.{same_comes}
use Rattle.primary_rules.proofs.rules.judge_inside.Goals as goal

pub returns-clause-comes : goal.returns-clause-comes
returns-clause-comes c = grind (arith, same_comes)
