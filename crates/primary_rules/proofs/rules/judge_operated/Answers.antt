use Rattle.std.proofs.Common.{arith}
use Rattle.type_answers.proofs.ComingLaws.{same_comes}
use Rattle.primary_rules.proofs.rules.judge_operated.Goals as goal

pub returns-then-takes_address-clause-comes : goal.returns-then-takes_address-clause-comes
returns-then-takes_address-clause-comes c = grind (arith, same_comes)
