use Rattle.std.proofs.Common.{arith}
use Rattle.type_answers.proofs.ComingLaws.{same_comes}
use Rattle.primary_rules.proofs.receiving.receive_of.Goals as goal

pub returns-then-is_type-clause-comes : goal.returns-then-is_type-clause-comes
returns-then-is_type-clause-comes c = grind (arith, same_comes)
