use Rattle.std.proofs.Common.{arith}
use Rattle.type_answers.proofs.ComingLaws.{same_comes}
use Rattle.primary_rules.proofs.asserting.assert_type.Goals as goal

pub returns-then-is_interface-clause-comes : goal.returns-then-is_interface-clause-comes
returns-then-is_interface-clause-comes c = grind (arith, same_comes)
