use Rattle.std.proofs.Common.{arith}
use Rattle.type_answers.proofs.ComingLaws.{same_comes}
use Rattle.primary_rules.proofs.addresses.indirect_under.Goals as goal

pub returns-in-Some-clause-comes : goal.returns-in-Some-clause-comes
returns-in-Some-clause-comes c = grind (arith, same_comes)
