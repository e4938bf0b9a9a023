use Rattle.std.proofs.Common.{arith}
use Rattle.type_answers.proofs.ComingLaws.{same_comes}
use Rattle.primary_rules.specs.Indexing.{index_pointed}
use Rattle.primary_rules.proofs.indexing.index_pointed.Goals as goal

pub returns-in-Some-clause-comes : goal.returns-in-Some-clause-comes
unfolding index_pointed
returns-in-Some-clause-comes c = grind (arith, same_comes)
