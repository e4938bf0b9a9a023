use Rattle.std.proofs.Common.{arith}
use Rattle.type_answers.proofs.ComingLaws.{same_comes}
use Rattle.primary_rules.specs.Slicing.{slice_pointed}
use Rattle.primary_rules.proofs.slicing.slice_pointed.Goals as goal

pub returns-in-Some-clause-comes : goal.returns-in-Some-clause-comes
unfolding slice_pointed
returns-in-Some-clause-comes c = grind (arith, same_comes)
