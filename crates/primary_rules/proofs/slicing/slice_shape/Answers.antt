use Rattle.std.proofs.Common.{arith}
use Rattle.type_answers.proofs.ComingLaws.{same_comes}
use Rattle.primary_rules.specs.Slicing.{slice_shape}
use Rattle.primary_rules.proofs.slicing.slice_shape.Goals as goal

pub returns-in-Texts-clause-comes : goal.returns-in-Texts-clause-comes
unfolding slice_shape
returns-in-Texts-clause-comes c = grind (arith, same_comes)

pub returns-in-Slices-clause-comes : goal.returns-in-Slices-clause-comes
unfolding slice_shape
returns-in-Slices-clause-comes c = grind (arith, same_comes)

pub returns-in-Arrays-clause-comes : goal.returns-in-Arrays-clause-comes
unfolding slice_shape
returns-in-Arrays-clause-comes c = grind (arith, same_comes)
