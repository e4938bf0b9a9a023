use Rattle.std.proofs.Common.{arith}
use Rattle.type_answers.proofs.ComingLaws.{same_found}
use Rattle.go_rules.proofs.judged.key_of.Goals as goal

pub returns : goal.returns
returns c = grind (arith, same_found)
