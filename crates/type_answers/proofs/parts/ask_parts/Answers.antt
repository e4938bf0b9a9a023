use Rattle.std.proofs.Common.{arith}
use Rattle.type_answers.proofs.ComingLaws.{same_found}
use Rattle.type_answers.proofs.parts.ask_parts.Goals as goal

pub returns-clause-is : goal.returns-clause-is
returns-clause-is c = grind (arith, same_found)
