use Rattle.std.proofs.Common.{arith}
use Rattle.type_answers.proofs.ComingLaws.{bind_found, bind_waits}
use Rattle.type_answers.proofs.relating.unrelated.Goals as goal

pub returns-in-Is : goal.returns-in-Is
returns-in-Is c = grind (arith, bind_found)

pub returns-in-Wait : goal.returns-in-Wait
returns-in-Wait c = grind (arith, bind_waits)
