use Rattle.std.proofs.Common.{arith}
use Rattle.type_answers.proofs.ComingLaws.{bind_found, bind_waits}
use Rattle.type_answers.specs.Asked.{implements_list}
use Rattle.type_answers.proofs.implementing.implement_list.Goals as goal

pub returns-in-Is : goal.returns-in-Is
unfolding implements_list
returns-in-Is c = grind (arith, bind_found)

pub returns-in-Wait : goal.returns-in-Wait
unfolding implements_list
returns-in-Wait c = grind (arith, bind_waits)
