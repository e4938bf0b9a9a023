use Rattle.std.proofs.Common.{arith}
use Rattle.type_answers.proofs.ComingLaws.{bind_found, bind_waits}
use Rattle.type_answers.specs.Asked.{related_list}
use Rattle.type_answers.proofs.relating.relate_list.Goals as goal

pub returns-in_ok-found-in-Is : goal.returns-in_ok-found-in-Is
unfolding related_list
returns-in_ok-found-in-Is c = grind (arith, bind_found)

pub returns-in-Wait : goal.returns-in-Wait
unfolding related_list
returns-in-Wait c = grind (arith, bind_waits)
