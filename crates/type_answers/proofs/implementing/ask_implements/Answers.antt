use Rattle.std.proofs.Common.{arith}
use Rattle.type_answers.proofs.ComingLaws.{bind_found, bind_waits}
use Rattle.type_answers.specs.Asked.{implements_ask}
use Rattle.type_answers.proofs.implementing.ask_implements.Goals as goal

pub returns-in_ok-found-in-Is : goal.returns-in_ok-found-in-Is
unfolding implements_ask
returns-in_ok-found-in-Is c = grind (arith, bind_found)

pub returns-in-Wait : goal.returns-in-Wait
unfolding implements_ask
returns-in-Wait c = grind (arith, bind_waits)
