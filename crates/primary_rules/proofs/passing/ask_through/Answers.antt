use Rattle.std.proofs.Common.{arith}
use Rattle.type_answers.proofs.ComingLaws.{bind_found, bind_waits}
use Rattle.primary_rules.specs.Selecting.{through_ask}
use Rattle.primary_rules.proofs.passing.ask_through.Goals as goal

pub returns-in-Is : goal.returns-in-Is
unfolding through_ask
returns-in-Is c = grind (arith, bind_found)

pub returns-in-Wait : goal.returns-in-Wait
unfolding through_ask
returns-in-Wait c = grind (arith, bind_waits)
