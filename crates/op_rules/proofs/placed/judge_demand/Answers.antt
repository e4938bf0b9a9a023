use Rattle.std.proofs.Common.{arith}
use Rattle.type_answers.proofs.ComingLaws.{same_comes}
use Rattle.op_rules.proofs.placed.judge_demand.Goals as goal

pub returns-in-Owner-clause-comes : goal.returns-in-Owner-clause-comes
returns-in-Owner-clause-comes c = grind (arith, same_comes)
