use Rattle.const_eval.proofs.Shifts.{one_shifted}
use Rattle.const_eval.proofs.shift.power.Goals as goal

pub returns : goal.returns
returns c = one_shifted c.args.count c.requires.low c.requires.high
