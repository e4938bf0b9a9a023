use Rattle.const_eval.proofs.Shifts.{wide_shifted}
use Rattle.const_eval.proofs.shift.left_far.Goals as goal

pub returns : goal.returns
returns c = wide_shifted c.args.x c.args.count c.requires c.if-x-eq0.false c.else-x-eqminus1.either
