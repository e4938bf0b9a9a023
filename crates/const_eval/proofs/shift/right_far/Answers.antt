use Rattle.std.proofs.Common.{arith}
use Rattle.std.proofs.lemmas.Int.{ints}
use Rattle.const_eval.proofs.Shifts.{right_positive, right_negative}
use Rattle.const_eval.proofs.shift.right_far.Goals as goal

pub returns-then-x-lt0 : goal.returns-then-x-lt0
returns-then-x-lt0 c = right_negative c.args.x c.args.count c.ranges.x c.requires (omega (arith, ints))

pub returns-else-x-lt0 : goal.returns-else-x-lt0
returns-else-x-lt0 c = right_positive c.args.x c.args.count c.ranges.x c.requires (omega (arith, ints))
