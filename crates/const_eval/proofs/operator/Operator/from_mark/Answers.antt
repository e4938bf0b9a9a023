use Rattle.std.proofs.Common.{ap, sym, arith}
use Rattle.std.specs.Prelude.{None}
use Rattle.std.specs.Option.{option_flatten}
use Rattle.const_eval.specs.Operators.{marks}
use Rattle.const_eval.proofs.Marks.{slice_get-past, slice_get-within}
use Rattle.const_eval.proofs.operator.Operator.from_mark.Goals as goal

pub returns-then-mark-lt47 : goal.returns-then-mark-lt47
returns-then-mark-lt47 c = ap option_flatten (sym (slice_get-within marks None c.args.mark (omega arith)))

pub returns-else-mark-lt47 : goal.returns-else-mark-lt47
returns-else-mark-lt47 c = ap option_flatten (sym (slice_get-past marks c.args.mark (omega arith)))
