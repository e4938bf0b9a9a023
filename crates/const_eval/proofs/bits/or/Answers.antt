use Rattle.std.proofs.Common.{subst, sym}
use Rattle.std.specs.Prelude.{ℤ}
use Rattle.const_eval.specs.Bits.{OrsDigits}
use Rattle.const_eval.proofs.BitLaws.{or_is}
use Rattle.const_eval.proofs.DigitLaws.{or_digits}
use Rattle.const_eval.proofs.bits.or.Goals as goal

pub returns : goal.returns
returns c =
    let e = or_is c.args.x c.args.y c.ranges.x c.ranges.y in
    record {
      value = e;
      digits = subst (λ (z : ℤ). OrsDigits c.args.x c.args.y z) (sym e) (or_digits c.args.x c.args.y);
    }
