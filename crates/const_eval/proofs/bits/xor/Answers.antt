use Rattle.std.proofs.Common.{subst, sym}
use Rattle.std.specs.Prelude.{ℤ}
use Rattle.const_eval.specs.Bits.{XorsDigits}
use Rattle.const_eval.proofs.BitLaws.{xor_is}
use Rattle.const_eval.proofs.DigitLaws.{xor_digits}
use Rattle.const_eval.proofs.bits.xor.Goals as goal

pub returns : goal.returns
returns c =
    let e = xor_is c.args.x c.args.y c.ranges.x c.ranges.y in
    record {
      value = e;
      digits = subst (λ (z : ℤ). XorsDigits c.args.x c.args.y z) (sym e) (xor_digits c.args.x c.args.y);
    }
