use Rattle.std.proofs.Common.{subst, sym}
use Rattle.std.specs.Prelude.{ℤ}
use Rattle.const_eval.specs.Bits.{AndsDigits}
use Rattle.const_eval.proofs.BitLaws.{and_is}
use Rattle.const_eval.proofs.DigitLaws.{and_digits}
use Rattle.const_eval.proofs.bits.and.Goals as goal

pub returns : goal.returns
returns c =
    let e = and_is c.args.x c.args.y c.ranges.x c.ranges.y in
    record {
      value = e;
      digits = subst (λ (z : ℤ). AndsDigits c.args.x c.args.y z) (sym e) (and_digits c.args.x c.args.y);
    }
