use Rattle.std.proofs.Common.{arith, refl}
use Rattle.words.proofs.NumberLaws.{out-of-bounds, no-number, odd-front, ok-decimal}
use Rattle.words.proofs.number.number_in.Goals as goal

pub returns-then-is_odd : goal.returns-then-is_odd
returns-then-is_odd c = let small = c.ranges.most.fits in odd-front c.args.text.now c.args.most (omega arith) (c.if-is_odd.ensures.odd refl)

pub returns-then-is_within : goal.returns-then-is_within
returns-then-is_within c =
    let odd = c.if-is_odd.ensures.plain refl in
    let within = c.if-is_within.ensures.0 refl in
    (ok-decimal c.args.text.now c.in-Ok.number odd.0 odd.1 c.in-Ok.ensures.value.0, within.0, within.1)

pub returns-else-is_within : goal.returns-else-is_within
returns-else-is_within c = let small = c.ranges.most.fits in out-of-bounds c.args.text.now c.in-Ok.number c.args.most c.in-Ok.ensures.value.0 (omega arith) (λ h. (let f = c.if-is_within.ensures.1 h in cc))

pub returns-in-Err : goal.returns-in-Err
returns-in-Err c = let small = c.ranges.most.fits in no-number c.args.text.now c.args.most c.in-Err.ensures.value.0 (omega arith)
