use Rattle.std.proofs.Common.{rules, arith, ◌<◌, ◌^◌, take}
use Rattle.std.proofs.lemmas.List.{length-take}
use Rattle.scripts.specs.Runs.{is_digit}
use Rattle.scripts.proofs.RunLaws.{value_of-small, All-take}
use Rattle.scripts.proofs.fields.number.Goals as goal

pub overflow_mul-value : goal.overflow_mul-value
overflow_mul-value c =
    let small : c.loop-digit.value < 10 ^ 9 = rw c.loop-digit.invariant (value_of-small (take c.loop-digit.digit-index c.args.digits.now) (record { each = All-take is_digit c.args.digits.now c.loop-digit.digit-index c.requires.each; most = let m = c.requires.most in simp length-take (omega arith) })) in
    search rules

pub overflow_add-value : goal.overflow_add-value
overflow_add-value c =
    let small : c.loop-digit.value < 10 ^ 9 = rw c.loop-digit.invariant (value_of-small (take c.loop-digit.digit-index c.args.digits.now) (record { each = All-take is_digit c.args.digits.now c.loop-digit.digit-index c.requires.each; most = let m = c.requires.most in simp length-take (omega arith) })) in
    let byte = c.type_inv.digits c.loop-digit.digit-index in
    search rules
