use Rattle.std.proofs.Common.{length, ap, ◌≡◌, arith}
use Rattle.vet_printf.proofs.TouchLemmas.{touch_in, touch_out}
use Rattle.vet_printf.proofs.touching.touch_one.Goals as goal

pub returns-then-q-as_slice : goal.returns-then-q-as_slice
returns-then-q-as_slice c =
    let size : length c.as_slice.result.now ≡ length c.args.row.now.items = ap length c.as_slice.ensures.value in
    let low = c.if-q-as_slice.true in
    touch_in c.args.row.now.items c.set_flag.new.row.items c.args.q (omega arith) c.set_flag.ensures

pub returns : goal.returns
returns c =
    let size : length c.as_slice.result.now ≡ length c.args.row.now.items = ap length c.as_slice.ensures.value in
    let high = c.if-q-as_slice.false in
    touch_out c.args.row.now.items c.args.q (omega arith)
