use Rattle.std.proofs.Common.{◌≡◌, length, ap, arith}
use Rattle.vet_printf.proofs.ReaderLemmas.{one_added}
use Rattle.vet_printf.proofs.readers.add_reader.Goals as goal

pub returns-in_ok-add_to : goal.returns-in_ok-add_to
returns-in_ok-add_to c =
    let size : length c.as_slice.result.now ≡ length c.args.rows.now.items = ap length c.as_slice.ensures.value in
    let low = c.if-at-as_slice.true in
    one_added c.args.at c.args.reader c.args.rows.now.items c.add_to.new.rows.items (omega arith) c.in_ok-add_to.ensures
