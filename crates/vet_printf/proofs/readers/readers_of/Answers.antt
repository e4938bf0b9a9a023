use Rattle.std.proofs.Common.{length, refl}
use Rattle.std.proofs.lemmas.Option.{slice_get_read}
use Rattle.vet_printf.proofs.ReaderLemmas.{rows_more}
use Rattle.vet_printf.proofs.readers.readers_of.Goals as goal

pub loop-i-preserved : goal.loop-i-preserved
loop-i-preserved c =
    let at = slice_get_read c.args.shapes.now (length c.args.shapes.now) c.loop-i.i c.index-shapes-i.result refl c.loop-i-test.true c.index-shapes-i.is in
    rows_more c.args.shapes.now c.loop-i.i c.index-shapes-i.result c.as_slice.result.now c.loop-i.rows.items c.add_readers.new.rows.items at c.as_slice.ensures c.loop-i.invariant c.in_ok-add_readers.ensures
