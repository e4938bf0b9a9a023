use Rattle.std.proofs.Common.{refl}
use Rattle.vet_printf.proofs.ReaderLemmas.{added_more}
use Rattle.vet_printf.proofs.readers.add_readers.Goals as goal

pub loop-at-preserved : goal.loop-at-preserved
loop-at-preserved c =
    added_more c.args.reader c.args.parts.now c.loop-at.at-index _ c.args.rows.now.items c.loop-at.rows.items c.add_reader.new.rows.items refl c.loop-at.invariant c.in_ok-add_reader.ensures
