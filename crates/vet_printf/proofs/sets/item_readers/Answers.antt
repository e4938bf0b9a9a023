use Rattle.vet_printf.proofs.ReaderLemmas.{readers_so}
use Rattle.vet_printf.proofs.sets.item_readers.Goals as goal

pub returns : goal.returns
returns c = readers_so c.args.items.now c.in_ok-rows.rows.items c.in_ok-rows.ensures
