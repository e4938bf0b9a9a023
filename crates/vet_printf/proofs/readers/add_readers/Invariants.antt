use Rattle.vet_printf.specs.InTable.{AreAdded}
use Rattle.vet_printf.proofs.readers.add_readers.Given as goal

abbrev pub invariant-loop-at : goal.invariant-loop-at
invariant-loop-at l = AreAdded l.reader l.parts l.at-index l.initial.rows.items l.rows.items
