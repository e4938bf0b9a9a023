use Rattle.vet_printf.specs.InTable.{AreRows}
use Rattle.vet_printf.proofs.readers.readers_of.Given as goal

abbrev pub invariant-loop-i : goal.invariant-loop-i
invariant-loop-i l = AreRows l.shapes l.i l.rows.items
