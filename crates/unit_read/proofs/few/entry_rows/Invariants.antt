use Rattle.unit_read.specs.Entries.{AreEntries}
use Rattle.unit_read.proofs.few.entry_rows.Given as goal

abbrev pub invariant-loop-file : goal.invariant-loop-file
invariant-loop-file g l = AreEntries l.rows.items l.table.items l.file
