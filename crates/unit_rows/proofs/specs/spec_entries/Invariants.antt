use Rattle.unit_rows.specs.Rows.{AreSpecs}
use Rattle.unit_rows.proofs.specs.spec_entries.Given as goal

abbrev pub invariant-loop-file : goal.invariant-loop-file
invariant-loop-file l = AreSpecs l.trees l.table.items l.file
