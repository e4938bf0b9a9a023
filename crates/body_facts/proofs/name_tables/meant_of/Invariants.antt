use Rattle.std.proofs.Common.{None}
use Rattle.unit_read.specs.Subjects.{cell}
use Rattle.body_facts.specs.NameTables.{AreValues, meant_at}
use Rattle.body_facts.proofs.name_tables.meant_of.Given as goal

abbrev pub invariant-loop-n : goal.invariant-loop-n
invariant-loop-n l = AreValues (meant_at (cell l.meant.items) l.file) None l.n l.found.items
