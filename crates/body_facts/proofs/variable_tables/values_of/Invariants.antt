use Rattle.std.proofs.Common.{false}
use Rattle.unit_read.specs.Subjects.{unit_of}
use Rattle.body_facts.specs.NameTables.{AreValues, is_variable}
use Rattle.body_facts.proofs.variable_tables.values_of.Given as goal

abbrev pub invariant-loop-n : goal.invariant-loop-n
invariant-loop-n l = AreValues (is_variable (unit_of l.u) l.file l.inside) false l.n l.flags.items
