use Rattle.std.proofs.Common.{ℕ}
use Rattle.unit_read.specs.Subjects.{unit_of}
use Rattle.body_facts.specs.NameTables.{DenotesPanic}
use Rattle.body_facts.proofs.name_tables.any_panics.Given as goal

abbrev pub invariant-loop-n : goal.invariant-loop-n
invariant-loop-n l = (m : ℕ) → DenotesPanic (unit_of l.u) l.file l.n m → ⊥
