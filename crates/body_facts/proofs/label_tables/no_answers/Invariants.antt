use Rattle.std.proofs.Common.{None}
use Rattle.node_values.specs.Handed.{AreTops}
use Rattle.body_facts.proofs.label_tables.no_answers.Given as goal

abbrev pub invariant-loop-n : goal.invariant-loop-n
invariant-loop-n l = AreTops l.n None l.found.items
