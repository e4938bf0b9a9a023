use Rattle.std.proofs.Common.{None}
use Rattle.node_values.specs.Handed.{AreTops}
use Rattle.body_rules.proofs.latest.nothing.Given as goal

abbrev pub invariant-loop-n : goal.invariant-loop-n
invariant-loop-n l = AreTops l.n None l.table.items
