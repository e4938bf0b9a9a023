use Rattle.std.proofs.Common.{◌≡◌, drop}
use Rattle.node_values.specs.Filled.{values, values_from}
use Rattle.node_values.proofs.filling.fill.Given as goal

abbrev pub invariant-loop-n : goal.invariant-loop-n
invariant-loop-n g l = values_from (g.R.Fills.rule l.rule) l.found.items (drop l.n l.nodes) ≡ values (g.R.Fills.rule l.rule) l.nodes
