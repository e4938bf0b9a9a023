use Rattle.node_values.specs.Handed.{AreTops}
use Rattle.node_values.proofs.handing.all_tops.Given as goal

abbrev pub invariant-loop-n : goal.invariant-loop-n
invariant-loop-n g l = AreTops l.n l.top l.found.items
