use Rattle.package_needs.proofs.AboveLemmas.{Above}
use Rattle.package_needs.proofs.above.above_nodes.Given as goal

abbrev pub invariant-loop-n : goal.invariant-loop-n
invariant-loop-n l = Above l.nodes l.table.items l.n
