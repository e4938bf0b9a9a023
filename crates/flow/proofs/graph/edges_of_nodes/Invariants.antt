use Rattle.std.proofs.Common.{◌≡◌, ◌++◌, drop}
use Rattle.flow.specs.Flow.{edges_from}
use Rattle.flow.proofs.graph.edges_of_nodes.Given as goal

abbrev pub invariant-loop-n : goal.invariant-loop-n
invariant-loop-n l = l.edges.items ++ edges_from l.tree l.labels l.table l.n (drop l.n l.tree.nodes) ≡ edges_from l.tree l.labels l.table 0 l.tree.nodes
