use Rattle.std.proofs.Common.{◌≡◌, ◌++◌, drop, map}
use Rattle.action_graph.specs.Nodes.{pairs}
use Rattle.gv_driver.specs.Tables.{pair_at}
use Rattle.gv_driver.proofs.parts.push_exports.Given as goal

abbrev pub invariant-loop-number : goal.invariant-loop-number
invariant-loop-number l = l.parts ++ pairs (map (pair_at l.tree l.table) (drop l.number-index l.numbers)) ≡ l.initial.parts ++ pairs (map (pair_at l.tree l.table) l.numbers)
