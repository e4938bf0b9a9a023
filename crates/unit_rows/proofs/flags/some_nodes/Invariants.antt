use Rattle.std.proofs.Common.{◌≡◌, map, take}
use Rattle.unit_rows.specs.Tables.{some_node}
use Rattle.unit_rows.proofs.flags.some_nodes.Given as goal

abbrev pub invariant-loop-at : goal.invariant-loop-at
invariant-loop-at l = l.nodes.items ≡ map some_node (take l.at-index l.list)
