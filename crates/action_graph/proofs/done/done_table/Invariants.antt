use Rattle.std.proofs.Common.{◌≡◌, length, take}
use Rattle.action_graph.specs.Flags.{IsTable}
use Rattle.action_graph.proofs.done.done_table.Given as goal

abbrev pub invariant-loop-node : goal.invariant-loop-node
invariant-loop-node l = record { size : length l.flags.items ≡ l.places; table : IsTable (take l.node-index l.done) l.flags.items }
