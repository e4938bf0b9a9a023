use Rattle.std.proofs.Common.{take}
use Rattle.import_graph.specs.Tables.{AreRows}
use Rattle.import_graph.proofs.rows.rows.Given as goal

abbrev pub invariant-loop-n : goal.invariant-loop-n
invariant-loop-n l = AreRows l.stub (take l.n l.homes) l.names l.rows.items
