use Rattle.std.proofs.Common.{take}
use Rattle.flow.proofs.RowLemmas.{AreRowsOf}
use Rattle.flow.proofs.rows.rows_of.Given as goal

abbrev pub invariant-loop-e : goal.invariant-loop-e
invariant-loop-e l = AreRowsOf l.rows.items (take l.e-index l.edges)
