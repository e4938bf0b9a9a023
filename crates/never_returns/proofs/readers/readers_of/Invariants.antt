use Rattle.never_returns.specs.Bodies.{AreRows}
use Rattle.never_returns.proofs.readers.readers_of.Given as goal

abbrev pub invariant-loop-i : goal.invariant-loop-i
invariant-loop-i l = AreRows l.files l.functions l.i l.rows.items
