use Rattle.never_returns.specs.Bodies.{AreAdded}
use Rattle.never_returns.proofs.readers.add_readers.Given as goal

abbrev pub invariant-loop-at : goal.invariant-loop-at
invariant-loop-at l = AreAdded l.reader l.mentioned l.at-index l.initial.rows.items l.rows.items
