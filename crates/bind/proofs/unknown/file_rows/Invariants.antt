use Rattle.bind.specs.Undeclared.{AreFileRows}
use Rattle.bind.proofs.unknown.file_rows.Given as goal

abbrev pub invariant-loop-at : goal.invariant-loop-at
invariant-loop-at l = AreFileRows l.files l.named l.top l.name l.at l.rows.items
