use Rattle.unit_read.specs.Entries.{AreKept}
use Rattle.unit_read.proofs.entries.Entries.of.Given as goal

abbrev pub invariant-loop-n : goal.invariant-loop-n
invariant-loop-n g l = AreKept l.list.items l.row l.n
