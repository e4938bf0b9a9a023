use Rattle.std.proofs.Common.{◌≡◌, length}
use Rattle.file_flow.specs.Told.{AreGivenTo}
use Rattle.file_flow.proofs.told.give.Given as goal

abbrev pub invariant-loop-i : goal.invariant-loop-i
invariant-loop-i l = record {
  size : length l.given.items ≡ l.count;
  given : AreGivenTo l.jumps l.owners l.i l.given.items;
}
