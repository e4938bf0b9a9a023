use Rattle.std.proofs.Common.{◌<◌, length}
use Rattle.tree_report.proofs.readers.readers_of.Given as goal

abbrev pub invariant-loop-more : goal.invariant-loop-more
invariant-loop-more l = 0 < length l.readers.items
