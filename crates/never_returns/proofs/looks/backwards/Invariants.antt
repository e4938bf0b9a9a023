use Rattle.std.proofs.Common.{◌≤◌, length}
use Rattle.never_returns.proofs.LookLemmas.{AreVertices}
use Rattle.never_returns.proofs.looks.backwards.Given as goal

abbrev pub invariant-loop-left : goal.invariant-loop-left
invariant-loop-left l = record {
  low : l.left ≤ length l.order;
  are : AreVertices l.order l.found.items;
}

abbrev pub decreases-loop-left : goal.decreases-loop-left
decreases-loop-left l = l.left
