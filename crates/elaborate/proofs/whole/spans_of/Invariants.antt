use Rattle.std.proofs.Common.{◌≡◌, take}
use Rattle.unit_read.specs.Passages.{spans}
use Rattle.elaborate.proofs.whole.spans_of.Given as goal

abbrev pub invariant-loop-k : goal.invariant-loop-k
invariant-loop-k l = l.out.items ≡ take l.k (spans l.u.passages.items)
