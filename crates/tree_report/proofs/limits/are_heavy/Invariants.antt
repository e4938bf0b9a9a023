use Rattle.std.proofs.Common.{◌≡◌, ◌+◌, sum, take}
use Rattle.tree_report.proofs.limits.are_heavy.Given as goal

abbrev pub invariant-loop-size : goal.invariant-loop-size
invariant-loop-size l = l.room + sum (take l.size-index l.sizes) ≡ 67108864
