use Rattle.std.proofs.Common.{◌≡◌, None, replicate}
use Rattle.value_tests.proofs.mark_walk_tests.no_marks.Given as goal

abbrev pub invariant-loop-n : goal.invariant-loop-n
invariant-loop-n l = l.marks.items ≡ replicate l.n None
