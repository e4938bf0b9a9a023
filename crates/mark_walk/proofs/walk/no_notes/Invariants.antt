use Rattle.std.proofs.Common.{◌≡◌, false, replicate}
use Rattle.mark_walk.proofs.walk.no_notes.Given as goal

abbrev pub invariant-loop-n : goal.invariant-loop-n
invariant-loop-n l = l.notes.items ≡ replicate l.n false
