use Rattle.std.proofs.Common.{◌≡◌, drop}
use Rattle.go_tree.specs.Spelling.{same_list}
use Rattle.go_tree.proofs.spelling.same_list.Given as goal

abbrev pub invariant-loop-i : goal.invariant-loop-i
invariant-loop-i l = same_list l.source l.xs l.ys ≡ same_list l.source (drop l.i l.xs) (drop l.i l.ys)
