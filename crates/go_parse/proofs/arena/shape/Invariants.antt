use Rattle.std.proofs.Common.{◌≡◌, ◌≤◌, length, drop}
use Rattle.go_tree.specs.Shape.{shape}
use Rattle.go_parse.proofs.arena.shape.Given as goal

abbrev pub invariant-loop-i : goal.invariant-loop-i
invariant-loop-i l = record { low : l.i ≤ length l.kinds; found : l.found ≡ shape (drop l.i l.kinds) }

abbrev pub decreases-loop-i : goal.decreases-loop-i
decreases-loop-i l = l.i
