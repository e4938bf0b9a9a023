use Rattle.std.proofs.Common.{◌≡◌, ◌≤◌, length, drop}
use Rattle.go_tree.specs.Arena.{highest}
use Rattle.go_parse.proofs.arena.highest.Given as goal

abbrev pub invariant-loop-i : goal.invariant-loop-i
invariant-loop-i l = record { low : l.i ≤ length l.heights; most : l.most ≡ highest (drop l.i l.heights) }

abbrev pub decreases-loop-i : goal.decreases-loop-i
decreases-loop-i l = l.i
