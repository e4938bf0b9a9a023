use Rattle.std.proofs.Common.{◌≤◌, ◌*◌, length}
use Rattle.flow.specs.Passing.{AreMarked, Leaves}
use Rattle.flow.proofs.marks.left_points.Given as goal

abbrev pub invariant-loop-n : goal.invariant-loop-n
invariant-loop-n l = AreMarked (Leaves l.tree l.labels) l.n (2 * length l.tree.nodes) l.marks.items
