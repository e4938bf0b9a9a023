use Rattle.mark_walk.specs.Asks.{filled}
use Rattle.typed_marks.specs.Meanings.{Quiet}
use Rattle.typed_marks.specs.States.{so_far}
use Rattle.unit_read.specs.Subjects.{unit_of}
use Rattle.check_pkg.specs.ImportLists.{has, AreUsed}
use Rattle.check_pkg.proofs.used.used_in.Given as goal

abbrev pub invariant-loop-node : goal.invariant-loop-node
invariant-loop-node l = AreUsed (unit_of l.u) (filled Quiet (so_far l.s)) l.file l.node (has l.used)
