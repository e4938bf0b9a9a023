use Rattle.mark_walk.specs.Asks.{filled}
use Rattle.typed_marks.specs.Meanings.{Quiet}
use Rattle.typed_marks.specs.States.{so_far}
use Rattle.unit_read.specs.Subjects.{unit_of}
use Rattle.check_pkg.proofs.ItemLemmas.{Walked}
use Rattle.check_pkg.proofs.faults.refuse_passage.Given as goal

abbrev pub invariant-loop-node : goal.invariant-loop-node
invariant-loop-node l = Walked (unit_of l.u) (filled Quiet (so_far l.s)) l.block l.p l.fn.list.items l.list.items l.node l.value
