use Rattle.mark_walk.specs.Asks.{filled}
use Rattle.typed_marks.specs.Meanings.{Quiet}
use Rattle.typed_marks.specs.States.{so_far}
use Rattle.unit_read.specs.Subjects.{unit_of}
use Rattle.check_pkg.specs.Gains.{Gains, SomeBelow}
use Rattle.check_pkg.specs.Items.{RefusesBlock}
use Rattle.check_pkg.proofs.faults.refuse_items.Given as goal

abbrev pub invariant-loop-block : goal.invariant-loop-block
invariant-loop-block l = Gains (SomeBelow l.block (RefusesBlock (unit_of l.u) (filled Quiet (so_far l.s)))) l.fn.list.items l.list.items
