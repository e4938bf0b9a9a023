use Rattle.mark_walk.specs.Asks.{filled}
use Rattle.typed_marks.specs.Meanings.{Quiet}
use Rattle.typed_marks.specs.States.{so_far}
use Rattle.unit_read.specs.Subjects.{full_of}
use Rattle.check_pkg.specs.Gains.{Gains, SomeBelow}
use Rattle.check_pkg.specs.Late.{NthRefusedBy}
use Rattle.check_pkg.proofs.late_rules.refuse_each.Given as goal

abbrev pub invariant-loop-late : goal.invariant-loop-late
invariant-loop-late l = Gains (SomeBelow l.late-index (NthRefusedBy (full_of l.u) (filled Quiet (so_far l.s)) l.rules)) l.fn.list.items l.list.items
