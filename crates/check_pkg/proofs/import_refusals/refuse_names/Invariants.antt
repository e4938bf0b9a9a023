use Rattle.mark_walk.specs.Asks.{filled}
use Rattle.typed_marks.specs.Meanings.{Quiet}
use Rattle.typed_marks.specs.States.{so_far}
use Rattle.unit_read.specs.Subjects.{full_of}
use Rattle.check_pkg.specs.ImportLists.{RefusesNthName}
use Rattle.check_pkg.specs.Gains.{Gains, SomeBelow}
use Rattle.check_pkg.proofs.import_refusals.refuse_names.Given as goal

abbrev pub invariant-loop-declared : goal.invariant-loop-declared
invariant-loop-declared l = Gains (SomeBelow l.declared-index (RefusesNthName (full_of l.u) (filled Quiet (so_far l.s)) l.names)) l.fn.list.items l.list.items
