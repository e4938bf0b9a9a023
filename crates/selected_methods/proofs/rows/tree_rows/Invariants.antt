use Rattle.mark_walk.specs.Asks.{filled}
use Rattle.typed_marks.specs.Meanings.{Quiet}
use Rattle.typed_marks.specs.States.{so_far}
use Rattle.unit_read.specs.Subjects.{full_of}
use Rattle.selected_methods.specs.Selected.{IsSelectedMethod}
use Rattle.selected_methods.specs.InCode.{AreMethodRows}
use Rattle.selected_methods.proofs.rows.tree_rows.Given as goal

abbrev pub invariant-loop-file : goal.invariant-loop-file
invariant-loop-file l = AreMethodRows (IsSelectedMethod (full_of l.u) (filled Quiet (so_far l.s))) l.u.trees.now l.rows.items l.file
