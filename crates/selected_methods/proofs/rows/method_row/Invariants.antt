use Rattle.mark_walk.specs.Asks.{filled}
use Rattle.object_order.specs.Spots.{place}
use Rattle.typed_marks.specs.Meanings.{Quiet}
use Rattle.typed_marks.specs.States.{so_far}
use Rattle.unit_read.specs.Subjects.{full_of}
use Rattle.selected_methods.specs.Selected.{IsSelectedMethod}
use Rattle.selected_methods.specs.InCode.{AreMethods}
use Rattle.selected_methods.proofs.rows.method_row.Given as goal

abbrev pub invariant-loop-node : goal.invariant-loop-node
invariant-loop-node l = AreMethods (λ n. IsSelectedMethod (full_of l.u) (filled Quiet (so_far l.s)) (place l.file n)) l.row.items l.node
