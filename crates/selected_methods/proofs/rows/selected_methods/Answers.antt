use Rattle.mark_walk.specs.Asks.{filled}
use Rattle.typed_marks.specs.Meanings.{Quiet}
use Rattle.typed_marks.specs.States.{so_far}
use Rattle.unit_read.specs.Subjects.{full_of}
use Rattle.selected_methods.proofs.RowLemmas.{cells_are}
use Rattle.selected_methods.proofs.rows.selected_methods.Goals as goal

pub returns : goal.returns
returns c = λ at. cells_are (full_of c.args.u.now) (filled Quiet (so_far c.args.s.now)) c.in_ok-rows.rows.items c.in_ok-rows.ensures at
