use Rattle.std.proofs.Common.{◌≡◌, drop}
use Rattle.unit_read.specs.Subjects.{unit_of}
use Rattle.selected_methods.specs.Selected.{first_called}
use Rattle.selected_methods.proofs.methods.first_called.Given as goal

abbrev pub invariant-loop-i : goal.invariant-loop-i
invariant-loop-i l = first_called (unit_of l.u) l.name l.list ≡ first_called (unit_of l.u) l.name (drop l.i l.list)
