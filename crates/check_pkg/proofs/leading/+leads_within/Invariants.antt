use Rattle.std.proofs.Common.{◌≡◌, ◌<◌, ℕ, Some, slice_get}
use Rattle.mark_walk.specs.Asks.{filled}
use Rattle.typed_marks.specs.Meanings.{Quiet}
use Rattle.typed_marks.specs.States.{so_far}
use Rattle.unit_read.specs.Subjects.{unit_of, flag}
use Rattle.check_pkg.specs.Leading.{LeadsIn}
use Rattle.check_pkg.proofs.leading.+leads_within.Given as goal

abbrev pub decreases-leads_within : goal.decreases-leads_within
decreases-leads_within l = l.n

abbrev pub invariant-loop-part : goal.invariant-loop-part
invariant-loop-part l =
    (j p : ℕ) → j < l.part-index → slice_get l.part-items j ≡ Some p → (m : ℕ) → LeadsIn (unit_of l.u) (filled Quiet (so_far l.s)) (flag l.rows.items) l.file l.nodes p m → ⊥
