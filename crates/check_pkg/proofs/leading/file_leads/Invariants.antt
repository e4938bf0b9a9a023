use Rattle.std.proofs.Common.{◌≡◌, ◌<◌, ℕ, Some, slice_get}
use Rattle.mark_walk.specs.Asks.{filled}
use Rattle.typed_marks.specs.Meanings.{Quiet}
use Rattle.typed_marks.specs.States.{so_far}
use Rattle.unit_read.specs.Subjects.{unit_of, flag}
use Rattle.check_pkg.specs.Leading.{LeadsInVars}
use Rattle.check_pkg.proofs.leading.file_leads.Given as goal

abbrev pub invariant-loop-i : goal.invariant-loop-i
invariant-loop-i l =
    (i n : ℕ) → i < l.i → slice_get l.tree.tops i ≡ Some n → (m : ℕ) → LeadsInVars (unit_of l.u) (filled Quiet (so_far l.s)) (flag l.rows.items) l.file l.tree.nodes n m → ⊥
