use Rattle.std.proofs.Common.{◌≡◌, ◌<◌, ℕ, Some, slice_get}
use Rattle.go_tree.specs.declared.tree.FileTree.{FileTree}
use Rattle.mark_walk.specs.Asks.{filled}
use Rattle.typed_marks.specs.Meanings.{Quiet}
use Rattle.typed_marks.specs.States.{so_far}
use Rattle.unit_read.specs.Subjects.{unit_of, flag}
use Rattle.check_pkg.specs.Leading.{LeadsInTop}
use Rattle.check_pkg.proofs.leading.values_lead.Given as goal

abbrev pub invariant-loop-k : goal.invariant-loop-k
invariant-loop-k l =
    (f : ℕ) (tree : FileTree) → f < l.k → slice_get l.u.trees.now f ≡ Some tree → (i m : ℕ) → LeadsInTop (unit_of l.u) (filled Quiet (so_far l.s)) (flag l.rows.items) f tree i m → ⊥
