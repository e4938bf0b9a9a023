use Rattle.std.proofs.Common.{◌≡◌, ◌<◌, ℕ, List, Some, None, slice_get}
use Rattle.unit_read.specs.Index.{found}
use Rattle.go_kit.proofs.tell.are_known.Given as goal

abbrev pub invariant-loop-path : goal.invariant-loop-path
invariant-loop-path l = (k : ℕ) (path : List ℕ) → k < l.path-index → slice_get l.paths k ≡ Some path → found l.places path ≡ None → ⊥
