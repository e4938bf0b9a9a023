use Rattle.std.proofs.Common.{◌≡◌, ℕ, ◌<◌, Some, slice_get}
use Rattle.check_cases.specs.declared.expected.Expected.{Expected}
use Rattle.check_cases.specs.declared.found.Found.{Found}
use Rattle.check_cases.specs.Comparison.{Meets}
use Rattle.check_cases.proofs.comparison.are_met.Given as goal

abbrev pub invariant-loop-at : goal.invariant-loop-at
invariant-loop-at l = (i : ℕ) (one : Expected) (error : Found) → i < l.at → slice_get l.wanted i ≡ Some one → slice_get l.errors i ≡ Some error → Meets one error
