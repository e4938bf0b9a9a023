use Rattle.std.proofs.Common.{◌≡◌, ℕ, length}
use Rattle.std.specs.Prelude.{Some, slice_get}
use Rattle.outside_tests.specs.declared.wave_run_tests.Worker.{Worker}
use Rattle.outside_tests.proofs.wave_run_tests.crew.Given as goal

abbrev pub invariant-loop-place : goal.invariant-loop-place
invariant-loop-place l = (length l.workers.items ≡ l.place) × ((k : ℕ) (w : Worker) → slice_get l.workers.items k ≡ Some w → w.done ≡ 0)
