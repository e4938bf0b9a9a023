use Rattle.std.proofs.Common.{◌≡◌, ℕ, length}
use Rattle.std.specs.Prelude.{Some, slice_get}
use Rattle.outside_tests.specs.declared.wave_run_tests.Job.{Job}
use Rattle.outside_tests.proofs.wave_run_tests.numbered.Given as goal

abbrev pub invariant-loop-number : goal.invariant-loop-number
invariant-loop-number l = (length l.jobs.items ≡ l.number) × ((k : ℕ) (job : Job) → slice_get l.jobs.items k ≡ Some job → job.number ≡ k)
