-- The kits at work are the first of those that are handed in. The others stay.
use Rattle.std.specs.Prelude.{◌≡◌, ℕ, ◌<◌, ◌≤◌, List, Some, length, take, drop, slice_get, sum_by}
use Rattle.tree_runs.specs.Reports.{Work, work}
use Rattle.top_calls.specs.declared.options.ToolOptions.{ToolOptions}

-- so many kits can be at work: 1 to 64, and they are there
abbrev pub CanWork : {W : Type 0} → ℕ → List W → Type 0
CanWork workers kits = (0 < workers) × (workers ≤ 64) × (workers ≤ length kits)

-- no kit did more loads than so many, nor more runs
abbrev pub DidAtMost : {W : Type 0} → (W → ℕ) → (W → ℕ) → ℕ → List W → Type 0
DidAtMost loads runs most kits = (k : ℕ) (kit : _) → slice_get kits k ≡ Some kit → (loads kit ≤ most) × (runs kit ≤ most)

-- the loads and the runs of the kits at work together
abbrev pub work_of : {W : Type 0} → (W → ℕ) → (W → ℕ) → ℕ → List W → Work
work_of loads runs workers kits = work (sum_by loads (take workers kits)) (sum_by runs (take workers kits))

-- the kits that aren't at work are as they were
abbrev pub OthersStay : {W : Type 0} → ℕ → List W → List W → Type 0
OthersStay workers old new = (length new ≡ length old) × (drop workers new ≡ drop workers old)

-- the options with another number of workers
abbrev pub with_workers : ℕ → ToolOptions → ToolOptions
with_workers workers options = record options { workers = workers }
