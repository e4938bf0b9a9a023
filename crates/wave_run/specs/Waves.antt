-- What is asked of a wave of jobs, and what comes of it.
use Rattle.std.specs.Prelude.{◌≡◌, ℕ, ◌+◌, ◌≤◌, Option, Some, None, List, [], ◌∷◌, length, slice_get}

-- each job is lawful for its place
abbrev pub AreLawful : {J : Type 0} → (ℕ → J → Type 0) → List J → Type 0
AreLawful {J} lawful jobs = (k : ℕ) (job : J) → slice_get jobs k ≡ Some job → lawful k job

-- each worker can do so many jobs more
abbrev pub AllCan : {W : Type 0} → (ℕ → W → Type 0) → ℕ → List W → Type 0
AllCan {W} can jobs workers = (k : ℕ) (worker : W) → slice_get workers k ≡ Some worker → can jobs worker

-- A worker has done some jobs, at most so many, has lost nothing that it had counted, and can do all others still.
abbrev pub IsServed : {W : Type 0} → (ℕ → W → Type 0) → (ℕ → W → ℕ) → ℕ → W → W → Type 0
IsServed can count most before after = (turns : ℕ) × (turns ≤ most) × ((i : ℕ) → count i before ≤ count i after) × ((n : ℕ) → can (n + turns) before → can n after)

abbrev pub AreServed : {W : Type 0} → (ℕ → W → Type 0) → (ℕ → W → ℕ) → ℕ → List W → List W → Type 0
AreServed can count most [] [] = Unit {0}
AreServed can count most [] (v ∷ vs) = ⊥
AreServed can count most (w ∷ ws) [] = ⊥
AreServed can count most (w ∷ ws) (v ∷ vs) = IsServed can count most w v × AreServed can count most ws vs

-- how much a job took of each count
abbrev pub Costs : Type 0
Costs = ℕ → ℕ

-- and of one; a job that wasn't begun took nothing
abbrev pub cost_in : ℕ → Option Costs → ℕ
cost_in i None = 0
cost_in i (Some c) = c i

-- each job that was begun took what it may take
pub record AreSpent {J : Type 0} (spent : J → Costs → Type 0) (jobs : List J) (costs : List (Option Costs)) : Type 0 where
  pub size : length costs ≡ length jobs
  pub each : (k : ℕ) (job : J) (c : Costs) → slice_get jobs k ≡ Some job → slice_get costs k ≡ Some (Some c) → spent job c

-- the answers of all jobs, each at its job's number and right for it and for what it took
pub record AreAnswered {J D : Type 0} (right : J → Costs → D → Type 0) (jobs : List J) (costs : List (Option Costs)) (answers : List D) : Type 0 where
  pub size : length answers ≡ length jobs
  pub sizes : length costs ≡ length jobs
  pub each : (k : ℕ) (job : J) (d : D) → slice_get jobs k ≡ Some job → slice_get answers k ≡ Some d → (c : Costs) × (slice_get costs k ≡ Some (Some c)) × right job c d

-- a job has at most one right answer, whatever it took
abbrev pub IsOneAnswer : {J D : Type 0} → (J → Costs → D → Type 0) → Type 0
IsOneAnswer {J} {D} right = (job : J) (b c : Costs) (d e : D) → right job b d → right job c e → d ≡ e
