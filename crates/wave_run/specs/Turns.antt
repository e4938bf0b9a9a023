-- What workers draw, do and count, one by one and together.
use Rattle.std.specs.Prelude.{◌≡◌, ℕ, ◌+◌, ◌*◌, ◌^◌, ◌<◌, ◌≤◌, ◌⊎◌, List, [], ◌∷◌, ◌++◌, length, Some, slice_get, nat_lt, if◌then◌else◌, Option, None, Result, IfOk, OnErr}
use Rattle.std.specs.Global.{Vec}
use Rattle.wave_run.specs.declared.view.View.{View}
use Rattle.wave_run.specs.Numbers.{total}
use Rattle.wave_run.specs.Views.{hand}
use Rattle.wave_run.specs.Waves.{Costs, IsServed}

-- the weight of a number, if it is a job's
abbrev pub within : ℕ → (ℕ → ℕ) → ℕ → ℕ
within jobs f x = if nat_lt x jobs then f x else 0

-- and if it is none
abbrev pub beyond : ℕ → ℕ → ℕ
beyond jobs x = if nat_lt x jobs then 0 else 1

-- how many of the numbers are jobs', and how many are not
abbrev pub tickets : ℕ → List ℕ → ℕ
tickets jobs numbers = total (within jobs (λ _. 1)) numbers

abbrev pub blanks : ℕ → List ℕ → ℕ
blanks jobs numbers = total (beyond jobs) numbers

-- From one view to a later one: so many workers drew these numbers.
pub record Draws (jobs workers : ℕ) (before after : View) (taken : List ℕ) : Type 0 where
  pub is : after ≡ hand before.parts (before.drawn ++ taken)
  pub few : length taken ≤ workers * (jobs + 1)

-- what was counted in a job of a number, as it may be
abbrev pub IsSpent : {J : Type 0} → (J → Costs → Type 0) → List J → ℕ × Costs → Type 0
IsSpent {J} spent jobs s = (job : J) × (slice_get jobs s.0 ≡ Some job) × spent job s.1

abbrev pub AllSpent : {J : Type 0} → (J → Costs → Type 0) → List J → List (ℕ × Costs) → Type 0
AllSpent spent jobs [] = Unit {0}
AllSpent spent jobs (s ∷ more) = IsSpent spent jobs s × AllSpent spent jobs more

-- a job's number with an answer that is right for the job and for what it took
abbrev pub IsAnswer : {J D : Type 0} → (J → Costs → D → Type 0) → List J → Costs → ℕ × D → Type 0
IsAnswer {J} right jobs c a = (job : J) × (slice_get jobs a.0 ≡ Some job) × right job c a.1

-- the answers of the steps that these numbers and costs tell of, in turn
abbrev pub AreAnswers : {J D : Type 0} → (J → Costs → D → Type 0) → List J → List (ℕ × Costs) → List (ℕ × D) → Type 0
AreAnswers right jobs [] [] = Unit {0}
AreAnswers right jobs [] (a ∷ more) = ⊥
AreAnswers right jobs (s ∷ steps) [] = ⊥
AreAnswers right jobs (s ∷ steps) (a ∷ more) = (a.0 ≡ s.0) × IsAnswer right jobs s.1 a × AreAnswers right jobs steps more

abbrev pub weight_of : {D : Type 0} → (ℕ → ℕ) → ℕ × D → ℕ
weight_of f a = f a.0

-- what a step took of one count
abbrev pub took_of : ℕ → ℕ × Costs → ℕ
took_of i s = s.1 i

-- Answers for all steps. Each worker then drew one number more, unless there were more tickets than jobs.
pub record Answers {J D : Type 0} (right : J → Costs → D → Type 0) (jobs : List J) (workers : ℕ) (taken : List ℕ) (steps : List (ℕ × Costs)) (found : List (ℕ × D)) : Type 0 where
  pub right_ones : AreAnswers right jobs steps found
  pub ends : (blanks (length jobs) taken ≡ workers) ⊎ (length jobs < tickets (length jobs) taken)

-- The steps of workers who drew these numbers: one for each ticket, and the counts rose by what they took.
pub record AreSteps {J W : Type 0} (spent : J → Costs → Type 0) (count : ℕ → W → ℕ) (jobs : List J) (workers now : List W) (taken : List ℕ) (steps : List (ℕ × Costs)) : Type 0 where
  pub spent_ones : AllSpent spent jobs steps
  pub numbers : (f : ℕ → ℕ) → total (weight_of f) steps ≡ total (within (length jobs) f) taken
  pub counted : (i : ℕ) → total (count i) now ≡ total (count i) workers + total (took_of i) steps

-- A worker after so many turns, each with a ticket and an answer.
pub record IsWorking {J D W : Type 0} (right : J → Costs → D → Type 0) (spent : J → Costs → Type 0) (can : ℕ → W → Type 0) (count : ℕ → W → ℕ) (jobs : List J) (start now : View) (worker after : W) (found : List (ℕ × D)) (turns : ℕ) : Type 0 where
  pub taken : List ℕ
  pub steps : List (ℕ × Costs)
  pub is : now ≡ hand start.parts (start.drawn ++ taken)
  pub long : length taken ≡ turns
  pub tickets_all : tickets (length jobs) taken ≡ turns
  pub blanks_none : blanks (length jobs) taken ≡ 0
  pub are_steps : AreSteps spent count jobs (worker ∷ []) (after ∷ []) taken steps
  pub right_ones : AreAnswers right jobs steps found
  pub served : (n : ℕ) → can (n + turns) worker → can n after

-- One turn of a worker: it draws, and does the step of the job that was drawn.
pub record IsStep {J W : Type 0} (spent : J → Costs → Type 0) (can : ℕ → W → Type 0) (count : ℕ → W → ℕ) (jobs : List J) (number : ℕ) (before after : W) : Type 0 where
  pub costs : Costs
  pub spent_one : IsSpent spent jobs (number, costs)
  pub counted : (i : ℕ) → count i after ≡ count i before + costs i
  pub served : (n : ℕ) → can (n + 1) before → can n after

-- What came of the turn: an answer that is right; none, as the number is no job's, and the worker has done nothing; or memory was wanting.
pub record HasTurned {J D W E : Type 0} (right : J → Costs → D → Type 0) (spent : J → Costs → Type 0) (can : ℕ → W → Type 0) (count : ℕ → W → ℕ) (jobs : List J) (number : ℕ) (before after : W) (result : Result (Option (ℕ × D)) E) : Type 0 where
  pub idle : IfOk result (λ found. found ≡ None → (length jobs ≤ number) × (after ≡ before))
  pub busy : IfOk result (λ found. (a : ℕ × D) → found ≡ Some a → (number < length jobs) × (a.0 ≡ number) × ((s : IsStep spent can count jobs number before after) × IsAnswer right jobs s.costs a))
  pub wanting : OnErr result ((number < length jobs) × IsStep spent can count jobs number before after)

-- What one worker did.
pub record HasWorked {J D W E : Type 0} (right : J → Costs → D → Type 0) (spent : J → Costs → Type 0) (can : ℕ → W → Type 0) (count : ℕ → W → ℕ) (jobs : List J) (start now : View) (worker after : W) (result : Result (Vec (ℕ × D)) E) : Type 0 where
  pub taken : List ℕ
  pub steps : List (ℕ × Costs)
  pub draws : Draws (length jobs) 1 start now taken
  pub are_steps : AreSteps spent count jobs (worker ∷ []) (after ∷ []) taken steps
  pub served : IsServed can count (length jobs + 1) worker after
  pub answers : IfOk result (λ v. Answers right jobs 1 taken steps v.items)
