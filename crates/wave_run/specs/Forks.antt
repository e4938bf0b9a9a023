-- What is asked of a list of workers, and what they have done.
use Rattle.std.specs.Prelude.{◌≡◌, ℕ, ◌+◌, ◌<◌, ◌≤◌, List, length, map, Result, IfOk}
use Rattle.std.specs.Global.{Vec}
use Rattle.wave_run.specs.declared.board.Board.{Board}
use Rattle.wave_run.specs.declared.board.Pass.{Pass}
use Rattle.wave_run.specs.Passes.{IsPassOf, IsSamePass, view, jobs_of}
use Rattle.wave_run.specs.Waves.{AllCan, AreLawful, AreServed, Costs}
use Rattle.wave_run.specs.Turns.{Draws, Answers, AreSteps}

-- the pass has a part of the board for each worker, and each worker can do all jobs
pub record MayFork {J W : Type 0} (lawful : ℕ → J → Type 0) (can : ℕ → W → Type 0) (board : Board) (jobs : List J) (pass : Pass) (workers : List W) : Type 0 where
  pub made : jobs_of board ≡ length jobs
  pub of : IsPassOf board pass
  pub parts : (view pass).parts ≡ length workers
  pub some_worker : 0 < length workers
  pub few : length workers ≤ 64
  pub lawful_jobs : AreLawful lawful jobs
  pub room : AllCan can (length jobs + 1) workers

-- what the workers drew, did and counted
pub record IsForked {J D W E : Type 0} (right : J → Costs → D → Type 0) (spent : J → Costs → Type 0) (can : ℕ → W → Type 0) (count : ℕ → W → ℕ) (rest : W → ℕ) (jobs : List J) (pass after : Pass) (workers now : List W) (result : Result (Vec (ℕ × D)) E) : Type 0 where
  pub of : IsSamePass pass after
  pub kept : map rest now ≡ map rest workers
  pub taken : List ℕ
  pub steps : List (ℕ × Costs)
  pub draws : Draws (length jobs) (length workers) (view pass) (view after) taken
  pub are_steps : AreSteps spent count jobs workers now taken steps
  pub served : AreServed can count (length jobs + 1) workers now
  pub answers : IfOk result (λ v. Answers right jobs (length workers) taken steps v.items)
