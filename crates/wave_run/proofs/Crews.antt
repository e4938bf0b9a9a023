-- Workers who rest, and jobs of which none was begun.
use Rattle.std.proofs.Common.{◌≡◌, ℕ, zero, suc, ◌+◌, ◌<◌, ◌≤◌, List, [], ◌∷◌, ◌++◌, length, map, sym, refl, ap, ap₂, ◌∙◌, subst, arith, replicate}
use Rattle.std.proofs.lemmas.List.{length-replicate, map-append}
use Rattle.std.specs.Prelude.{Option, None, Some, slice_get, sum_by}
use Rattle.wave_run.specs.Numbers.{total}
use Rattle.wave_run.specs.Waves.{AllCan, AreServed, AreSpent, Costs, cost_in}
use Rattle.wave_run.proofs.Sums.{total-append}
use Rattle.wave_run.proofs.Placing.{got_none}
use Rattle.wave_run.proofs.Spending.{none_weigh}
use Rattle.wave_run.proofs.Forking.{served-append}
use Rattle.wave_run.proofs.Finishing.{is_sum}

abbrev pub no_costs : ℕ → List (Option Costs)
no_costs n = replicate n None

pub none_spent : {J : Type 0} (spent : J → Costs → Type 0) (jobs : List J) → AreSpent spent jobs (no_costs (length jobs))
none_spent spent jobs = record {
  size = length-replicate (length jobs) None;
  each = λ k job c at got. absurd (got_none (length jobs) k c got);
}

pub none_counted : (i n : ℕ) → sum_by (cost_in i) (no_costs n) ≡ 0
none_counted i n = sym (is_sum (cost_in i) (no_costs n)) ∙ none_weigh i n

pub resting : {W : Type 0} (can : ℕ → W → Type 0) (count : ℕ → W → ℕ) (most : ℕ) (workers : List W) → AreServed can count most workers workers
resting can count most [] = tt
resting can count most (w ∷ ws) = ((0, omega arith, λ i. omega arith, λ n c. subst (λ (k : ℕ). can k w) (omega arith) c), resting can count most ws)

module _ {W : Type 0} (can : ℕ → W → Type 0) (count : ℕ → W → ℕ) (most : ℕ) (workers crew others now : List W) (all : workers ≡ crew ++ others) where
  pub with_resting : AreServed can count most crew now → AreServed can count most workers (now ++ others)
  with_resting served = subst (λ (l : List W). AreServed can count most l (now ++ others)) (sym all) (served-append can count most crew now others others served (resting can count most others))

  pub counted_with : (sum : W → ℕ) (more : ℕ) → sum_by sum now ≡ sum_by sum crew + more → sum_by sum (now ++ others) ≡ sum_by sum workers + more
  counted_with sum more rose =
      omega (arith, rose, is_sum sum now, is_sum sum crew, is_sum sum (now ++ others), is_sum sum workers, ap (total sum) all, total-append sum crew others, total-append sum now others)

  pub kept_with : (rest : W → ℕ) → map rest now ≡ map rest crew → map rest (now ++ others) ≡ map rest workers
  kept_with rest kept = map-append rest now others ∙ (ap (λ (l : List ℕ). l ++ map rest others) kept ∙ (sym (map-append rest crew others) ∙ ap (map rest) (sym all)))
