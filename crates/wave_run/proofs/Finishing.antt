-- A wave at its end.
use Rattle.std.proofs.Common.{◌≡◌, ℕ, zero, suc, ◌+◌, ◌*◌, ◌^◌, ◌<◌, ◌≤◌, List, [], ◌∷◌, ◌++◌, length, sym, refl, ap, ◌∙◌, ⊎_elim, arith, mul-le-mul_right}
use Rattle.std.proofs.lemmas.List.Recursion.{is_sum_by}
use Rattle.std.specs.Prelude.{Option, Result, Ok, Err, IfOk, IsOk, OnOk, ◌⊎◌, sum_by}
use Rattle.std.specs.Global.{Vec}
use mathlib.Core.Logic.{dite}
use native.Mathlib.Decide.{dec_le}
use Rattle.wave_run.specs.declared.board.Pass.{Pass}
use Rattle.wave_run.specs.declared.view.View.{View}
use Rattle.wave_run.specs.Numbers.{total, below, AreBelow}
use Rattle.wave_run.specs.Views.{hand}
use Rattle.wave_run.specs.Passes.{view}
use Rattle.wave_run.specs.Dealing.{Closes}
use Rattle.wave_run.specs.Waves.{AreAnswered, AreSpent, Costs, cost_in}
use Rattle.wave_run.specs.Turns.{within, beyond, tickets, blanks, weight_of, Answers}
use Rattle.wave_run.specs.Places.{AreByNumber}
use Rattle.wave_run.specs.Forks.{IsForked}
use Rattle.wave_run.proofs.Sums.{below_ones}
use Rattle.wave_run.proofs.Working.{within_yes, within_no, beyond_no, beyond_yes}
use Rattle.wave_run.proofs.Placing.{only, below_none, below_once}
use Rattle.wave_run.proofs.Spending.{AreOnce, once_each, costs_of, costs_sum, are_spent, told_weight, are_answered}
use Rattle.wave_run.proofs.Forking.{not_ok}

within_small : (n t : ℕ) (f : ℕ → ℕ) → t ≤ n → below (within n f) t ≡ below f t
within_small n zero f h = refl
within_small n (suc t) f h = omega (arith, within_small n t f (omega arith), within_yes n t f (omega arith))

pub within_big : (n t : ℕ) (f : ℕ → ℕ) → n ≤ t → below (within n f) t ≡ below f n
within_big n zero f h = let e : zero ≡ n = omega arith in ap (below f) e
within_big n (suc t) f h = dite (dec_le n t)
    (λ (l : n ≤ t). omega (arith, within_big n t f l, within_no n t f l))
    (λ nl. let e : suc t ≡ n = omega arith in within_small n (suc t) f (omega arith) ∙ ap (below f) e)

beyond_small : (n t : ℕ) → t ≤ n → below (beyond n) t ≡ 0
beyond_small n zero h = refl
beyond_small n (suc t) h = omega (arith, beyond_small n t (omega arith), beyond_no n t (omega arith))

beyond_big : (n t : ℕ) → n ≤ t → below (beyond n) t + n ≡ t
beyond_big n zero h = omega arith
beyond_big n (suc t) h = dite (dec_le n t)
    (λ (l : n ≤ t). omega (arith, beyond_big n t l, beyond_yes n t l))
    (λ nl. let e : suc t ≡ n = omega arith in omega (arith, beyond_small n (suc t) (omega arith)))

tickets_le : (n t : ℕ) (taken : List ℕ) → AreBelow t taken → tickets n taken ≤ n
tickets_le n t taken h = dite (dec_le n t)
    (λ (l : n ≤ t). omega (arith, h (within n (λ _. 1)), within_big n t (λ _. 1) l, below_ones n))
    (λ nl. omega (arith, h (within n (λ _. 1)), within_small n t (λ _. 1) (omega arith), below_ones t))

-- if each worker drew one number more than there were tickets, the numbers are those below the sum of jobs and workers
all_drawn : (n t workers : ℕ) (taken : List ℕ) → AreBelow t taken → 0 < workers → (blanks n taken ≡ workers) ⊎ (n < tickets n taken) → t ≡ n + workers
all_drawn n t workers taken h some ends = ⊎_elim
    (λ (b : blanks n taken ≡ workers). dite (dec_le n t)
    (λ (l : n ≤ t). omega (arith, h (beyond n), beyond_big n t l))
    (λ nl. absurd (omega (arith, h (beyond n), beyond_small n t (omega arith)))))
    (λ (b : n < tickets n taken). absurd (omega (arith, tickets_le n t taken h)))
    ends

-- the same in the words of std
pub is_sum : {W : Type 0} (count : W → ℕ) (l : List W) → total count l ≡ sum_by count l
is_sum count l = is_sum_by (total count) count refl (λ _ _. refl) l

-- no number is drawn twice
one_ticket : (n t k : ℕ) → below (within n (only k)) t ≤ 1
one_ticket n t k = dite (dec_le n t)
    (λ (l : n ≤ t). omega (arith, within_big n t (only k) l, below_few k n))
    (λ nl. omega (arith, within_small n t (only k) (omega arith), below_few k t))
  where
    below_few : (k m : ℕ) → below (only k) m ≤ 1
    below_few k m = dite (dec_le m k) (λ (l : m ≤ k). omega (arith, below_none k m l)) (λ nl. omega (arith, below_once k m (omega arith)))

module _ {J D W E : Type 0} (right : J → Costs → D → Type 0) (spent : J → Costs → Type 0) (can : ℕ → W → Type 0) (count : ℕ → W → ℕ) (rest : W → ℕ) (jobs : List J) (pass after : Pass) (workers now : List W) (result : Result (Vec (ℕ × D)) E) (word : ℕ)
    (fresh : view pass ≡ hand (length workers) []) (f : IsForked right spent can count rest jobs pass after workers now result) (some : 0 < length workers) (few : length workers ≤ 64) (small : length jobs < 2 ^ 32)
    (closes : Closes (view after).drawn word) where
  abbrev n : ℕ
  n = length jobs

  drawn_is : (view after).drawn ≡ f.taken
  drawn_is = ap (λ (v : View). v.drawn) f.draws.is ∙ ap (λ (v : View). v.drawn ++ f.taken) fresh

  pub parts_kept : (view after).parts ≡ length workers
  parts_kept = ap (λ (v : View). v.parts) f.draws.is ∙ ap (λ (v : View). v.parts) fresh

  under : length (view after).drawn < 2 ^ 64
  under = let d = f.draws.few in let m : length workers * (n + 1) ≤ 64 * (n + 1) = mul-le-mul_right (n + 1) few in omega (arith, ap length drawn_is)

  numbers : AreBelow word f.taken
  numbers = λ g. ap (total g) (sym drawn_is) ∙ closes.once under g

  pub each_once_drawn : AreBelow (length (view after).drawn) (view after).drawn
  each_once_drawn =
      let u = under in
      let c = closes.counts in
      let e : word ≡ length (view after).drawn = omega arith in λ h. closes.once u h ∙ ap (below h) e

  once : AreOnce f.steps
  once = once_each f.steps (λ k. omega (arith, f.are_steps.numbers (only k), numbers (within n (only k)), one_ticket n word k))

  abbrev pub costs : List (Option Costs)
  costs = costs_of n f.steps

  pub all_spent : AreSpent spent jobs costs
  all_spent = are_spent spent jobs f.steps f.are_steps.spent_ones

  pub all_counted : (i : ℕ) → sum_by (count i) now ≡ sum_by (count i) workers + sum_by (cost_in i) costs
  all_counted i = omega (arith, is_sum (count i) workers, is_sum (count i) now, is_sum (cost_in i) costs, costs_sum spent jobs i f.steps f.are_steps.spent_ones once, f.are_steps.counted i)

  abbrev Good : Vec (ℕ × D) → Type 0
  Good v = Answers right jobs (length workers) f.taken f.steps v.items

  word_is : (v : Vec (ℕ × D)) → Good v → word ≡ n + length workers
  word_is v g = all_drawn n word (length workers) f.taken numbers some g.ends

  each_once : (v : Vec (ℕ × D)) → Good v → (h : ℕ → ℕ) → total (weight_of h) v.items ≡ below h n
  each_once v g h = told_weight spent jobs right h f.steps v.items g.right_ones ∙ (f.are_steps.numbers h ∙ (numbers (within n h) ∙ within_big n word h (let e = word_is v g in omega arith)))

  pub orderly : IfOk result (λ v. (h : ℕ → ℕ) → total (weight_of h) v.items ≡ below h n)
  orderly = go result f.answers
    where
      go : (r : Result (Vec (ℕ × D)) E) → IfOk r Good → IfOk r (λ v. (h : ℕ → ℕ) → total (weight_of h) v.items ≡ below h n)
      go (Err e) a = tt
      go (Ok v) a = each_once v a

  module _ (answers : Result (Vec D) E) (ordered : IfOk answers (λ v. IsOk result × IfOk result (λ w. AreByNumber w.items n v.items))) where
    found_one : {P : Type 0} → ((v : Vec (ℕ × D)) → Good v → P) → IsOk result → P
    found_one {P} k is = go result f.answers is
      where
        go : (r : Result (Vec (ℕ × D)) E) → IfOk r Good → IsOk r → P
        go (Err e) a i = absurd (not_ok i)
        go (Ok v) a i = k v a

    pub all_numbers : OnOk answers (AreBelow (n + length workers) (view after).drawn)
    all_numbers = go answers ordered
      where
        go : (r : Result (Vec D) E) → IfOk r (λ v. IsOk result × IfOk result (λ w. AreByNumber w.items n v.items)) → OnOk r (AreBelow (n + length workers) (view after).drawn)
        go (Err e) o = tt
        go (Ok v) o = found_one (λ w g h. closes.once under h ∙ ap (below h) (word_is w g)) o.0

    pub all_answered : IfOk answers (λ v. AreAnswered right jobs costs v.items)
    all_answered = go answers ordered
      where
        both : (v : Vec D) (r : Result (Vec (ℕ × D)) E) → IfOk r Good → IsOk r → IfOk r (λ w. AreByNumber w.items n v.items) → AreAnswered right jobs costs v.items
        both v (Err e) a i o = absurd (not_ok i)
        both v (Ok w) a i o = are_answered spent jobs right f.steps w.items v.items f.are_steps.spent_ones once a.right_ones o

        go : (r : Result (Vec D) E) → IfOk r (λ v. IsOk result × IfOk result (λ w. AreByNumber w.items n v.items)) → IfOk r (λ v. AreAnswered right jobs costs v.items)
        go (Err e) o = tt
        go (Ok v) o = both v result f.answers o.0 o.1
