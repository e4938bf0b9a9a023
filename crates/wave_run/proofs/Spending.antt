-- What the steps of a wave took, put at their jobs' numbers.
use Rattle.std.proofs.Common.{◌≡◌, ◌≢◌, ℕ, zero, suc, ◌+◌, ◌<◌, ◌≤◌, List, [], ◌∷◌, length, set, sym, refl, ap, ◌∙◌, subst, inl, inr, ⊎_elim, arith, length-set, replicate}
use Rattle.std.proofs.lemmas.List.{length-replicate}
use Rattle.std.specs.Prelude.{Option, Some, None, ◌⊎◌, slice_get, sum_by}
use mathlib.Core.Logic.{dite}
use native.Mathlib.Decide.{ℕ_discrete}
use Rattle.wave_run.specs.Numbers.{total, Among}
use Rattle.wave_run.specs.Waves.{AreAnswered, AreSpent, Costs, cost_in}
use Rattle.wave_run.specs.Turns.{AllSpent, AreAnswers, IsAnswer, IsSpent, weight_of, took_of}
use Rattle.wave_run.specs.Places.{AreByNumber}
use Rattle.wave_run.proofs.Placing.{only, only_same, got_set, got_here, got_else, got_none, some_same, some_none, among_weight}

-- each number stands once
abbrev pub AreOnce : List (ℕ × Costs) → Type 0
AreOnce [] = Unit {0}
AreOnce (s ∷ more) = (total (weight_of (only s.0)) more ≡ 0) × AreOnce more

pub once_each : (steps : List (ℕ × Costs)) → ((k : ℕ) → total (weight_of (only k)) steps ≤ 1) → AreOnce steps
once_each [] few = tt
once_each (s ∷ more) few = (omega (arith, few s.0, only_same s.0 s.0 refl), once_each more (λ k. omega (arith, few k)))

abbrev pub costs_of : ℕ → List (ℕ × Costs) → List (Option Costs)
costs_of n [] = replicate n None
costs_of n (s ∷ more) = set (costs_of n more) s.0 (Some s.1)

pub costs_size : (n : ℕ) (steps : List (ℕ × Costs)) → length (costs_of n steps) ≡ n
costs_size n [] = length-replicate n None
costs_size n (s ∷ more) = length-set (costs_of n more) s.0 (Some s.1) ∙ costs_size n more

all_below : {J : Type 0} (jobs : List J) (k : ℕ) (job : J) → slice_get jobs k ≡ Some job → k < length jobs
all_below [] k job e = absurd (some_none job (sym e))
all_below (x ∷ xs) zero job e = omega arith
all_below (x ∷ xs) (suc k) job e = omega (arith, all_below xs k job e)

abbrev nothing : ℕ → List (Option Costs)
nothing n = replicate n None

none_at : (n k : ℕ) → k < n → slice_get (nothing n) k ≡ Some None
none_at zero k l = absurd (omega arith)
none_at (suc n) zero l = refl
none_at (suc n) (suc k) l = none_at n k (omega arith)

pub none_weigh : (i n : ℕ) → total (cost_in i) (nothing n) ≡ 0
none_weigh i zero = refl
none_weigh i (suc n) = omega (arith, none_weigh i n)

set_weighs : {A : Type 0} (g : A → ℕ) (l : List A) (k : ℕ) (v w : A) → slice_get l k ≡ Some v → total g (set l k w) + g v ≡ total g l + g w
set_weighs g [] k v w e = absurd (some_none v (sym e))
set_weighs g (x ∷ xs) zero v w e = omega (arith, ap g (some_same x v e))
set_weighs g (x ∷ xs) (suc k) v w e = omega (arith, set_weighs g xs k v w e)

untouched : (n k : ℕ) (steps : List (ℕ × Costs)) → k < n → total (weight_of (only k)) steps ≡ 0 → slice_get (costs_of n steps) k ≡ Some None
untouched n k [] l z = none_at n k l
untouched n k (s ∷ more) l z = dite (ℕ_discrete k s.0)
    (λ (e : k ≡ s.0). absurd (omega (arith, z, only_same k s.0 (sym e))))
    (λ ne. got_else (costs_of n more) s.0 k (Some s.1) ne ∙ untouched n k more l (omega arith))

module _ {J : Type 0} (spent : J → Costs → Type 0) (jobs : List J) where
  abbrev n : ℕ
  n = length jobs

  near : (s : ℕ × Costs) → IsSpent spent jobs s → s.0 < n
  near s one = all_below jobs s.0 one.0 one.1

  pub costs_sum : (i : ℕ) (steps : List (ℕ × Costs)) → AllSpent spent jobs steps → AreOnce steps → total (cost_in i) (costs_of n steps) ≡ total (took_of i) steps
  costs_sum i [] all once = none_weigh i n
  costs_sum i (s ∷ more) all once =
      omega (arith, set_weighs (cost_in i) (costs_of n more) s.0 None (Some s.1) (untouched n s.0 more (near s all.0) once.0), costs_sum i more all.1 once.1)

  from_steps : (k : ℕ) (c : Costs) (steps : List (ℕ × Costs)) → slice_get (costs_of n steps) k ≡ Some (Some c) → Among (k, c) steps
  from_steps k c [] at = absurd (got_none n k c at)
  from_steps k c (s ∷ more) at = ⊎_elim
      (λ (t : (k ≡ s.0) × (Some s.1 ≡ Some c)). inl (ap (λ (z : ℕ). (z, c)) t.0 ∙ ap (λ (d : Costs). (s.0, d)) (sym (some_same s.1 c t.1))))
      (λ (t : (k ≢ s.0) × (slice_get (costs_of n more) k ≡ Some (Some c))). inr (from_steps k c more t.1))
      (got_set (costs_of n more) s.0 k (Some s.1) (Some c) at)

  pub stand : (k : ℕ) (c : Costs) (steps : List (ℕ × Costs)) → AllSpent spent jobs steps → AreOnce steps → Among (k, c) steps → slice_get (costs_of n steps) k ≡ Some (Some c)
  stand k c [] all once m = absurd m
  stand k c (s ∷ more) all once m = ⊎_elim
      (λ (e : (k, c) ≡ s).
      let here : s.0 < length (costs_of n more) = subst (λ (z : ℕ). s.0 < z) (sym (costs_size n more)) (near s all.0) in
      subst (λ (z : ℕ × Costs). slice_get (set (costs_of n more) s.0 (Some s.1)) z.0 ≡ Some (Some z.1)) (sym e) (got_here (costs_of n more) s.0 (Some s.1) here))
      (λ (r : Among (k, c) more).
      let other : k ≢ s.0 = λ (e : k ≡ s.0). absurd (omega (arith, once.0, among_weight (only s.0) (k, c) more r, only_same s.0 k e)) in
      got_else (costs_of n more) s.0 k (Some s.1) other ∙ stand k c more all.1 once.1 r) m

  one_spent : (s : ℕ × Costs) (steps : List (ℕ × Costs)) → AllSpent spent jobs steps → Among s steps → IsSpent spent jobs s
  one_spent s [] all m = absurd m
  one_spent s (x ∷ more) all m = ⊎_elim (λ (e : s ≡ x). subst (λ (z : ℕ × Costs). IsSpent spent jobs z) (sym e) all.0) (λ (r : Among s more). one_spent s more all.1 r) m

  pub are_spent : (steps : List (ℕ × Costs)) → AllSpent spent jobs steps → AreSpent spent jobs (costs_of n steps)
  are_spent steps all = record {
    size = costs_size n steps;
    each = λ k job c at got.
        let one : IsSpent spent jobs (k, c) = one_spent (k, c) steps all (from_steps k c steps got) in
        subst (λ (j : J). spent j c) (some_same one.0 job (sym one.1 ∙ at)) one.2;
  }

  module _ {D : Type 0} (right : J → Costs → D → Type 0) where
    step_of : (a : ℕ × D) (steps : List (ℕ × Costs)) (found : List (ℕ × D)) → AreAnswers right jobs steps found → Among a found → (c : Costs) × Among (a.0, c) steps × IsAnswer right jobs c a
    step_of a [] [] all m = absurd m
    step_of a [] (x ∷ xs) all m = absurd all
    step_of a (s ∷ steps) [] all m = absurd m
    step_of a (s ∷ steps) (x ∷ xs) all m = ⊎_elim
        (λ (e : a ≡ x). (s.1, inl (ap (λ (z : ℕ × D). (z.0, s.1)) e ∙ ap (λ (k : ℕ). (k, s.1)) all.0), subst (λ (z : ℕ × D). IsAnswer right jobs s.1 z) (sym e) all.1))
        (λ (r : Among a xs). let t = step_of a steps xs all.2 r in (t.0, inr t.1, t.2)) m

    pub told_weight : (f : ℕ → ℕ) (steps : List (ℕ × Costs)) (found : List (ℕ × D)) → AreAnswers right jobs steps found → total (weight_of f) found ≡ total (weight_of f) steps
    told_weight f [] [] all = refl
    told_weight f [] (x ∷ xs) all = absurd all
    told_weight f (s ∷ steps) [] all = absurd all
    told_weight f (s ∷ steps) (x ∷ xs) all = omega (arith, ap f all.0, told_weight f steps xs all.2)

    pub are_answered : (steps : List (ℕ × Costs)) (found : List (ℕ × D)) (answers : List D) → AllSpent spent jobs steps → AreOnce steps → AreAnswers right jobs steps found → AreByNumber found n answers
        → AreAnswered right jobs (costs_of n steps) answers
    are_answered steps found answers all once told by = record {
      size = by.size;
      sizes = costs_size n steps;
      each = λ k job d at got.
          let t = step_of (k, d) steps found told (by.each k d got) in
          (t.0, stand k t.0 steps all once t.1, subst (λ (j : J). right j t.0 d) (some_same t.2.0 job (sym t.2.1 ∙ at)) t.2.2);
    }

-- where each job takes one, as many are taken as there are jobs
pub ones : {J D : Type 0} (right : J → Costs → D → Type 0) (i : ℕ) → ((job : J) (c : Costs) (d : D) → right job c d → c i ≡ 1) → (jobs : List J) (costs : List (Option Costs)) (answers : List D) → AreAnswered right jobs costs answers
    → total (cost_in i) costs ≡ length jobs
ones right i one [] [] answers a = refl
ones right i one [] (c ∷ cs) answers a = absurd (omega (arith, a.sizes))
ones right i one (j ∷ js) [] answers a = absurd (omega (arith, a.sizes))
ones right i one (j ∷ js) (c ∷ cs) [] a = absurd (omega (arith, a.size))
ones right i one (j ∷ js) (c ∷ cs) (d ∷ ds) a =
    let t = a.each 0 j d refl refl in
    let here : cost_in i c ≡ 1 = ap (cost_in i) (some_same c (Some t.0) t.1) ∙ one j t.0 d t.2 in
    let rest : AreAnswered right js cs ds = record { size = omega (arith, a.size); sizes = omega (arith, a.sizes); each = λ k. a.each (suc k) } in
    omega (arith, here, ones right i one js cs ds rest)
