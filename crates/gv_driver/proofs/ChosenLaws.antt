-- The packages of the next wave, found among those that import one of this.
use Rattle.std.proofs.Common.{◌≡◌, ◌⊎◌, inl, inr, ℕ, zero, suc, ◌+◌, ◌<◌, ◌≤◌, Option, Some, None, List, [], ◌∷◌, ◌++◌, length, slice_get, refl, sym, ap, ◌∙◌, subst, arith}
use Rattle.std.proofs.lemmas.Option.{slice_get_within}
use Rattle.std.proofs.lemmas.List.{length-append}
use Rattle.gv_driver.specs.declared.tree.PackageTexts.{PackageTexts}
use Rattle.gv_driver.specs.declared.node.Node.{Node}
use Rattle.gv_driver.specs.declared.jobs.Job.{Job}
use Rattle.gv_driver.specs.Tables.{IsReady}
use Rattle.gv_driver.specs.Waves.{AreChosen, AreJobs, job_of}
use Rattle.gv_driver.proofs.Places.{get-push_cases}

module _ (tree : List PackageTexts) (table : List (Option Node)) where
  pub none-chosen : (jobs : List Job) → jobs ≡ [] → AreChosen tree table 0 jobs
  none-chosen jobs e = rw e (record { inside = omega arith; few = omega arith; each = λ k job h. absurd (none k job h); rising = λ j k a b l x y. absurd (none j a x) })
    where
      none : (k : ℕ) (job : Job) → slice_get [] k ≡ Some job → ⊥
      none zero job h = cc
      none (suc k) job h = cc

  module _ (end : ℕ) (jobs : List Job) (are : AreChosen tree table end jobs) where
    abbrev job : ℕ → Job
    job at = job_of (length jobs) at

    pub chosen-added : (at : ℕ) (next : List Job) → end ≤ at → at < length tree → IsReady tree table at → next ≡ jobs ++ job_of (length jobs) at ∷ [] → AreChosen tree table (at + 1) next
    chosen-added at next low inside ready pushed = rw pushed (record {
      inside = omega (arith, inside);
      few = (let l : length jobs ≤ end = are.few in let e : length (jobs ++ job at ∷ []) ≡ length jobs + 1 = length-append jobs (job at ∷ []) in omega (arith, l, e, low));
      each = λ k a h. elim (get-push_cases jobs (job at) a k h) [
        | inl was ↦ (let e = are.each k a was in (e.0, e.1, (let l : a.at < end = e.2 in omega (arith, l, low))))
        | inr new ↦
            let m : job at ≡ a = new.1 in (
              ap (λ (x : Job). x.place) (sym m) ∙ sym new.0,
              subst (λ (x : Job). IsReady tree table x.at) m ready,
              (let e : a.at ≡ at = ap (λ (x : Job). x.at) (sym m) in omega (arith, e)),
            )
      ];
      rising = λ j k a b l x y. elim (get-push_cases jobs (job at) b k y) [
        | inl was ↦ elim (get-push_cases jobs (job at) a j x) [
          | inl old ↦ are.rising j k a b l old was
          | inr new ↦ (let below : k < length jobs = slice_get_within jobs k b was in let e : j ≡ length jobs = new.0 in absurd (omega (arith, below, e, l)))
        ]
        | inr last ↦ elim (get-push_cases jobs (job at) a j x) [
          | inl old ↦
              let under : a.at < end = (are.each j a old).2 in
              let e : b.at ≡ at = ap (λ (z : Job). z.at) (sym last.1) in
              omega (arith, under, e, low)
          | inr new ↦ (let e : j ≡ length jobs = new.0 in let f : k ≡ length jobs = last.0 in absurd (omega (arith, e, f, l)))
        ]
      ];
    })

    pub chosen-are : (count : ℕ) → count ≡ length jobs → 0 < count → AreJobs tree table (length tree) jobs
    chosen-are count size some = record {
      few = (let l : length jobs ≤ end = are.few in let m : end ≤ length tree = are.inside in omega (arith, l, m));
      each = λ k job h. (let e = are.each k job h in (e.0, e.1, (let l : job.at < end = e.2 in let m : end ≤ length tree = are.inside in omega (arith, l, m))));
      rising = are.rising;
      none = λ empty. (let n : length jobs ≡ 0 = ap (λ (l : List Job). length l) empty in absurd (omega (arith, size, some, n)));
    }
