-- What a worker tells of a package, what kits can do, and how waves are found and put.
use Rattle.std.proofs.Common.{◌≡◌, ◌⊎◌, inl, inr, ℕ, zero, suc, ◌+◌, ◌-◌, ◌*◌, ◌<◌, ◌≤◌, ◌^◌, true, false, Option, Some, None, List, [], ◌∷◌, ◌++◌, length, map, slice_get, set, refl, sym, ap, ap₂, ◌∙◌, subst, arith}
use Rattle.std.specs.Prelude.{Result, Ok, Err, IfOk, OnErr, sum_by}
use Rattle.std.proofs.lemmas.Option.{same_Some, slice_get_within}
use Rattle.std.proofs.Math.ListN.{length-set}
use Rattle.std.proofs.lemmas.List.{length-append}
use Rattle.std.proofs.lemmas.List.Sums.{sum_by-cons}
use Rattle.action_graph.specs.declared.kit.Unloaded.{Unloaded}
use Rattle.action_graph.specs.declared.kit.Unloaded.TheVariants as unloaded
use Rattle.fact_cache.specs.declared.list.Entry.{Entry}
use Rattle.wave_run.specs.Waves.{AllCan, AreServed, Costs}
use Rattle.gv_driver.specs.declared.tree.PackageTexts.{PackageTexts}
use Rattle.gv_driver.specs.declared.node.Node.{Node}
use Rattle.gv_driver.specs.declared.wave.Came.{Came}
use Rattle.gv_driver.specs.declared.wave.Came.TheVariants.{Done, Stuck}
use Rattle.gv_driver.specs.declared.jobs.Job.{Job}
use Rattle.gv_driver.specs.Caches.{IsHonest}
use Rattle.gv_driver.specs.Runs.{Breaks, MeetsCircle, Performs}
use Rattle.gv_driver.specs.Tables.{IsReady, loads_in, runs_in}
use Rattle.gv_driver.specs.Tallies.{Tally, counted, counts_of, tally}
use Rattle.gv_driver.specs.Waves.{AllDone, AllWithin, AreJobs, CanDo, Comes, IsCameOf, IsOwnRow, IsSpentAt, is_done, put_all, put_one, tally_of}
use Rattle.gv_driver.proofs.Places.{get-push_cases, get-set_other}

-- ---- one package

module _ (tree : List PackageTexts) (only : ℕ) (before : List Entry) (table : List (Option Node)) (p : ℕ) (count now : Tally) (grown : (count.loads ≤ now.loads) × (count.runs ≤ now.runs)) where
  abbrev pub risen : Costs
  risen i = counted i now - counted i count

  risen-is : (i : ℕ) → counted i now ≡ counted i count + risen i
  risen-is zero = let a : count.loads ≤ now.loads = grown.0 in omega arith
  risen-is (suc i) = let a : count.runs ≤ now.runs = grown.1 in omega arith

  performs-risen : (n : Node) → Performs tree only before p n count now → Performs tree only before p n (tally 0 0) (tally_of risen)
  performs-risen n does =
      let loads : now.loads ≡ count.loads + loads_in (Some n) = does.loads in
      let bound : now.runs ≤ count.runs + runs_in (Some n) = does.bound in
      let most : now.runs ≤ count.runs + 15 = does.most in
      record {
        looked = does.looked;
        right = does.right;
        loads = omega (arith, loads);
        runs = λ honest. (let runs : now.runs ≡ count.runs + runs_in (Some n) = does.runs honest in omega (arith, runs));
        bound = omega (arith, bound);
        most = omega (arith, most);
      }

  performs-spent : (n : Node) → Performs tree only before p n count now → IsSpentAt tree only before p risen
  performs-spent n does =
      let loads : now.loads ≡ count.loads + loads_in (Some n) = does.loads in
      let bound : now.runs ≤ count.runs + runs_in (Some n) = does.bound in
      let most : now.runs ≤ count.runs + 15 = does.most in
      record { node = n; looked = does.looked; loads = omega (arith, loads); runs = omega (arith, bound); most = omega (arith, most) }

  breaks-spent : Breaks tree only before p count now → IsSpentAt tree only before p risen
  breaks-spent b =
      let loads : now.loads ≤ count.loads + loads_in (Some b.node) = b.loads in
      let runs : now.runs ≤ count.runs + runs_in (Some b.node) = b.runs in
      let most : now.runs ≤ count.runs + 15 = b.most in
      record { node = b.node; looked = b.looked; loads = omega (arith, loads); runs = omega (arith, runs); most = omega (arith, most) }

  abbrev Told : {E : Type 0} → Result Came E → Type 0
  Told result = (costs : Costs) × IsSpentAt tree only before p costs × ((i : ℕ) → counted i now ≡ counted i count + costs i) × IfOk result (λ came. IsCameOf tree only before table p costs came)

  nothing-told : {E : Type 0} (P : Came → Type 0) (result : Result Came E) → IfOk result (λ came. ⊥) → IfOk result P
  nothing-told P (Ok came) none = absurd none
  nothing-told P (Err e) none = tt

  pub came-told : {E : Type 0} (made : Result Node Unloaded) (result : Result Came E) → Comes made p result → IfOk made (λ n. Performs tree only before p n count now) → IfOk made (λ n. IsOwnRow tree before table p n)
      → OnErr made (Breaks tree only before p count now) → (made ≡ Err unloaded.Stuck → MeetsCircle tree before) → Told result
  came-told {E} (Ok n) result comes does row begun circle = (
    risen,
    performs-spent n does,
    risen-is,
    subst (λ (r : Result Came E). IfOk r (λ came. IsCameOf tree only before table p risen came)) (sym comes) (refl, performs-risen n does, row),
  )
  came-told (Err unloaded.NoMemory) result comes does row begun circle = (risen, breaks-spent begun, risen-is, nothing-told (λ came. IsCameOf tree only before table p risen came) result comes)
  came-told {E} (Err unloaded.Stuck) result comes does row begun circle = (
    risen,
    breaks-spent begun,
    risen-is,
    subst (λ (r : Result Came E). IfOk r (λ came. IsCameOf tree only before table p risen came)) (sym comes) (circle refl),
  )

-- ---- what kits can do

module _ {K : Type 0} (holds : K → Type 0) (loads runs : K → ℕ) where
  abbrev Can : ℕ → K → Type 0
  Can n kit = CanDo holds loads runs n kit

  pub can-fewer : (n m : ℕ) (kit : K) → n ≤ m → Can m kit → Can n kit
  can-fewer n m kit l c = let a : loads kit + m + 1 < 2 ^ 63 = c.loads_few in let b : runs kit + 15 * m < 2 ^ 63 = c.runs_few in record { held = c.held; loads_few = omega (arith, a, l); runs_few = omega (arith, b, l) }

  pub can-next : (n : ℕ) (before after : K) → holds after → loads after ≤ loads before + 1 → runs after ≤ runs before + 15 → Can (n + 1) before → Can n after
  can-next n before after held l r c =
      let a : loads before + (n + 1) + 1 < 2 ^ 63 = c.loads_few in
      let b : runs before + 15 * (n + 1) < 2 ^ 63 = c.runs_few in
      record { held = held; loads_few = omega (arith, a, l); runs_few = omega (arith, b, r) }

  pub all-fewer : (n m : ℕ) (kits : List K) → n ≤ m → AllCan Can m kits → AllCan Can n kits
  all-fewer n m kits l all k kit h = can-fewer n m kit l (all k kit h)

  pub served-can : (n m most : ℕ) (kits now : List K) → n + most ≤ m → AreServed Can (counts_of loads runs) most kits now → AllCan Can m kits → AllCan Can n now
  served-can n m most [] [] l served all zero kit h = cc
  served-can n m most [] [] l served all (suc k) kit h = cc
  served-can n m most [] (v ∷ vs) l served all k kit h = absurd served
  served-can n m most (w ∷ ws) [] l served all k kit h = absurd served
  served-can n m most (w ∷ ws) (v ∷ vs) l served all zero kit h =
      let s = served.0 in
      let low : s.0 ≤ most = s.1 in
      subst (λ (x : K). Can n x) (same_Some v kit h) (s.3 n (can-fewer (n + s.0) m w (omega (arith, low, l)) (all 0 w refl)))
  served-can n m most (w ∷ ws) (v ∷ vs) l served all (suc k) kit h = served-can n m most ws vs l served.1 (λ j x e. all (suc j) x e) k kit h

  pub served-size : (most : ℕ) (kits now : List K) → AreServed Can (counts_of loads runs) most kits now → length now ≡ length kits
  served-size most [] [] served = refl
  served-size most [] (v ∷ vs) served = absurd served
  served-size most (w ∷ ws) [] served = absurd served
  served-size most (w ∷ ws) (v ∷ vs) served = ap suc (served-size most ws vs served.1)

  -- kits that have forgotten what they kept have counted what they had
  pub cleared-can : (n : ℕ) (kits now : List K) → n ≤ 2 ^ 29 → ((k : ℕ) (kit : K) → slice_get now k ≡ Some kit → holds kit) → map loads now ≡ map loads kits → map runs now ≡ map runs kits
      → ((k : ℕ) (kit : K) → slice_get kits k ≡ Some kit → loads kit ≤ 2 ^ 62) → ((k : ℕ) (kit : K) → slice_get kits k ≡ Some kit → runs kit ≤ 2 ^ 62) → AllCan Can n now
  cleared-can n kits now few held same_loads same_runs a b k kit h =
      let x = was loads kits now (2 ^ 62) same_loads a k kit h in
      let y = was runs kits now (2 ^ 62) same_runs b k kit h in
      record { held = held k kit h; loads_few = omega (arith, x, few); runs_few = omega (arith, y, few) }
    where
      head_of : ℕ → List ℕ → ℕ
      head_of d [] = d
      head_of d (x ∷ xs) = x

      tail_of : List ℕ → List ℕ
      tail_of [] = []
      tail_of (x ∷ xs) = xs

      was : (f : K → ℕ) (kits now : List K) (most : ℕ) → map f now ≡ map f kits → ((k : ℕ) (kit : K) → slice_get kits k ≡ Some kit → f kit ≤ most) → (k : ℕ) (kit : K) → slice_get now k ≡ Some kit → f kit ≤ most
      was f kits [] most same all zero kit h = cc
      was f kits [] most same all (suc k) kit h = cc
      was f [] (v ∷ vs) most same all k kit h = cc
      was f (w ∷ ws) (v ∷ vs) most same all zero kit h =
          let e : f v ≡ f w = ap (head_of 0) same in
          let low : f w ≤ most = all 0 w refl in
          subst (λ (x : K). f x ≤ most) (same_Some v kit h) (omega (arith, e, low))
      was f (w ∷ ws) (v ∷ vs) most same all (suc k) kit h = was f ws vs most (ap tail_of same) (λ j x e. all (suc j) x e) k kit h

  pub map-sum : (f : K → ℕ) (kits now : List K) → map f now ≡ map f kits → sum_by f now ≡ sum_by f kits
  map-sum f kits now same = by f now ∙ (ap (sum_by (λ n. n)) same ∙ sym (by f kits))
    where
      by : (g : K → ℕ) (l : List K) → sum_by g l ≡ sum_by (λ n. n) (map g l)
      by g [] = refl
      by g (x ∷ xs) =
          let a : sum_by g (x ∷ xs) ≡ g x + sum_by g xs = sum_by-cons g x xs in
          let b : sum_by (λ n. n) (g x ∷ map g xs) ≡ g x + sum_by (λ n. n) (map g xs) = sum_by-cons (λ n. n) (g x) (map g xs) in
          let c : sum_by g xs ≡ sum_by (λ n. n) (map g xs) = by g xs in
          omega (arith, a, b, c)

-- ---- one kit after the other

module _ {K : Type 0} where
  set-here : (l : List K) (k : ℕ) (v : K) → k < length l → slice_get (set l k v) k ≡ Some v
  set-here [] k v low = absurd (omega (arith, low))
  set-here (x ∷ xs) zero v low = refl
  set-here (x ∷ xs) (suc k) v low = set-here xs k v (omega (arith, low))

  pub map-set : (f : K → ℕ) (l : List K) (k : ℕ) (w v : K) → slice_get l k ≡ Some w → f v ≡ f w → map f (set l k v) ≡ map f l
  map-set f [] zero w v at e = cc
  map-set f [] (suc k) w v at e = cc
  map-set f (x ∷ xs) zero w v at e = ap (λ (n : ℕ). n ∷ map f xs) (e ∙ sym (ap f (same_Some x w at)))
  map-set f (x ∷ xs) (suc k) w v at e = ap (λ (ns : List ℕ). f x ∷ ns) (map-set f xs k w v at e)

  pub all-set : (holds : K → Type 0) (l : List K) (k : ℕ) (v : K) → k < length l → holds v → ((j : ℕ) (kit : K) → j < k → slice_get l j ≡ Some kit → holds kit)
      → (j : ℕ) (kit : K) → j < k + 1 → slice_get (set l k v) j ≡ Some kit → holds kit
  all-set holds l k v low here before j kit inside at = elim (split j inside) [
    | inl less ↦ before j kit less (sym (get-set_other l k j v (λ e. absurd (omega (arith, less, e)))) ∙ at)
    | inr same ↦
        let e : Some v ≡ Some kit = sym (set-here l k v low) ∙ (ap (slice_get (set l k v)) (sym same) ∙ at) in
        subst (λ (x : K). holds x) (same_Some v kit e) here
  ]
    where
      split : (i : ℕ) → i < k + 1 → (i < k) ⊎ (i ≡ k)
      split i l = grind arith

-- ---- the jobs of a wave

module _ (tree : List PackageTexts) (table : List (Option Node)) where
  pub no-jobs : (jobs : List Job) → jobs ≡ [] → AreJobs tree table 0 jobs
  no-jobs jobs e = rw e (record { few = omega arith; each = λ k job h. absurd (none k job h); rising = λ j k a b l x y. absurd (none j a x); none = λ _ p l. absurd (omega (arith, l)) })
    where
      none : (k : ℕ) (job : Job) → slice_get [] k ≡ Some job → ⊥
      none zero job h = cc
      none (suc k) job h = cc

  module _ (at : ℕ) (jobs : List Job) (are : AreJobs tree table at jobs) where
    pub passed-by : (IsReady tree table at → ⊥) → AreJobs tree table (at + 1) jobs
    passed-by unready = record {
      few = (let l : length jobs ≤ at = are.few in omega (arith, l));
      each = λ k job h. (let e = are.each k job h in (e.0, e.1, (let l : job.at < at = e.2 in omega (arith, l))));
      rising = are.rising;
      none = λ empty p l ready. below-or p l (λ low. are.none empty p low ready) (λ same. unready (subst (λ (x : ℕ). IsReady tree table x) same ready));
    }
      where
        split : (p q : ℕ) → p < q + 1 → (p < q) ⊎ (p ≡ q)
        split p q l = grind arith

        below-or : {P : Type 0} (p : ℕ) → p < at + 1 → (p < at → P) → (p ≡ at → P) → P
        below-or {P} p l f g = elim (split p at l) [
          | inl a ↦ f a
          | inr b ↦ g b
        ]

    module _ (job : Job) (next : List Job) (pushed : next ≡ jobs ++ job ∷ []) (place : job.place ≡ length jobs) (at_is : job.at ≡ at) (ready : IsReady tree table at) where
      not-empty : (l : List Job) → l ++ job ∷ [] ≡ [] → ⊥
      not-empty [] e = cc
      not-empty (x ∷ xs) e = cc

      pub one-added : AreJobs tree table (at + 1) next
      one-added = rw pushed (record {
        few = (let l : length jobs ≤ at = are.few in let e : length (jobs ++ job ∷ []) ≡ length jobs + 1 = length-append jobs (job ∷ []) in omega (arith, l, e));
        each = λ k a h. elim (get-push_cases jobs job a k h) [
          | inl was ↦ (let e = are.each k a was in (e.0, e.1, (let l : a.at < at = e.2 in omega (arith, l))))
          | inr new ↦
              let m : job ≡ a = new.1 in (
                ap (λ (x : Job). x.place) (sym m) ∙ (place ∙ sym new.0),
                subst (λ (x : Job). IsReady tree table x.at) m (subst (λ (p : ℕ). IsReady tree table p) (sym at_is) ready),
                (let e : a.at ≡ at = ap (λ (x : Job). x.at) (sym m) ∙ at_is in omega (arith, e)),
              )
        ];
        rising = λ j k a b l x y. elim (get-push_cases jobs job b k y) [
          | inl was ↦ elim (get-push_cases jobs job a j x) [
            | inl old ↦ are.rising j k a b l old was
            | inr new ↦ (let inside : k < length jobs = slice_get_within jobs k b was in let e : j ≡ length jobs = new.0 in absurd (omega (arith, inside, e, l)))
          ]
          | inr last ↦ elim (get-push_cases jobs job a j x) [
            | inl old ↦
                let low : a.at < at = (are.each j a old).2 in
                let e : b.at ≡ at = ap (λ (z : Job). z.at) (sym last.1) ∙ at_is in
                omega (arith, low, e)
            | inr new ↦ (let e : j ≡ length jobs = new.0 in let f : k ≡ length jobs = last.0 in absurd (omega (arith, e, f, l)))
          ]
        ];
        none = λ empty. absurd (not-empty jobs empty);
      })

-- ---- putting

pub put-size : (table : List (Option Node)) (one : Came) → length (put_one table one) ≡ length table
put-size table (Done at node) = length-set table at (Some node)
put-size table Stuck = refl
