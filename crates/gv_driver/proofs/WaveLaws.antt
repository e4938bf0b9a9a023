-- A wave is its packages in turn: what is ready, and right, at one table stays so while the others of the wave are put.
use Rattle.std.proofs.Common.{◌≡◌, ℕ, zero, suc, ◌+◌, ◌*◌, ◌<◌, ◌≤◌, Bool, true, false, Option, Some, None, List, [], ◌∷◌, length, slice_get, set, refl, sym, ap, ◌∙◌, subst, arith}
use Rattle.std.specs.Prelude.{Result, Ok, Err, IfOk, sum_by}
use Rattle.std.specs.Global.{Vec}
use Rattle.std.proofs.lemmas.Option.{same_Some, slice_get_within}
use Rattle.std.proofs.lemmas.List.Sums.{sum_by-cons}
use Rattle.std.proofs.Math.ListN.{length-set}
use Rattle.fact_cache.specs.declared.list.Entry.{Entry}
use Rattle.wave_run.specs.Waves.{AreAnswered, AreSpent, Costs, cost_in}
use Rattle.gv_driver.specs.declared.tree.PackageTexts.{PackageTexts}
use Rattle.gv_driver.specs.declared.node.Answer.TheVariants.{Refused}
use Rattle.gv_driver.specs.declared.node.Node.{Node}
use Rattle.gv_driver.specs.declared.wave.Came.{Came}
use Rattle.gv_driver.specs.declared.wave.Came.TheVariants.{Done, Stuck}
use Rattle.gv_driver.specs.declared.jobs.Job.{Job}
use Rattle.gv_driver.specs.Caches.{IsHonest}
use Rattle.gv_driver.specs.Runs.{Goes, MeetsCircle, Performs, Stops}
use Rattle.gv_driver.specs.Tables.{AreLookedUp, AreRows, IsReady, IsTable, executed, executed_runs, loads_in, runs_in, waiting}
use Rattle.gv_driver.specs.Tallies.{Tally}
use Rattle.gv_driver.specs.Waves.{AllDone, AllWithin, AreJobs, AreMade, IsCameOf, IsOwnRow, IsSpentAt, is_done, job_right, job_spent, put_all}
use Rattle.gv_driver.proofs.Places.{get-set_other}
use Rattle.gv_driver.proofs.ReachLaws.{good-kept, own-kept, rows-put}
use Rattle.gv_driver.proofs.StepLaws.{executed-set, loads-le, looked-set, runs-set, table-set, waiting-set}

-- each of these is ready
abbrev AllReady : List PackageTexts → List (Option Node) → List Job → Type 0
AllReady tree table jobs = (k : ℕ) (job : Job) → slice_get jobs k ≡ Some job → IsReady tree table job.at

-- each of these waits
abbrev AllWait : List (Option Node) → List Job → Type 0
AllWait table jobs = (k : ℕ) (job : Job) → slice_get jobs k ≡ Some job → slice_get table job.at ≡ Some None

-- each is another package, in their order
abbrev AreRisen : List Job → Type 0
AreRisen jobs = (j k : ℕ) (a b : Job) → j < k → slice_get jobs j ≡ Some a → slice_get jobs k ≡ Some b → a.at < b.at

module _ (js : List Job) (j : Job) (rising : AreRisen (j ∷ js)) where
  risen-rest : AreRisen js
  risen-rest i k a b l x y = rising (suc i) (suc k) a b (omega arith) x y

  apart : (k : ℕ) (job : Job) → slice_get js k ≡ Some job → job.at ≡ j.at → ⊥
  apart k job at same = let l : j.at < job.at = rising 0 (suc k) j job (omega arith) refl at in absurd (omega arith)

ready-kept : (tree : List PackageTexts) (table : List (Option Node)) (p q : ℕ) (m : Node) → slice_get table q ≡ Some None → (p ≡ q → ⊥) → IsReady tree table p → IsReady tree (set table q (Some m)) p
ready-kept tree table p q m waits other ready = record {
  pack = ready.pack;
  at = ready.at;
  waits = get-set_other table q p (Some m) other ∙ ready.waits;
  sound = ready.sound;
  accepted = λ r c. good-kept table q r m waits (ready.accepted r c);
}

nothing-done : Node
nothing-done = record { fresh = None; answer = Refused []; reach = []; runs = [] }

-- as many packages wait as a wave has
waiting-jobs : (table : List (Option Node)) (jobs : List Job) → AllWait table jobs → AreRisen jobs → length jobs ≤ waiting table
waiting-jobs table [] waits rising = omega arith
waiting-jobs table (j ∷ js) waits rising =
    let free : slice_get table j.at ≡ Some None = waits 0 j refl in
    let still : AllWait (set table j.at (Some nothing-done)) js = λ k job h. get-set_other table j.at job.at (Some nothing-done) (apart js j rising k job h) ∙ waits (suc k) job h in
    let w : waiting (set table j.at (Some nothing-done)) + 1 ≡ waiting table = waiting-set table j.at nothing-done free in
    let more : length js ≤ waiting (set table j.at (Some nothing-done)) = waiting-jobs (set table j.at (Some nothing-done)) js still (risen-rest js j rising) in
    omega (arith, w, more)

pub jobs-wait : (tree : List PackageTexts) (table : List (Option Node)) (end : ℕ) (jobs : List Job) → AreJobs tree table end jobs → length jobs ≤ waiting table
jobs-wait tree table end jobs are = waiting-jobs table jobs (λ k job h. (are.each k job h).1.waits) are.rising

no-length : (jobs : List Job) → length jobs ≡ 0 → jobs ≡ []
no-length [] e = refl
no-length (j ∷ js) e = absurd (omega (arith, e))

-- where a wave has no package, none is ready
pub none-ready : (tree : List PackageTexts) (table : List (Option Node)) (jobs : List Job) → AreJobs tree table (length tree) jobs → length jobs ≡ 0 → (p : ℕ) → IsReady tree table p → ⊥
none-ready tree table jobs are empty p ready = are.none (no-length jobs empty) p (slice_get_within tree p ready.pack ready.at) ready

sum-next : (i : ℕ) (o : Option Costs) (c : Costs) (cs : List (Option Costs)) → o ≡ Some c → sum_by (cost_in i) (o ∷ cs) ≡ c i + sum_by (cost_in i) cs
sum-next i o c cs e = let a : cost_in i o ≡ c i = ap (cost_in i) e in let b : sum_by (cost_in i) (o ∷ cs) ≡ cost_in i o + sum_by (cost_in i) cs = sum_by-cons (cost_in i) o cs in omega (arith, a, b)

module _ (tree : List PackageTexts) (only : ℕ) (before : List Entry) where
  came-kept : (table : List (Option Node)) (q : ℕ) (m : Node) (p : ℕ) (c : Costs) (came : Came) → slice_get table q ≡ Some None → IsCameOf tree only before table p c came → IsCameOf tree only before (set table q (Some m)) p c came
  came-kept table q m p c (Done at n) waits is = (is.0, is.1, own-kept tree before table q p m n waits is.2)
  came-kept table q m p c Stuck waits is = is

  -- ---- all came to their end

  -- the table after a wave, whose packages took so much
  record IsAfter (table next : List (Option Node)) (jobs : List Job) (costs : List (Option Costs)) : Type 0 where
    is_table : IsTable tree only before next
    rows : AreRows tree before next
    loads : executed next ≡ executed table + sum_by (cost_in 0) costs
    runs : IsHonest before → executed_runs next ≡ executed_runs table + sum_by (cost_in 1) costs
    waits : waiting next + length jobs ≡ waiting table
    few : sum_by (cost_in 0) costs ≤ length jobs
    most : sum_by (cost_in 1) costs ≤ 15 * length jobs

  module _ (table : List (Option Node)) (j : Job) (js : List Job) (o : Option Costs) (cs : List (Option Costs)) (at : ℕ) (n : Node) (ms : List Came) (is : IsTable tree only before table) (rows : AreRows tree before table)
      (ready : AllReady tree table (j ∷ js)) (rising : AreRisen (j ∷ js)) (c : Costs) (o_is : o ≡ Some c) (came : IsCameOf tree only before table j.at c (Done at n)) where
    abbrev next : List (Option Node)
    next = set table at (Some n)

    here : IsReady tree table at
    here = subst (λ (p : ℕ). IsReady tree table p) (sym came.0) (ready 0 j refl)

    looked : Performs tree only before at n (record { loads = 0; runs = 0 }) (record { loads = c 0; runs = c 1 })
    looked = subst (λ (p : ℕ). Performs tree only before p n (record { loads = 0; runs = 0 }) (record { loads = c 0; runs = c 1 })) (sym came.0) came.1

    own : IsOwnRow tree before table at n
    own = subst (λ (p : ℕ). IsOwnRow tree before table p n) (sym came.0) came.2

    table-next : IsTable tree only before next
    table-next = table-set tree only before table at n is here looked.looked looked.right

    rows-next : AreRows tree before next
    rows-next = rows-put tree before table at n here.waits rows own

    ready-next : AllReady tree next js
    ready-next k job h = ready-kept tree table job.at at n here.waits (λ e. apart js j rising k job h (e ∙ came.0)) (ready (suc k) job h)

    rest-next : AreAnswered (job_right tree only before table) (j ∷ js) (o ∷ cs) (Done at n ∷ ms) → AreAnswered (job_right tree only before next) js cs ms
    rest-next right = record {
      size = let e : suc (length ms) ≡ suc (length js) = right.size in omega arith;
      sizes = let e : suc (length cs) ≡ suc (length js) = right.sizes in omega arith;
      each = λ k job d x y. let t = right.each (suc k) job d x y in (t.0, t.1, came-kept table at n job.at t.0 d here.waits t.2);
    }

    put-next : (last : List (Option Node)) → IsAfter next last js cs → IsAfter table last (j ∷ js) (o ∷ cs)
    put-next last a =
        let e : executed next ≡ executed table + loads_in (Some n) = executed-set table at n here.waits in
        let r : executed_runs next ≡ executed_runs table + runs_in (Some n) = runs-set table at n here.waits in
        let w : waiting next + 1 ≡ waiting table = waiting-set table at n here.waits in
        let le : loads_in (Some n) ≤ 1 = loads-le n in
        let s0 : sum_by (cost_in 0) (o ∷ cs) ≡ c 0 + sum_by (cost_in 0) cs = sum-next 0 o c cs o_is in
        let s1 : sum_by (cost_in 1) (o ∷ cs) ≡ c 1 + sum_by (cost_in 1) cs = sum-next 1 o c cs o_is in
        let c0 : c 0 ≡ 0 + loads_in (Some n) = looked.loads in
        let c1 : c 1 ≤ 0 + 15 = looked.most in
        let loads : executed last ≡ executed next + sum_by (cost_in 0) cs = a.loads in
        let waits : waiting last + length js ≡ waiting next = a.waits in
        let few : sum_by (cost_in 0) cs ≤ length js = a.few in
        let most : sum_by (cost_in 1) cs ≤ 15 * length js = a.most in
        record {
          is_table = a.is_table;
          rows = a.rows;
          loads = omega (arith, e, s0, c0, loads);
          runs = λ honest. (let c2 : c 1 ≡ 0 + runs_in (Some n) = looked.runs honest in let runs : executed_runs last ≡ executed_runs next + sum_by (cost_in 1) cs = a.runs honest in omega (arith, r, s1, c2, runs));
          waits = omega (arith, w, waits);
          few = omega (arith, s0, c0, le, few);
          most = omega (arith, s1, c1, most);
        }

  after-wave : (table : List (Option Node)) (jobs : List Job) (costs : List (Option Costs)) (made : List Came) → IsTable tree only before table → AreRows tree before table → AllReady tree table jobs → AreRisen jobs
      → AreAnswered (job_right tree only before table) jobs costs made → AllDone made → IsAfter table (put_all table made) jobs costs
  after-wave table [] [] [] is rows ready rising right done = record { is_table = is; rows = rows; loads = omega arith; runs = λ honest. omega arith; waits = omega arith; few = omega arith; most = omega arith }
  after-wave table [] (o ∷ cs) made is rows ready rising right done = let e : suc (length cs) ≡ 0 = right.sizes in absurd (omega arith)
  after-wave table [] [] (m ∷ ms) is rows ready rising right done = let e : suc (length ms) ≡ 0 = right.size in absurd (omega arith)
  after-wave table (j ∷ js) [] made is rows ready rising right done = let e : 0 ≡ suc (length js) = right.sizes in absurd (omega arith)
  after-wave table (j ∷ js) (o ∷ cs) [] is rows ready rising right done = let e : 0 ≡ suc (length js) = right.size in absurd (omega arith)
  after-wave table (j ∷ js) (o ∷ cs) (Stuck ∷ ms) is rows ready rising right done = (let e : false ≡ true = done.0 in absurd cc)
  after-wave table (j ∷ js) (o ∷ cs) (Done at n ∷ ms) is rows ready rising right done =
      let t = right.each 0 j (Done at n) refl refl in
      let o_is : o ≡ Some t.0 = same_Some o (Some t.0) t.1 in
      put-next table j js o cs at n ms is rows ready rising t.0 o_is t.2 (put_all (set table at (Some n)) ms)
      (after-wave (set table at (Some n)) js cs ms (table-next table j js o cs at n ms is rows ready rising t.0 o_is t.2) (rows-next table j js o cs at n ms is rows ready rising t.0 o_is t.2)
      (ready-next table j js o cs at n ms is rows ready rising t.0 o_is t.2) (risen-rest js j rising) (rest-next table j js o cs at n ms is rows ready rising t.0 o_is t.2 right) done.1)

  -- ---- some were cut off

  -- a table with what was begun
  record IsBroken (table : List (Option Node)) (costs : List (Option Costs)) : Type 0 where
    broken : List (Option Node)
    size : length broken ≡ length tree
    looked : AreLookedUp tree only before broken
    loads : executed table + sum_by (cost_in 0) costs ≤ executed broken
    runs : executed_runs table + sum_by (cost_in 1) costs ≤ executed_runs broken
    few : sum_by (cost_in 0) costs + waiting broken ≤ waiting table
    most : sum_by (cost_in 1) costs + 15 * waiting broken ≤ 15 * waiting table

  broken-wave : (table : List (Option Node)) (jobs : List Job) (costs : List (Option Costs)) → length table ≡ length tree → AreLookedUp tree only before table → AllWait table jobs → AreRisen jobs
      → AreSpent (job_spent tree only before) jobs costs → IsBroken table costs
  broken-wave table [] [] size looked waits rising spent = record { broken = table; size = size; looked = looked; loads = omega arith; runs = omega arith; few = omega arith; most = omega arith }
  broken-wave table [] (o ∷ cs) size looked waits rising spent = let e : suc (length cs) ≡ 0 = spent.size in absurd (omega arith)
  broken-wave table (j ∷ js) [] size looked waits rising spent = let e : 0 ≡ suc (length js) = spent.size in absurd (omega arith)
  broken-wave table (j ∷ js) (None ∷ cs) size looked waits rising spent =
      let rest : AreSpent (job_spent tree only before) js cs = record { size = (let e : suc (length cs) ≡ suc (length js) = spent.size in omega arith); each = λ k job c x y. spent.each (suc k) job c x y } in
      let b = broken-wave table js cs size looked (λ k job h. waits (suc k) job h) (risen-rest js j rising) rest in
      let s0 : sum_by (cost_in 0) (None ∷ cs) ≡ 0 + sum_by (cost_in 0) cs = sum_by-cons (cost_in 0) None cs in
      let s1 : sum_by (cost_in 1) (None ∷ cs) ≡ 0 + sum_by (cost_in 1) cs = sum_by-cons (cost_in 1) None cs in
      let loads : executed table + sum_by (cost_in 0) cs ≤ executed b.broken = b.loads in
      let runs : executed_runs table + sum_by (cost_in 1) cs ≤ executed_runs b.broken = b.runs in
      let few : sum_by (cost_in 0) cs + waiting b.broken ≤ waiting table = b.few in
      let most : sum_by (cost_in 1) cs + 15 * waiting b.broken ≤ 15 * waiting table = b.most in
      record { broken = b.broken; size = b.size; looked = b.looked; loads = omega (arith, s0, loads); runs = omega (arith, s1, runs); few = omega (arith, s0, few); most = omega (arith, s1, most) }
  broken-wave table (j ∷ js) (Some c ∷ cs) size looked waits rising spent =
      let here : IsSpentAt tree only before j.at c = spent.each 0 j c refl refl in
      let n = here.node in
      let free : slice_get table j.at ≡ Some None = waits 0 j refl in
      let rest : AreSpent (job_spent tree only before) js cs = record { size = (let e : suc (length cs) ≡ suc (length js) = spent.size in omega arith); each = λ k job d x y. spent.each (suc k) job d x y } in
      let still : AllWait (set table j.at (Some n)) js = λ k job h. get-set_other table j.at job.at (Some n) (apart js j rising k job h) ∙ waits (suc k) job h in
      let b =
      broken-wave (set table j.at (Some n)) js cs (length-set table j.at (Some n) ∙ size) (looked-set tree only before table j.at n looked here.looked) still (risen-rest js j rising) rest in
      let e : executed (set table j.at (Some n)) ≡ executed table + loads_in (Some n) = executed-set table j.at n free in
      let r : executed_runs (set table j.at (Some n)) ≡ executed_runs table + runs_in (Some n) = runs-set table j.at n free in
      let w : waiting (set table j.at (Some n)) + 1 ≡ waiting table = waiting-set table j.at n free in
      let le : loads_in (Some n) ≤ 1 = loads-le n in
      let s0 : sum_by (cost_in 0) (Some c ∷ cs) ≡ c 0 + sum_by (cost_in 0) cs = sum-next 0 (Some c) c cs refl in
      let s1 : sum_by (cost_in 1) (Some c ∷ cs) ≡ c 1 + sum_by (cost_in 1) cs = sum-next 1 (Some c) c cs refl in
      let c0 : c 0 ≤ 0 + loads_in (Some n) = here.loads in
      let c1 : c 1 ≤ 0 + runs_in (Some n) = here.runs in
      let c2 : c 1 ≤ 0 + 15 = here.most in
      let loads : executed (set table j.at (Some n)) + sum_by (cost_in 0) cs ≤ executed b.broken = b.loads in
      let runs : executed_runs (set table j.at (Some n)) + sum_by (cost_in 1) cs ≤ executed_runs b.broken = b.runs in
      let few : sum_by (cost_in 0) cs + waiting b.broken ≤ waiting (set table j.at (Some n)) = b.few in
      let most : sum_by (cost_in 1) cs + 15 * waiting b.broken ≤ 15 * waiting (set table j.at (Some n)) = b.most in
      record {
        broken = b.broken;
        size = b.size;
        looked = b.looked;
        loads = omega (arith, e, s0, c0, loads);
        runs = omega (arith, r, s1, c1, runs);
        few = omega (arith, w, le, s0, c0, few);
        most = omega (arith, w, s1, c2, most);
      }

  -- ---- a whole wave

  module _ {E : Type 0} (table : List (Option Node)) (jobs : List Job) (count now : Tally) (result : Result (Vec Came) E) (is : IsTable tree only before table) (rows : AreRows tree before table)
      (are : AreJobs tree table (length tree) jobs) (made : AreMade tree only before table jobs count now result) where
    all-ready : AllReady tree table jobs
    all-ready k job h = (are.each k job h).1

    pub wave-stops : Stops tree only before table count now
    wave-stops =
        let b = broken-wave table jobs made.costs is.size is.looked (λ k job h. (all-ready k job h).waits) are.rising made.spent in
        let loads : executed table + sum_by (cost_in 0) made.costs ≤ executed b.broken = b.loads in
        let runs : executed_runs table + sum_by (cost_in 1) made.costs ≤ executed_runs b.broken = b.runs in
        let few : sum_by (cost_in 0) made.costs + waiting b.broken ≤ waiting table = b.few in
        let most : sum_by (cost_in 1) made.costs + 15 * waiting b.broken ≤ 15 * waiting table = b.most in
        let a : now.loads ≡ count.loads + sum_by (cost_in 0) made.costs = made.loads in
        let c : now.runs ≡ count.runs + sum_by (cost_in 1) made.costs = made.runs in
        record {
          broken = b.broken;
          size = b.size;
          looked = b.looked;
          loads = omega (arith, loads, a);
          runs = λ honest. omega (arith, runs, c);
          room = omega (arith, few, a);
          most = omega (arith, most, c);
        }

    module _ (v : Vec Came) (ok : result ≡ Ok v) where
      answers : AreAnswered (job_right tree only before table) jobs made.costs v.items
      answers = subst (λ (r : Result (Vec Came) E). IfOk r (λ w. AreAnswered (job_right tree only before table) jobs made.costs w.items)) ok made.answers

      pub all-within : AllWithin (length table) v.items
      all-within = go jobs made.costs v.items all-ready answers
        where
          go : (js : List Job) (cs : List (Option Costs)) (ms : List Came) → AllReady tree table js → AreAnswered (job_right tree only before table) js cs ms → AllWithin (length table) ms
          go js cs [] ready right = tt
          go [] cs (m ∷ ms) ready right = let e : suc (length ms) ≡ 0 = right.size in absurd (omega arith)
          go (j ∷ js) [] (m ∷ ms) ready right = let e : 0 ≡ suc (length js) = right.sizes in absurd (omega arith)
          go (j ∷ js) (o ∷ cs) (Stuck ∷ ms) ready right = (
            tt,
            go js cs ms (λ k job h. ready (suc k) job h) (record {
              size = (let e : suc (length ms) ≡ suc (length js) = right.size in omega arith);
              sizes = (let e : suc (length cs) ≡ suc (length js) = right.sizes in omega arith);
              each = λ k job d x y. right.each (suc k) job d x y;
            }),
          )
          go (j ∷ js) (o ∷ cs) (Done at n ∷ ms) ready right =
              let t = right.each 0 j (Done at n) refl refl in (
                subst (λ (p : ℕ). p < length table) (sym t.2.0) (slice_get_within table j.at None (ready 0 j refl).waits),
                go js cs ms (λ k job h. ready (suc k) job h) (record {
                  size = (let e : suc (length ms) ≡ suc (length js) = right.size in omega arith);
                  sizes = (let e : suc (length cs) ≡ suc (length js) = right.sizes in omega arith);
                  each = λ k job d x y. right.each (suc k) job d x y;
                }),
              )

      -- where not all are done, one is stuck
      pub wave-circle : (AllDone v.items → ⊥) → MeetsCircle tree before
      wave-circle = go jobs made.costs v.items answers
        where
          go : (js : List Job) (cs : List (Option Costs)) (ms : List Came) → AreAnswered (job_right tree only before table) js cs ms → (AllDone ms → ⊥) → MeetsCircle tree before
          go js cs [] right none = absurd (none tt)
          go [] cs (m ∷ ms) right none = let e : suc (length ms) ≡ 0 = right.size in absurd (omega arith)
          go (j ∷ js) [] (m ∷ ms) right none = let e : 0 ≡ suc (length js) = right.sizes in absurd (omega arith)
          go (j ∷ js) (o ∷ cs) (Stuck ∷ ms) right none = (right.each 0 j Stuck refl refl).2
          go (j ∷ js) (o ∷ cs) (Done at n ∷ ms) right none =
              go js cs ms (record {
                size = (let e : suc (length ms) ≡ suc (length js) = right.size in omega arith);
                sizes = (let e : suc (length cs) ≡ suc (length js) = right.sizes in omega arith);
                each = λ k job d x y. right.each (suc k) job d x y;
              }) (λ all. none (refl, all))

      module _ (next : List (Option Node)) (put : next ≡ put_all table v.items) (done : AllDone v.items) where
        after : IsAfter table next jobs made.costs
        after = subst (λ (t : List (Option Node)). IsAfter table t jobs made.costs) (sym put) (after-wave table jobs made.costs v.items is rows all-ready are.rising answers done)

        pub wave-goes : Goes tree only before table next count now
        wave-goes =
            let loads : executed next ≡ executed table + sum_by (cost_in 0) made.costs = after.loads in
            let waits : waiting next + length jobs ≡ waiting table = after.waits in
            let few : sum_by (cost_in 0) made.costs ≤ length jobs = after.few in
            let most : sum_by (cost_in 1) made.costs ≤ 15 * length jobs = after.most in
            let a : now.loads ≡ count.loads + sum_by (cost_in 0) made.costs = made.loads in
            let c : now.runs ≡ count.runs + sum_by (cost_in 1) made.costs = made.runs in
            record {
              right = after.is_table;
              loads = omega (arith, loads, a);
              runs = λ honest. (let runs : executed_runs next ≡ executed_runs table + sum_by (cost_in 1) made.costs = after.runs honest in omega (arith, runs, c));
              room = omega (arith, waits, few, a);
              most = omega (arith, waits, most, c);
            }

        pub wave-waits : waiting next + length jobs ≡ waiting table
        wave-waits = after.waits

        pub wave-rows : AreRows tree before next
        wave-rows = after.rows
