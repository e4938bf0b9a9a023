-- A wave: the packages that are ready at one table, and what comes of them.
use Rattle.std.specs.Prelude.{◌≡◌, ◌↔◌, ℕ, zero, suc, ◌+◌, ◌*◌, ◌<◌, ◌≤◌, ◌^◌, Bool, true, false, Option, Some, None, List, [], ◌∷◌, Result, Ok, Err, IfOk, length, slice_get, slice_set, sum_by}
use Rattle.std.specs.Global.{Vec}
use Rattle.std.specs.List.{Contains}
use Rattle.package_faces.specs.Faces.{Face}
use Rattle.action_graph.specs.declared.kit.Unloaded.{Unloaded}
use Rattle.action_graph.specs.declared.kit.Unloaded.TheVariants as unloaded
use Rattle.action_graph.specs.Judging.Judged.{Accepts}
use Rattle.fact_cache.specs.declared.list.Entry.{Entry}
use Rattle.wave_run.specs.Waves.{AreAnswered, AreSpent, Costs, cost_in}
use Rattle.gv_driver.specs.declared.tree.PackageTexts.{PackageTexts}
use Rattle.gv_driver.specs.declared.node.Node.{Node}
use Rattle.gv_driver.specs.declared.wave.Came.{Came}
use Rattle.gv_driver.specs.declared.wave.Came.TheVariants.{Done, Stuck}
use Rattle.gv_driver.specs.declared.jobs.Job.{Job}
use Rattle.gv_driver.specs.Caches.{IsHonest}
use Rattle.gv_driver.specs.Runs.{Breaks, MeetsCircle, Performs}
use Rattle.gv_driver.specs.Tables.{AreGood, AreRows, IsReady, IsTable}
use Rattle.gv_driver.specs.Tallies.{Tally, counted, tally}
use Rattle.gv_driver.specs.Trees.{IsTree}
use Rattle.gv_driver.specs.Whole.{Checked, Reaches}

-- a table at which p's nodes can be made
pub record MayMake (tree : List PackageTexts) (only : ℕ) (before : List Entry) (table : List (Option Node)) (p : ℕ) : Type 0 where
  pub tree_is : IsTree tree
  pub few : length tree < 2 ^ 32
  pub table_is : IsTable tree only before table
  pub rows : AreRows tree before table
  pub ready : IsReady tree table p

-- a kit that can do so many packages more
pub record CanDo {K : Type 0} (holds : K → Type 0) (loads runs : K → ℕ) (jobs : ℕ) (kit : K) : Type 0 where
  pub held : holds kit
  pub loads_few : loads kit + jobs + 1 < 2 ^ 63
  pub runs_few : runs kit + 15 * jobs < 2 ^ 63

-- The row of p's node: over any cache it holds packages that are done and accepted; over an honest one exactly those that are reached.
pub record IsOwnRow (tree : List PackageTexts) (before : List Entry) (table : List (Option Node)) (p : ℕ) (n : Node) : Type 0 where
  pub good : AreGood table n.reach
  pub reached : IsHonest before → (f : Face) → Checked tree p (Accepts f) → (r : ℕ) → Contains n.reach r ↔ Reaches tree r f

abbrev pub tally_of : Costs → Tally
tally_of costs = tally (costs 0) (costs 1)

-- p's nodes were begun, and so much was counted
abbrev pub IsSpentAt : List PackageTexts → ℕ → List Entry → ℕ → Costs → Type 0
IsSpentAt tree only before p costs = Breaks tree only before p (tally 0 0) (tally_of costs)

-- and this came of them
abbrev pub IsCameOf : List PackageTexts → ℕ → List Entry → List (Option Node) → ℕ → Costs → Came → Type 0
IsCameOf tree only before table p costs (Done at node) = (at ≡ p) × Performs tree only before p node (tally 0 0) (tally_of costs) × IsOwnRow tree before table p node
IsCameOf tree only before table p costs Stuck = MeetsCircle tree before

-- what a worker tells of what was made
abbrev pub Comes : {E : Type 0} → Result Node Unloaded → ℕ → Result Came E → Type 0
Comes (Ok node) at result = result ≡ Ok (Done at node)
Comes (Err unloaded.NoMemory) at result = IfOk result (λ came. ⊥)
Comes (Err unloaded.Stuck) at result = result ≡ Ok Stuck

-- a package in a wave
abbrev pub job_of : ℕ → ℕ → Job
job_of place at = record { place = place; at = at }

-- Packages below a number that are ready, in their order; none only where none of those is ready.
pub record AreJobs (tree : List PackageTexts) (table : List (Option Node)) (end : ℕ) (jobs : List Job) : Type 0 where
  pub few : length jobs ≤ end
  pub each : (k : ℕ) (job : Job) → slice_get jobs k ≡ Some job → (job.place ≡ k) × IsReady tree table job.at × (job.at < end)
  pub rising : (j k : ℕ) (a b : Job) → j < k → slice_get jobs j ≡ Some a → slice_get jobs k ≡ Some b → a.at < b.at
  pub none : jobs ≡ [] → (p : ℕ) → p < end → IsReady tree table p → ⊥

-- Some of the packages below a number that are ready, in their order.
pub record AreChosen (tree : List PackageTexts) (table : List (Option Node)) (end : ℕ) (jobs : List Job) : Type 0 where
  pub inside : end ≤ length tree
  pub few : length jobs ≤ end
  pub each : (k : ℕ) (job : Job) → slice_get jobs k ≡ Some job → (job.place ≡ k) × IsReady tree table job.at × (job.at < end)
  pub rising : (j k : ℕ) (a b : Job) → j < k → slice_get jobs j ≡ Some a → slice_get jobs k ≡ Some b → a.at < b.at

abbrev pub put_one : List (Option Node) → Came → List (Option Node)
put_one table (Done at node) = slice_set table at (Some node)
put_one table Stuck = table

abbrev pub put_all : List (Option Node) → List Came → List (Option Node)
put_all table [] = table
put_all table (c ∷ more) = put_all (put_one table c) more

abbrev pub is_done : Came → Bool
is_done (Done at node) = true
is_done Stuck = false

abbrev pub AllDone : List Came → Type 0
AllDone [] = Unit {0}
AllDone (c ∷ more) = (is_done c ≡ true) × AllDone more

-- a place of a table of this size
abbrev pub IsWithin : ℕ → Came → Type 0
IsWithin size (Done at node) = at < size
IsWithin size Stuck = Unit {0}

abbrev pub AllWithin : ℕ → List Came → Type 0
AllWithin size [] = Unit {0}
AllWithin size (c ∷ more) = IsWithin size c × AllWithin size more

abbrev pub job_spent : List PackageTexts → ℕ → List Entry → Job → Costs → Type 0
job_spent tree only before job costs = IsSpentAt tree only before job.at costs

abbrev pub job_right : List PackageTexts → ℕ → List Entry → List (Option Node) → Job → Costs → Came → Type 0
job_right tree only before table job costs came = IsCameOf tree only before table job.at costs came

-- What came of a wave, and what was counted: each package was begun at most once.
pub record AreMade {E : Type 0} (tree : List PackageTexts) (only : ℕ) (before : List Entry) (table : List (Option Node)) (jobs : List Job) (count now : Tally) (result : Result (Vec Came) E) : Type 0 where
  pub costs : List (Option Costs)
  pub spent : AreSpent (job_spent tree only before) jobs costs
  pub loads : now.loads ≡ count.loads + sum_by (cost_in 0) costs
  pub runs : now.runs ≡ count.runs + sum_by (cost_in 1) costs
  pub answers : IfOk result (λ v. AreAnswered (job_right tree only before table) jobs costs v.items)
