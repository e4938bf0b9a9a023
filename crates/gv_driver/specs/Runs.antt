-- How a run goes on, and what it has done at its end.
use Rattle.std.specs.Prelude.{◌≡◌, ℕ, ◌+◌, ◌*◌, ◌≤◌, ◌<◌, Option, Some, None, List, [], ◌∷◌, ◌++◌, map, drop, length, slice_get, sum_by, true, false}
use Rattle.std.specs.List.{Contains}
use Rattle.fact_cache.specs.declared.texts.Input.{Input}
use Rattle.fact_cache.specs.declared.list.Entry.{Entry}
use Rattle.action_graph.specs.Judging.{Env, IsStuckOver}
use Rattle.gv_driver.specs.declared.tree.PackageTexts.{PackageTexts}
use Rattle.gv_driver.specs.declared.node.Node.{Node}
use Rattle.gv_driver.specs.declared.reply.Judgement.{Judgement}
use Rattle.gv_driver.specs.Whole.{HasEnv}
use Rattle.gv_driver.specs.Loads.{IsPlan, all_inputs}
use Rattle.gv_driver.specs.Caches.{IsHonest, IsRight, IsCacheAfter, IsPartKept, missing_of, is_cached, input_of, loads_of, runs_of}
use Rattle.gv_driver.specs.Tables.{AreLookedUp, IsTable, IsLookedUp, IsRightNode, loads_in, runs_in, waiting, executed, executed_runs}
use Rattle.gv_driver.specs.Tallies.{Tally}
use Rattle.gv_driver.specs.Reports.{IsFactReport, IsReport, IsRunReport}

-- p's node is made
pub record Performs (tree : List PackageTexts) (only : ℕ) (before : List Entry) (p : ℕ) (node : Node) (count now : Tally) : Type 0 where
  pub looked : IsLookedUp tree only before p node
  pub right : IsHonest before → IsRightNode tree only p node
  pub loads : now.loads ≡ count.loads + loads_in (Some node)
  pub runs : IsHonest before → now.runs ≡ count.runs + runs_in (Some node)
  pub bound : now.runs ≤ count.runs + runs_in (Some node)
  pub most : now.runs ≤ count.runs + 15

-- p's nodes were begun: no more was executed than what such a node takes, whose inputs are those of the first of p's nodes
pub record Breaks (tree : List PackageTexts) (only : ℕ) (before : List Entry) (p : ℕ) (count now : Tally) : Type 0 where
  pub node : Node
  pub looked : IsLookedUp tree only before p node
  pub loads : now.loads ≤ count.loads + loads_in (Some node)
  pub runs : now.runs ≤ count.runs + runs_in (Some node)
  pub most : now.runs ≤ count.runs + 15

-- From one table to a later one: the counts rose by what the later one took.
pub record Goes (tree : List PackageTexts) (only : ℕ) (before : List Entry) (table next : List (Option Node)) (count now : Tally) : Type 0 where
  pub right : IsTable tree only before next
  pub loads : now.loads + executed table ≡ count.loads + executed next
  pub runs : IsHonest before → now.runs + executed_runs table ≡ count.runs + executed_runs next
  pub room : now.loads + waiting next ≤ count.loads + waiting table
  pub most : now.runs + 15 * waiting next ≤ count.runs + 15 * waiting table

-- It was cut off, by want of memory or by a circle: the counts rose by at most what a table takes whose nodes are the first of the tree's.
pub record Stops (tree : List PackageTexts) (only : ℕ) (before : List Entry) (table : List (Option Node)) (count now : Tally) : Type 0 where
  pub broken : List (Option Node)
  pub size : length broken ≡ length tree
  pub looked : AreLookedUp tree only before broken
  pub loads : now.loads + executed table ≤ count.loads + executed broken
  pub runs : IsHonest before → now.runs + executed_runs table ≤ count.runs + executed_runs broken
  pub room : now.loads ≤ count.loads + waiting table
  pub most : now.runs ≤ count.runs + 15 * waiting table

-- The entries of what was executed can be kept: their inputs have no entry, no two have one input, and over an honest cache they are right.
pub record CanKeep (before entries : List Entry) : Type 0 where
  pub missing : (k : ℕ) (e : Entry) → slice_get entries k ≡ Some e → is_cached before e.input ≡ false
  pub distinct : (j k : ℕ) (e f : Entry) → slice_get entries j ≡ Some e → slice_get entries k ≡ Some f → e.input ≡ f.input → j ≡ k
  pub right : IsHonest before → IsHonest entries

-- A run that came to its end: the inputs of all nodes of the tree, the verdicts, what the analyzers found, the facts, the cache, and the counts. Executed
-- are the missing nodes, and each load whose package has a missing one.
pub record Ran (tree : List PackageTexts) (only : ℕ) (before after : List Entry) (count now : Tally) (reply : Judgement) : Type 0 where
  pub plan : List (List Input)
  pub is_plan : IsPlan tree only plan
  pub report : IsReport tree reply.verdicts
  pub found : IsRunReport tree only reply.verdicts reply.found
  pub facts : IsFactReport tree only reply.verdicts reply.facts
  pub cache : IsCacheAfter before after (all_inputs plan)
  pub nodes : reply.counts.nodes ≡ length (all_inputs plan)
  pub missing : reply.counts.missing ≡ length (missing_of before (all_inputs plan))
  pub loads : reply.counts.loads ≡ loads_of before plan
  pub runs : reply.counts.runs ≡ runs_of before plan
  pub risen : now.loads ≡ count.loads + reply.counts.loads
  pub ran : now.runs ≡ count.runs + reply.counts.runs

-- A run that was cut off, by want of memory or by a circle: no more loads and no more runs than the tree's plan has executed, and only entries
-- of missing nodes.
pub record IsCutOff (tree : List PackageTexts) (only : ℕ) (before after : List Entry) (count now : Tally) : Type 0 where
  pub loads : (plan : List (List Input)) → IsPlan tree only plan → now.loads ≤ count.loads + loads_of before plan
  pub runs : (plan : List (List Input)) → IsPlan tree only plan → now.runs ≤ count.runs + runs_of before plan
  pub cache : (plan : List (List Input)) → IsPlan tree only plan → IsPartKept before after (all_inputs plan)

-- A circle: some sound package is stuck over what a run had of its imports. Over an honest cache that is what is seen of its environment, as it comes of the tree.
pub record MeetsCircle (tree : List PackageTexts) (before : List Entry) : Type 0 where
  pub p : ℕ
  pub pack : PackageTexts
  pub env : Env
  pub at : slice_get tree p ≡ Some pack
  pub sound : pack.sound ≡ true
  pub stuck : IsStuckOver pack.path pack.files env
  pub faces : IsHonest before → HasEnv tree p env
