-- What a call of a single run answers for.
use Rattle.std.specs.Prelude.{◌≡◌, ℕ, ◌+◌, List, Option}
use Rattle.std.specs.Io.KnownBytes.{Appends}
use Rattle.gv_base.specs.Counts.{Rose}
use Rattle.gv_base.specs.Files.{Entry}
use Rattle.gv_base.specs.Keepers.{KeeperView}
use Rattle.gv_base.specs.Sinks.{SinkView}
use Rattle.gv_base.specs.Trees.{TreeView}
use Rattle.folder.specs.Folders.{IsTold}
use Rattle.analysis_core.specs.declared.command.Command.{Command as Kind}
use Rattle.scripts.specs.declared.halt.Halt.TheVariants.{Ended}
use Rattle.tree_runs.specs.Reports.{Work, HasCircle}
use Rattle.top_calls.specs.declared.options.ToolOptions.{ToolOptions}
use Rattle.top_calls.specs.declared.stop.Cut.TheVariants.{Circle}
use Rattle.top_calls.specs.declared.stop.Stop.{Stop}
use Rattle.top_calls.specs.declared.stop.Stop.TheVariants.{Halted, Broken}
use Rattle.top_calls.specs.Ends.{number_of}
use Rattle.top_calls.specs.Due.{IsLawfulKept, IsWorkOf}
use Rattle.top_calls.specs.Desk.{IsHeld}
use Rattle.top_calls.specs.Headline.{keeper_faults}
use Rattle.top_calls.specs.Single.{SeenRun, RunOutcome, DueRun, IsWithinRun, run_files}

-- What was seen of a single run: all that is due where it came to its end, and over a lawful keeper nothing else; under any status the beginning of what is due, and the files written
-- are the first of those that it changes.
pub record RunGoesOut (options : ToolOptions) (kind : Kind) (kept : Option (List ℕ)) (files : List Entry) (got : SeenRun) (stop : Stop) : Type 0 where
  pub due : stop ≡ Halted Ended got.seen.found → DueRun options kind kept files got
  pub single : IsLawfulKept kept → (whole : SeenRun) → DueRun options kind kept files whole → stop ≡ Halted Ended got.seen.found → got ≡ whole
  pub within : IsLawfulKept kept → (whole : SeenRun) → (due : DueRun options kind kept files whole) → IsWithinRun files got whole.seen due.whole.0.changed

-- A single run by the number of its status: what was found at the keeper and on the tree, what was seen and how it ended; what was executed; and what was due.
pub record Single (options : ToolOptions) (kind : Kind) (sink sink' : SinkView) (tree tree' : TreeView) (keeper keeper' : KeeperView) (kits kits' : Work) (result : ℕ) : Type 0 where
  pub kept : Option (List ℕ)
  pub found : IsHeld keeper.kept kept
  pub files : List Entry
  pub told : IsTold tree.files files
  pub got : SeenRun
  pub says : Appends sink.held sink'.held got.seen.out
  pub writes : IsTold tree'.files got.files
  pub holds : IsHeld keeper'.kept got.seen.kept
  pub stop : Stop
  pub number : result ≡ number_of stop
  pub work : IsLawfulKept kept → IsWorkOf stop kits.loads kits.runs got.seen kits'
  pub outcome : RunOutcome options kind kept files got stop
  pub circle : IsLawfulKept kept → stop ≡ Broken Circle → HasCircle (run_files files)
  pub due : RunGoesOut options kind kept files got stop

-- The cause of each status that has one, and the statuses that don't come: a line a status.
pub record RunCauses (sink sink' : SinkView) (tree tree' : TreeView) (keeper keeper' : KeeperView) (result : ℕ) : Type 0 where
  pub tree_fault : result ≡ 4 → Rose tree.faults tree'.faults
  pub keeper_fault : result ≡ 5 → Rose (keeper_faults keeper) (keeper_faults keeper')
  pub sink_fault : result ≡ 6 → Rose sink.faults sink'.faults
  pub sink_stuck : result ≡ 10 → Rose sink.stalls sink'.stalls
  pub not_usage : result ≡ 2 → ⊥
  pub not_source : result ≡ 3 → ⊥
  pub not_refused : result ≡ 8 → ⊥
  pub not_long : result ≡ 9 → ⊥

-- no count of a fault or a stall rose
pub record NoneRose (sink sink' : SinkView) (tree tree' : TreeView) (keeper keeper' : KeeperView) : Type 0 where
  pub tree_faults : Rose tree.faults tree'.faults → ⊥
  pub sink_faults : Rose sink.faults sink'.faults → ⊥
  pub sink_stalls : Rose sink.stalls sink'.stalls → ⊥
  pub keeper_faults_same : Rose (keeper_faults keeper) (keeper_faults keeper') → ⊥

-- What is seen, the files and the status are what is due; and over a lawful keeper exactly what is due was executed.
pub record IsRunDone (options : ToolOptions) (kind : Kind) (sink sink' : SinkView) (tree tree' : TreeView) (keeper keeper' : KeeperView) (kits kits' : Work) (result : ℕ) : Type 0 where
  pub kept : Option (List ℕ)
  pub found : IsHeld keeper.kept kept
  pub files : List Entry
  pub told : IsTold tree.files files
  pub got : SeenRun
  pub due : DueRun options kind kept files got
  pub number : result ≡ number_of (Halted Ended got.seen.found)
  pub says : Appends sink.held sink'.held got.seen.out
  pub writes : IsTold tree'.files got.files
  pub holds : IsHeld keeper'.kept got.seen.kept
  pub loads : IsLawfulKept kept → kits'.loads ≡ kits.loads + got.seen.loads
  pub runs : IsLawfulKept kept → kits'.runs ≡ kits.runs + got.seen.runs
