-- What a call of `session` answers for.
use Rattle.std.specs.Prelude.{◌≡◌, ◌⊎◌, ℕ, ◌+◌, ◌≤◌, List, [], length, Option, None, Some}
use Rattle.std.specs.Io.KnownBytes.{Appends, Consumes}
use Rattle.gv_base.specs.Counts.{Rose, RoseBy}
use Rattle.gv_base.specs.Sources.{SourceView}
use Rattle.gv_base.specs.Sinks.{SinkView}
use Rattle.gv_base.specs.Keepers.{KeeperView}
use Rattle.tree_runs.specs.Reports.{Work}
use Rattle.top_calls.specs.declared.options.ToolOptions.{ToolOptions}
use Rattle.scripts.specs.declared.halt.Halt.{Halt}
use Rattle.top_calls.specs.declared.stop.Stop.{Stop}
use Rattle.top_calls.specs.declared.stop.Cut.TheVariants.{Circle}
use Rattle.top_calls.specs.declared.stop.Stop.TheVariants.{Halted, Broken}
use Rattle.scripts.specs.Reading.{limit}
use Rattle.top_calls.specs.Ends.{number_of}
use Rattle.top_calls.specs.Outcome.{Seen, Outcome, Arrives, offset_of, IsCircular}
use Rattle.top_calls.specs.Due.{IsLawfulKept, IsWorkOf, Due, GoesOut}
use Rattle.top_calls.specs.Desk.{IsHeld}

-- how often a keeper has failed
abbrev pub keeper_faults : KeeperView → ℕ
keeper_faults view = view.failed_fetches + view.failed_stores

-- what a keeper holds is lawful, where it tells
abbrev pub IsLawfulHeld : Option (Option (List ℕ)) → Type 0
IsLawfulHeld None = Unit {0}
IsLawfulHeld (Some kept) = IsLawfulKept kept

-- what went out of a script, where the source tells it
abbrev pub GoesOutOf : ToolOptions → Option (List ℕ) → Option (List ℕ) → Seen → Stop → Type 0
GoesOutOf options kept None seen stop = Unit {0}
GoesOutOf options kept (Some script) seen stop = GoesOut options kept script seen stop

-- the commands among these bytes lead to a run over a tree in which the rules of a package go in a circle
pub record MeetsCircle (options : ToolOptions) (kept : Option (List ℕ)) (given : List ℕ) : Type 0 where
  pub arrives : Arrives options [] kept given
  pub circular : IsCircular arrives.now (offset_of arrives) arrives.rest

-- A whole session by the number of its status: what was found at the keeper, what was given in this call, what was seen and how it ended; what was executed; and where the source tells,
-- what was due.
pub record Session (options : ToolOptions) (source source' : SourceView) (sink sink' : SinkView) (keeper keeper' : KeeperView) (kits kits' : Work) (result : ℕ) : Type 0 where
  pub kept : Option (List ℕ)
  pub found : IsHeld keeper.kept kept
  pub given : List ℕ
  pub takes : Consumes source.left source'.left given
  pub counts : RoseBy (length given) source.given source'.given
  pub within : length given ≤ limit + 1
  pub seen : Seen
  pub says : Appends sink.held sink'.held seen.out
  pub holds : IsHeld keeper'.kept seen.kept
  pub stop : Stop
  pub number : result ≡ number_of stop
  pub work : IsLawfulKept kept → IsWorkOf stop kits.loads kits.runs seen kits'
  pub outcome : Outcome options kept given source'.left seen stop
  pub circle : IsLawfulKept kept → stop ≡ Broken Circle → MeetsCircle options kept given
  pub due : GoesOutOf options kept source.left seen stop

-- The cause of each status that has one: a line a status.
pub record Causes (source source' : SourceView) (sink sink' : SinkView) (keeper keeper' : KeeperView) (result : ℕ) : Type 0 where
  pub source_fault : result ≡ 3 → Rose source.faults source'.faults
  pub keeper_fault : result ≡ 5 → Rose (keeper_faults keeper) (keeper_faults keeper')
  pub sink_fault : result ≡ 6 → Rose sink.faults sink'.faults
  pub sink_stuck : result ≡ 10 → Rose sink.stalls sink'.stalls
  pub too_long : result ≡ 9 → RoseBy (limit + 1) source.given source'.given
  pub not_usage : result ≡ 2 → ⊥
  pub not_tree : result ≡ 4 → ⊥

-- no count of a fault or a stall rose
pub record NothingRose (source source' : SourceView) (sink sink' : SinkView) (keeper keeper' : KeeperView) : Type 0 where
  pub source_faults : Rose source.faults source'.faults → ⊥
  pub sink_faults : Rose sink.faults sink'.faults → ⊥
  pub sink_stalls : Rose sink.stalls sink'.stalls → ⊥
  pub keeper_faults_same : Rose (keeper_faults keeper) (keeper_faults keeper') → ⊥

-- the status of want of memory, or of rules that go in a circle
abbrev pub IsLeftOff : ℕ → Type 0
IsLeftOff result = (result ≡ 7) ⊎ (result ≡ 12)

-- What is seen and the status are what is due; and over a lawful keeper exactly what is due was executed.
pub record IsComplete (options : ToolOptions) (script : List ℕ) (source source' : SourceView) (sink sink' : SinkView) (keeper keeper' : KeeperView) (kits kits' : Work) (result : ℕ) : Type 0 where
  pub kept : Option (List ℕ)
  pub found : IsHeld keeper.kept kept
  pub seen : Seen
  pub halt : Halt
  pub due : Due options kept script seen halt
  pub number : result ≡ number_of (Halted halt seen.found)
  pub says : Appends sink.held sink'.held seen.out
  pub holds : IsHeld keeper'.kept seen.kept
  pub loads : IsLawfulKept kept → kits'.loads ≡ kits.loads + seen.loads
  pub runs : IsLawfulKept kept → kits'.runs ≡ kits.runs + seen.runs
