-- What the top call answers for, by what its words ask.
use Rattle.std.specs.Prelude.{◌≡◌, ℕ, List, [], Bool, true, false, Some}
use Rattle.std.specs.Io.KnownBytes.{Appends}
use Rattle.gv_base.specs.Counts.{Rose}
use Rattle.gv_base.specs.Keepers.{KeeperView}
use Rattle.gv_base.specs.Sinks.{SinkView}
use Rattle.gv_base.specs.Sources.{SourceView}
use Rattle.gv_base.specs.Trees.{TreeView}
use Rattle.chain_script.specs.Chain.{chain_text}
use Rattle.scripts.specs.declared.halt.Halt.TheVariants.{Ended}
use Rattle.scripts.specs.Reading.{IsPrefix}
use Rattle.tree_runs.specs.Reports.{Work}
use Rattle.words.specs.declared.asked.Asked.{Asked}
use Rattle.words.specs.declared.asked.Asked.TheVariants as asked
use Rattle.words.specs.declared.asked.Words.{Words}
use Rattle.top_calls.specs.declared.options.ToolOptions.{ToolOptions}
use Rattle.top_calls.specs.declared.stop.Cut.{Cut}
use Rattle.top_calls.specs.declared.stop.Stop.{Stop}
use Rattle.top_calls.specs.declared.stop.Stop.TheVariants.{Halted, Broken}
use Rattle.top_calls.specs.Ends.{Telling, may, number_of}
use Rattle.top_calls.specs.Headline.{IsComplete, Session, keeper_faults}
use Rattle.top_calls.specs.RunHeadline.{IsRunDone, Single}

-- all that the devices of a call show, and the work of its kits
pub record World : Type 0 where
  pub source : SourceView
  pub sink : SinkView
  pub tree : TreeView
  pub keeper : KeeperView
  pub kits : Work

-- the options of words; of a run's reply the last line alone goes out where that is asked for
abbrev pub options_of : Words → Bool → ToolOptions
options_of words brief = record { workers = words.workers; only = words.only; json = words.json; brief = brief }

-- How the writing of a text ends: it went out whole, or the beginning of it did.
pub data WritesOut (text out : List ℕ) (stop : Stop) : Type 0 where
  whole : stop ≡ Halted Ended false → out ≡ text → WritesOut text out stop
  part : (cut : Cut) → stop ≡ Broken cut → may cut Telling ≡ true → IsPrefix out text → WritesOut text out stop

-- the script of a chain of so many packages was written
pub record Generates (count : ℕ) (sink sink' : SinkView) (result : ℕ) : Type 0 where
  pub out : List ℕ
  pub says : Appends sink.held sink'.held out
  pub stop : Stop
  pub number : result ≡ number_of stop
  pub ends : WritesOut (chain_text count) out stop

-- a source of these bytes that never fails, before the first read
abbrev pub sure_source : List ℕ → SourceView
sure_source bytes = record { left = Some bytes; faults = 0; given = 0 }

-- a session over the script of a chain
pub record Loads (options : ToolOptions) (count : ℕ) (sink sink' : SinkView) (keeper keeper' : KeeperView) (kits kits' : Work) (result : ℕ) : Type 0 where
  pub after : SourceView
  pub sure : after.faults ≡ 0
  pub session : Session options (sure_source (chain_text count)) after sink sink' keeper keeper' kits kits' result

-- What a call does, by what is asked. What it needs not is as it was.
abbrev pub Does : Words → Asked → World → World → ℕ → Type 0
Does words asked.Session old new result = Session (options_of words false) old.source new.source old.sink new.sink old.keeper new.keeper old.kits new.kits result × (new.tree ≡ old.tree)
Does words (asked.Run command) old new result = Single (options_of words false) command old.sink new.sink old.tree new.tree old.keeper new.keeper old.kits new.kits result × (new.source ≡ old.source)
Does words (asked.Gen count) old new result = Generates count old.sink new.sink result × (new.source ≡ old.source) × (new.tree ≡ old.tree) × (new.keeper ≡ old.keeper) × (new.kits ≡ old.kits)
Does words (asked.Load count) old new result = Loads (options_of words true) count old.sink new.sink old.keeper new.keeper old.kits new.kits result × (new.source ≡ old.source) × (new.tree ≡ old.tree)

-- The cause of each status that has one: a line a status.
pub record CallCauses (old new : World) (result : ℕ) : Type 0 where
  pub source_fault : result ≡ 3 → Rose old.source.faults new.source.faults
  pub tree_fault : result ≡ 4 → Rose old.tree.faults new.tree.faults
  pub keeper_fault : result ≡ 5 → Rose (keeper_faults old.keeper) (keeper_faults new.keeper)
  pub sink_fault : result ≡ 6 → Rose old.sink.faults new.sink.faults
  pub sink_stuck : result ≡ 10 → Rose old.sink.stalls new.sink.stalls

-- the statuses of the writing of a script
pub record WriteCauses (sink sink' : SinkView) (result : ℕ) : Type 0 where
  pub sink_fault : result ≡ 6 → Rose sink.faults sink'.faults
  pub sink_stuck : result ≡ 10 → Rose sink.stalls sink'.stalls
  pub not_usage : result ≡ 2 → ⊥
  pub not_source : result ≡ 3 → ⊥
  pub not_tree : result ≡ 4 → ⊥
  pub not_keeper : result ≡ 5 → ⊥

-- the statuses of a session over a source that is sure
pub record LoadCauses (sink sink' : SinkView) (keeper keeper' : KeeperView) (result : ℕ) : Type 0 where
  pub keeper_fault : result ≡ 5 → Rose (keeper_faults keeper) (keeper_faults keeper')
  pub sink_fault : result ≡ 6 → Rose sink.faults sink'.faults
  pub sink_stuck : result ≡ 10 → Rose sink.stalls sink'.stalls
  pub not_usage : result ≡ 2 → ⊥
  pub not_source : result ≡ 3 → ⊥
  pub not_tree : result ≡ 4 → ⊥

-- what is asked for was done, and each status has its cause
pub record Serves (words : Words) (old new : World) (result : ℕ) : Type 0 where
  pub does : Does words words.asked old new result
  pub causes : CallCauses old new result
  pub not_usage : result ≡ 2 → ⊥

-- no count of a fault or a stall rose
pub record AllSure (old new : World) : Type 0 where
  pub source_faults : Rose old.source.faults new.source.faults → ⊥
  pub tree_faults : Rose old.tree.faults new.tree.faults → ⊥
  pub sink_faults : Rose old.sink.faults new.sink.faults → ⊥
  pub sink_stalls : Rose old.sink.stalls new.sink.stalls → ⊥
  pub keeper_faults_same : Rose (keeper_faults old.keeper) (keeper_faults new.keeper) → ⊥

-- What is due was done, by what is asked.
abbrev pub IsDone : Words → Asked → World → World → ℕ → Type 0
IsDone words asked.Session old new result = (script : List ℕ) → old.source.left ≡ Some script → IsComplete (options_of words false) script old.source new.source old.sink new.sink old.keeper new.keeper old.kits new.kits result
IsDone words (asked.Run command) old new result = IsRunDone (options_of words false) command old.sink new.sink old.tree new.tree old.keeper new.keeper old.kits new.kits result
IsDone words (asked.Gen count) old new result = (result ≡ 0) × Appends old.sink.held new.sink.held (chain_text count)
IsDone words (asked.Load count) old new result = (after : SourceView) × IsComplete (options_of words true) (chain_text count) (sure_source (chain_text count)) after old.sink new.sink old.keeper new.keeper old.kits new.kits result
