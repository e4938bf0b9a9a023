-- A single run over a tree outside: what is due, and what has been done when it ends.
use Rattle.std.specs.Prelude.{◌≡◌, ℕ, ◌+◌, ◌≤◌, List, [], ◌∷◌, ◌++◌, length, take, true, false, Option, Result, Ok, Err}
use Rattle.gv_base.specs.Files.{Entry}
use Rattle.analysis_core.specs.declared.reply.ChangedFile.{ChangedFile as Changed}
use Rattle.analysis_core.specs.declared.command.Command.{Command as Kind}
use Rattle.folder.specs.Folders.{IsTold, fronts, put_all}
use Rattle.tree_runs.specs.Reports.{Work, Tree, Entries, HasCircle, IsHonest}
use Rattle.top_calls.specs.declared.options.ToolOptions.{ToolOptions}
use Rattle.scripts.specs.declared.halt.Halt.TheVariants.{Ended}
use Rattle.top_calls.specs.declared.stop.Cut.{Cut}
use Rattle.top_calls.specs.declared.stop.Cut.TheVariants as cause
use Rattle.top_calls.specs.declared.stop.Stop.{Stop}
use Rattle.top_calls.specs.declared.stop.Stop.TheVariants.{Halted, Broken}
use Rattle.scripts.specs.Reading.{IsPrefix}
use Rattle.top_calls.specs.Standing.{Standing, start_at}
use Rattle.top_calls.specs.Deeds.{Ran}
use Rattle.top_calls.specs.Ends.{Moment, Fetching, Greeting, Reading, Idle, Running, Writing, Telling, Storing, Lining, may}
use Rattle.top_calls.specs.Outcome.{Seen, seen_at, Opens, IsEither}
use Rattle.top_calls.specs.Due.{IsLawfulKept, IsWorkOf}
use Rattle.top_calls.specs.Desk.{IsHeld}
use Rattle.std.specs.Io.KnownBytes.{Appends}
use Rattle.gv_base.specs.Sinks.{SinkView}

-- so many first bytes of a file are read: one more than a file may have
abbrev pub most_read : ℕ
most_read = 4194305

-- The files that a run reads of these, each with its first bytes.
abbrev pub run_files : List Entry → Tree
run_files files = fronts most_read files

-- what is seen of a single run, the files of the tree among it
pub record SeenRun : Type 0 where
  pub seen : Seen
  pub files : List Entry

-- What a run leaves and replies, and the files that it changes. Of a run over a cache that isn't honest nothing is said.
pub record RunAnswer (options : ToolOptions) (kind : Kind) (old : Standing) : Type 0 where
  pub next : Standing
  pub reply : List ℕ
  pub changed : List Changed
  pub ran : IsHonest old.cache → Ran options kind old next reply
  pub changes : (h : IsHonest old.cache) → (ran h).report.changed ≡ changed

-- What is seen of a single run that is cut short at a moment: a case a moment.
abbrev pub RunAt : Moment → ToolOptions → Kind → Standing → List Entry → List ℕ → SeenRun → Type 0
RunAt Fetching options kind start files greeting got = ⊥
RunAt Greeting options kind start files greeting got = ⊥
RunAt Idle options kind start files greeting got = ⊥
RunAt Lining options kind start files greeting got = ⊥
RunAt Reading options kind start files greeting got = got ≡ record { seen = seen_at start greeting; files = files }
RunAt Running options kind start files greeting got =
    (got.files ≡ files) × (got.seen.out ≡ greeting) × (got.seen.kept ≡ start.kept) ×
    (IsHonest start.cache → (a : RunAnswer options kind start) → got.seen.loads ≤ a.next.loads) ×
    (IsHonest start.cache → (a : RunAnswer options kind start) → got.seen.runs ≤ a.next.runs)
RunAt Writing options kind start files greeting got =
    (a : RunAnswer options kind start) × (n : ℕ) × (n ≤ length a.changed) × (got.files ≡ put_all files (take n a.changed)) × (got.seen ≡ record { out = greeting; kept = start.kept; found = a.next.found; loads = a.next.loads; runs = a.next.runs })
RunAt Telling options kind start files greeting got =
    (a : RunAnswer options kind start) × (part : List ℕ) × IsPrefix part a.reply × (got.files ≡ put_all files a.changed) × (got.seen ≡ record { out = greeting ++ part; kept = start.kept; found = a.next.found; loads = a.next.loads; runs = a.next.runs })
RunAt Storing options kind start files greeting got =
    (a : RunAnswer options kind start) × (kept : Option (List ℕ)) × IsEither kept start a.next × (got.files ≡ put_all files a.changed) × (got.seen ≡ record { out = greeting ++ a.reply; kept = kept; found = a.next.found; loads = a.next.loads; runs = a.next.runs })

-- What is seen of a single run that was done whole.
abbrev pub IsWhole : ToolOptions → Kind → Standing → List Entry → List ℕ → SeenRun → Type 0
IsWhole options kind start files greeting got = (a : RunAnswer options kind start) × (got ≡ record { seen = seen_at a.next (greeting ++ a.reply); files = put_all files a.changed })

-- what holds where this cause cuts a run short: the rules of a package go in a circle
abbrev pub IsRunCause : Cut → Entries → Tree → Type 0
IsRunCause cause.Circle cache tree = IsHonest cache → HasCircle tree
IsRunCause cause.Source cache tree = Unit {0}
IsRunCause cause.Tree cache tree = Unit {0}
IsRunCause cause.Keeper cache tree = Unit {0}
IsRunCause cause.Sink cache tree = Unit {0}
IsRunCause cause.Memory cache tree = Unit {0}
IsRunCause cause.Stalled cache tree = Unit {0}

-- How a single run ends over a tree of these files and a keeper of these bytes.
pub data RunOutcome (options : ToolOptions) (kind : Kind) (kept : Option (List ℕ)) (files : List Entry) (got : SeenRun) (stop : Stop) : Type 0 where
  unopened : (cut : Cut) → stop ≡ Broken cut → may cut Fetching ≡ true → got ≡ record { seen = record { out = []; kept = kept; found = false; loads = 0; runs = 0 }; files = files } → RunOutcome options kind kept files got stop
  greeted : (cut : Cut) → stop ≡ Broken cut → may cut Greeting ≡ true → (cache : Entries) (greeting part : List ℕ) → Opens kept cache greeting → IsPrefix part greeting → got ≡ record { seen = record { out = part; kept = kept; found = false; loads = 0; runs = 0 }; files = files } → RunOutcome options kind kept files got stop
  cut_off : (cut : Cut) → stop ≡ Broken cut → (cache : Entries) (greeting : List ℕ) → Opens kept cache greeting → (moment : Moment) → may cut moment ≡ true → IsRunCause cut cache (run_files files) → RunAt moment options kind (start_at (run_files files) cache kept) files greeting got → RunOutcome options kind kept files got stop
  halted : stop ≡ Halted Ended got.seen.found → (cache : Entries) (greeting : List ℕ) → Opens kept cache greeting → IsWhole options kind (start_at (run_files files) cache kept) files greeting got → RunOutcome options kind kept files got stop

-- What is due for a single run.
pub record DueRun (options : ToolOptions) (kind : Kind) (kept : Option (List ℕ)) (files : List Entry) (got : SeenRun) : Type 0 where
  pub cache : Entries
  pub greeting : List ℕ
  pub opens : Opens kept cache greeting
  pub whole : IsWhole options kind (start_at (run_files files) cache kept) files greeting got

-- What was seen of a run is the beginning of what is due; the files written are the first of those that it changes.
pub record IsWithinRun (files : List Entry) (got : SeenRun) (whole : Seen) (changed : List Changed) : Type 0 where
  pub out : IsPrefix got.seen.out whole.out
  pub loads : got.seen.loads ≤ whole.loads
  pub runs : got.seen.runs ≤ whole.runs
  pub count : ℕ
  pub written : got.files ≡ put_all files (take count changed)

-- the files after a writing of changed files, by how it ended
abbrev pub WritesTo : List Entry → List Changed → Option (List Entry) → Result (Unit {0}) Cut → Type 0
WritesTo files changed new (Ok done) = IsTold new (put_all files changed)
WritesTo files changed new (Err cut) = (n : ℕ) × (n ≤ length changed) × IsTold new (put_all files (take n changed)) × (may cut Writing ≡ true)

-- it has ended, with the kits' counts from these numbers
pub record RunEnded (options : ToolOptions) (kind : Kind) (kept : Option (List ℕ)) (files : List Entry) (loads runs : ℕ) (out : List ℕ) (tree : Option (List Entry)) (held : Option (Option (List ℕ))) (kits : Work) (stop : Stop) : Type 0 where
  pub got : SeenRun
  pub outcome : RunOutcome options kind kept files got stop
  pub out_is : out ≡ got.seen.out
  pub work : IsLawfulKept kept → IsWorkOf stop loads runs got.seen kits
  pub holds : IsHeld held got.seen.kept
  pub told : IsTold tree got.files

-- the files that a run reads of a tree
pub record ReadsTree (tree : Option (List Entry)) (read : Tree) : Type 0 where
  pub files : List Entry
  pub told : IsTold tree files
  pub read_is : read ≡ run_files files

-- a run over files that were read, with a cache that was found
pub record RunsOn (options : ToolOptions) (kind : Kind) (sink sink' : SinkView) (tree tree' : Option (List Entry)) (held held' : Option (Option (List ℕ))) (kits kits' : Work) (read : Tree) (cache : Entries) (stop : Stop) : Type 0 where
  pub said : List ℕ
  pub says : Appends sink.held sink'.held said
  pub goes : (kept : Option (List ℕ)) (files : List Entry) (greeting : List ℕ) → Opens kept cache greeting → IsHeld held kept → IsTold tree files → read ≡ run_files files → RunEnded options kind kept files (kits.loads) (kits.runs) (greeting ++ said) tree' held' kits' stop

-- a whole single run
pub record SingleRuns (options : ToolOptions) (kind : Kind) (sink sink' : SinkView) (tree tree' : Option (List Entry)) (held held' : Option (Option (List ℕ))) (kits kits' : Work) (stop : Stop) : Type 0 where
  pub kept : Option (List ℕ)
  pub found : IsHeld held kept
  pub files : List Entry
  pub told : IsTold tree files
  pub out : List ℕ
  pub says : Appends sink.held sink'.held out
  pub ended : RunEnded options kind kept files (kits.loads) (kits.runs) out tree' held' kits' stop
