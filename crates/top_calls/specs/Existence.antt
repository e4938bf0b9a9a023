-- That each script that meets no stuck package has a due output: a statement of existence is the denial that there is none.
use Rattle.std.specs.Prelude.{◌≡◌, ℕ, List, [], ◌∷◌, ◌++◌, Option}
use Rattle.gv_base.specs.Files.{AreInOrder}
use Rattle.scripts.specs.declared.halt.Halt.{Halt}
use Rattle.scripts.specs.Reading.{Read}
use Rattle.scripts.specs.Script.{Command}
use Rattle.tree_runs.specs.declared.report.Task.{Task}
use Rattle.tree_runs.specs.declared.report.TreeReport.{TreeReport}
use Rattle.tree_runs.specs.Reports.{Tree, Entries, HasCircle, HasText, Reports}
use Rattle.top_calls.specs.declared.options.ToolOptions.{ToolOptions}
use Rattle.top_calls.specs.Deeds.{IsRun, Leads, deed_of}
use Rattle.top_calls.specs.Due.{Due}
use Rattle.top_calls.specs.Outcome.{Seen}
use Rattle.top_calls.specs.Standing.{Standing, start_at}

-- no tree in which no package is stuck is without a report over a cache that has a text, which leaves one that has a text, whatever is asked
abbrev pub AllHaveReports : Type 0
AllHaveReports = (tree : Tree) (task : Task) (before : Entries) → AreInOrder tree → HasText before → (HasCircle tree → ⊥) → ((after : Entries) (report : TreeReport) → Reports tree task before after report → HasText after → ⊥) → ⊥

-- Among these commands is a run, and those before it lead to a tree in which a package is stuck.
pub record MeetsStuck (options : ToolOptions) (commands : List Command) (start : Standing) : Type 0 where
  pub front : List Command
  pub command : Command
  pub more : List Command
  pub split : commands ≡ front ++ (command ∷ more)
  pub run : IsRun (deed_of command.word command.fields)
  pub now : Standing
  pub replies : List ℕ
  pub leads : Leads options front start now replies
  pub circle : HasCircle now.tree

-- the same of the commands that a script is read as
abbrev pub MeetsCircle : ToolOptions → Entries → Option (List ℕ) → List ℕ → Type 0
MeetsCircle options cache kept script = (commands : List Command) × (rest : List ℕ) × Read script commands rest × MeetsStuck options commands (start_at [] cache kept)

-- the script isn't without a due output and a reason to halt
abbrev pub HasDue : ToolOptions → Option (List ℕ) → List ℕ → Type 0
HasDue options kept script = ((seen : Seen) (halt : Halt) → Due options kept script seen halt → ⊥) → ⊥
