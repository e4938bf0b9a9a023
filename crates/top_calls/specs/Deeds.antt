-- What commands do: a table from commands to deeds, and what each kind of deed leaves and replies.
use Rattle.std.specs.Prelude.{◌≡◌, ℕ, ◌+◌, List, [], ◌∷◌, ◌++◌, length, codes, if◌then◌else◌, Option, None, Some}
use Rattle.std.specs.Fmt.{decimal}
use Rattle.gv_base.specs.Files.{put_file, del_file, file_at}
use Rattle.analysis_core.specs.Replies.{stats_text}
use Rattle.tree_runs.specs.declared.report.Form.{Form}
use Rattle.tree_runs.specs.declared.report.Form.TheVariants as form
use Rattle.tree_runs.specs.declared.report.Task.{Task}
use Rattle.analysis_core.specs.declared.command.Command.{Command as Kind}
use Rattle.analysis_core.specs.declared.command.Command.TheVariants.{Check as CheckRun, Report as ReportRun, Facts as FactsRun, Fix as FixRun}
use Rattle.tree_runs.specs.declared.report.TreeReport.{TreeReport}
use Rattle.folder.specs.Folders.{put_all}
use Rattle.tree_runs.specs.Reports.{Tree, IsHonest, Reports, CacheSpelled}
use Rattle.top_calls.specs.declared.options.ToolOptions.{ToolOptions}
use Rattle.scripts.specs.declared.word.Word.{Word}
use Rattle.scripts.specs.declared.word.Word.TheVariants.{Put, Del, Show, Check, Report, Facts, Fix, Stats}
use Rattle.scripts.specs.Script.{Fields, at_path, with_file, Command}
use Rattle.top_calls.specs.Standing.{Standing, with_tree}

-- A deed sets the tree and replies, both by what stands there; or it is a run; or it is none.
pub data Deed : Type 0 where
  act : (Standing → Tree) → (Standing → List ℕ) → Deed
  run : Kind → Deed
  stop : Deed

-- the deed is a run
abbrev pub IsRun : Deed → Type 0
IsRun (act sets says) = ⊥
IsRun (run kind) = Unit {0}
IsRun stop = ⊥

-- a file that is held: its path, how many bytes it has, and the bytes
abbrev pub held_text : List ℕ → List ℕ → List ℕ
held_text path bytes = codes "file " ++ (path ++ (32 ∷ (decimal (length bytes) ++ (10 ∷ (bytes ++ 10 ∷ [])))))

-- that no file of this path is held
abbrev pub no_file_text : List ℕ → List ℕ
no_file_text path = codes "no file " ++ (path ++ 10 ∷ [])

abbrev pub text_of_file : List ℕ → Option (List ℕ) → List ℕ
text_of_file path None = no_file_text path
text_of_file path (Some bytes) = held_text path bytes

-- The reply to `show`: the file of the path, or that there is none.
abbrev pub show_text : Tree → List ℕ → List ℕ
show_text tree path = text_of_file path (file_at tree path)

-- The table of commands: a new command is a line here.
abbrev pub deed_of : Word → Fields → Deed
deed_of Put (with_file path bytes) = act (λ s. put_file s.tree path bytes) (λ s. [])
deed_of Del (at_path path) = act (λ s. del_file s.tree path) (λ s. [])
deed_of Show (at_path path) = act (λ s. s.tree) (λ s. show_text s.tree path)
deed_of Stats fields = act (λ s. s.tree) (λ s. stats_text s.counts)
deed_of Check fields = run CheckRun
deed_of Report fields = run ReportRun
deed_of Facts fields = run FactsRun
deed_of Fix fields = run FixRun
deed_of _ _ = stop

-- the form of replies
abbrev pub form_of : ToolOptions → Form
form_of options = if options.brief then form.Last else (if options.json then form.Json else form.Text)

-- what is asked of a run
abbrev pub task_of : ToolOptions → Kind → Task
task_of options kind = record { command = kind; only = options.only; form = form_of options }

-- A run replies the report of the tree over the cache. Then the changed files stand in the tree, the cache is the one that the report leaves, its text is what the keeper is to hold,
-- and the work that the report counts was done.
pub record Ran (options : ToolOptions) (kind : Kind) (old now : Standing) (reply : List ℕ) : Type 0 where
  pub report : TreeReport
  pub reports : Reports old.tree (task_of options kind) old.cache now.cache report
  pub tree : now.tree ≡ put_all old.tree report.changed
  pub found : now.found ≡ report.found
  pub counts : now.counts ≡ report.counts
  pub loads : now.loads ≡ old.loads + report.counts.loads
  pub runs : now.runs ≡ old.runs + report.counts.runs
  pub text : List ℕ
  pub spelled : CacheSpelled now.cache text
  pub kept : now.kept ≡ Some text
  pub reply_is : reply ≡ report.text

-- What a deed leaves and replies. Of a run over a cache that isn't honest nothing is said.
abbrev pub Acts : ToolOptions → Deed → Standing → Standing → List ℕ → Type 0
Acts options (act sets says) old now reply = (now ≡ with_tree old (sets old)) × (reply ≡ says old)
Acts options (run kind) old now reply = IsHonest old.cache → Ran options kind old now reply
Acts options stop old now reply = ⊥

abbrev pub Does : ToolOptions → Command → Standing → Standing → List ℕ → Type 0
Does options command old now reply = Acts options (deed_of command.word command.fields) old now reply

-- the commands lead from one standing to another, with these replies
abbrev pub Leads : ToolOptions → List Command → Standing → Standing → List ℕ → Type 0
Leads options [] start now replies = (now ≡ start) × (replies ≡ [])
Leads options (command ∷ commands) start now replies = (next : Standing) × (reply : List ℕ) × (others : List ℕ) × Does options command start next reply × Leads options commands next now others × (replies ≡ reply ++ others)
