-- What a run over a tree answers, in the form that it is asked for, and what it leaves of a cache.
use Rattle.std.specs.Prelude.{◌≡◌, ℕ, ◌+◌, ◌≤◌, List, Option, None, Some}
use Rattle.std.specs.Option.{option_map_or}
use Rattle.gv_base.specs.Files.{Entry}
use Rattle.fact_cache.specs.declared.list.Entry.{Entry as Kept}
pub use Rattle.fact_cache.specs.CacheTexts.{CacheSpelled}
use Rattle.analysis_core.specs.declared.command.Command.{Command}
use Rattle.analysis_core.specs.declared.command.Command.TheVariants as command
use Rattle.analysis_core.specs.declared.reply.Reply.{Reply}
use Rattle.analysis_core.specs.JsonReplies.{IsJson}
use Rattle.analysis_core.specs.Replies.{is_found, last_line, limit_line, reply_text}
pub use Rattle.tree_report.specs.Reports.{HasCircle, IsHonest}
pub use Rattle.tree_report.specs.Keeping.{IsHeard}
use Rattle.tree_report.specs.Tallies.{tally}
use Rattle.tree_report.specs.Reports.{IsSafe as IsSafeReply, Reports as Replies}
use Rattle.tree_runs.specs.declared.report.Form.{Form}
use Rattle.tree_runs.specs.declared.report.Form.TheVariants as form
use Rattle.tree_runs.specs.declared.report.Task.{Task}
use Rattle.tree_runs.specs.declared.report.TreeReport.{TreeReport}

abbrev pub Tree : Type 0
Tree = List Entry

-- what earlier loads and runs gave, each beside its whole input, the oldest first
abbrev pub Entries : Type 0
Entries = List Kept

-- how much was executed
pub record Work : Type 0 where
  pub loads : ℕ
  pub runs : ℕ

abbrev pub work : ℕ → ℕ → Work
work loads runs = record { loads = loads; runs = runs }

-- the last line of a reply, or the limit line
abbrev pub ending_line : Command → Reply → List ℕ
ending_line asked reply = option_map_or limit_line reply.limit (last_line asked reply)

-- JSON where the command is `report`, else the lines
abbrev pub IsPrintedJson : List Entry → Command → Reply → List ℕ → Type 0
IsPrintedJson files command.Check reply bytes = bytes ≡ reply_text files command.Check reply
IsPrintedJson files command.Report reply bytes = IsJson files reply bytes
IsPrintedJson files command.Facts reply bytes = bytes ≡ reply_text files command.Facts reply
IsPrintedJson files command.Fix reply bytes = bytes ≡ reply_text files command.Fix reply

-- The bytes of a reply to a command in a form.
abbrev pub IsPrinted : Form → List Entry → Command → Reply → List ℕ → Type 0
IsPrinted form.Text files asked reply bytes = bytes ≡ reply_text files asked reply
IsPrinted form.Json files asked reply bytes = IsPrintedJson files asked reply bytes
IsPrinted form.Last files asked reply bytes = bytes ≡ ending_line asked reply

-- The report of a tree over one cache, leaving another: that of its reply, in the form that is asked for.
pub record Reports (tree : Tree) (task : Task) (before after : Entries) (report : TreeReport) : Type 0 where
  pub reply : Reply
  pub replies : Replies task.command task.only tree before after reply
  pub text : IsPrinted task.form tree task.command reply report.text
  pub found : report.found ≡ is_found reply
  pub counts : report.counts ≡ reply.counts
  pub changed : report.changed ≡ reply.changed

-- What holds of a report over any cache: it is that of a reply that tells of the first limit, or of the packages of the tree, and whose places stand in its files.
pub record IsSafe (tree : Tree) (task : Task) (before after : Entries) (count now : Work) (report : TreeReport) : Type 0 where
  pub reply : Reply
  pub replies : IsSafeReply task.command tree before after (tally count.loads count.runs) (tally now.loads now.runs) reply
  pub text : IsPrinted task.form tree task.command reply report.text
  pub found : report.found ≡ is_found reply
  pub counts : report.counts ≡ reply.counts
  pub changed : report.changed ≡ reply.changed

pub record HasText (cache : Entries) : Type 0 where
  pub text : List ℕ
  pub spelled : CacheSpelled cache text

abbrev pub IsDecoded : List ℕ → Option Entries → Type 0
IsDecoded bytes None = (cache : Entries) → CacheSpelled cache bytes → ⊥
IsDecoded bytes (Some cache) = CacheSpelled cache bytes

-- the counts rose by what the report counts
pub record Spends (count now : Work) (report : TreeReport) : Type 0 where
  pub loads : now.loads ≡ count.loads + report.counts.loads
  pub runs : now.runs ≡ count.runs + report.counts.runs

-- and by no more than any report of the tree counts
pub record SpendsAtMost (tree : Tree) (task : Task) (before : Entries) (count now : Work) : Type 0 where
  pub loads : (after : Entries) (report : TreeReport) → Reports tree task before after report → now.loads ≤ count.loads + report.counts.loads
  pub runs : (after : Entries) (report : TreeReport) → Reports tree task before after report → now.runs ≤ count.runs + report.counts.runs
