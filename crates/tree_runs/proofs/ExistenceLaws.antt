-- Where each tree that can be read, and in which no package is stuck, has a reply, each such tree has a report in each form.
use Rattle.std.proofs.Common.{ℕ, List, refl}
use Rattle.gv_base.specs.Files.{AreInOrder, Entry}
use Rattle.analysis_core.specs.declared.command.Command.{Command}
use Rattle.analysis_core.specs.Replies.{is_found}
use Rattle.fact_cache.specs.declared.list.Entry.{Entry as Kept}
use Rattle.tree_report.specs.Existence.{HasReport}
use Rattle.tree_runs.specs.Existence.{AllCanBeRead, HasRun}
use Rattle.tree_runs.specs.Reports.{HasCircle, HasText, Reports}
use Rattle.tree_runs.specs.declared.report.Task.{Task}
use Rattle.tree_runs.specs.declared.report.TreeReport.{TreeReport}
use Rattle.tree_runs.proofs.JsonLaws.{has-printed}
use Rattle.tree_runs.proofs.KeepLaws.{keeps-text}

pub run-exists : ((asked : Command) (only : ℕ) (tree : List Entry) → AreInOrder tree → (before : List Kept) → HasReport asked only tree before) → AllCanBeRead → (tree : List Entry) (task : Task) (before : List Kept) → AreInOrder tree → HasText before → (HasCircle tree → ⊥) → HasRun tree task before
run-exists replies readings tree task before ordered text goes none =
    readings tree ordered (λ read. replies task.command task.only tree ordered before read goes (λ after reply told.
    let printed = has-printed task.form tree task.command reply in
    let report : TreeReport = record { text = printed.bytes; found = is_found reply; counts = reply.counts; changed = reply.changed } in
    let reports : Reports tree task before after report = record { reply = reply; replies = told; text = printed.is; found = refl; counts = refl; changed = refl } in
    none after report reports (keeps-text tree task before after report ordered reports text)))
