-- Where a cut isn't seen, the report of the cut tree is that of the whole.
use Rattle.std.proofs.Common.{◌≡◌, ◌∙◌, ◌⊎◌, ◌↔◌, ℕ, inl, inr, None, Some, List, sym, ap, subst}
use Rattle.gv_base.specs.Files.{Entry}
use Rattle.fact_cache.specs.declared.list.Entry.{Entry as Kept}
use Rattle.analysis_core.specs.declared.command.Command.{Command}
use Rattle.analysis_core.specs.declared.command.Command.TheVariants.{Check, Report, Facts, Fix}
use Rattle.analysis_core.specs.declared.reply.Reply.{Reply}
use Rattle.analysis_core.specs.declared.reply.TreeLimit.{TreeLimit}
use Rattle.tree_report.specs.Limits.{IsFirstLimit}
use Rattle.tree_report.specs.Reports.{limit_reply, Reports as Replies}
use Rattle.tree_report.specs.Reports.Reports.{of_limit, of_packages}
use Rattle.tree_report.proofs.LimitLemmas.{first-once, not-within}
use Rattle.tree_runs.specs.declared.report.Form.{Form}
use Rattle.tree_runs.specs.declared.report.Form.TheVariants.{Text, Json, Last}
use Rattle.tree_runs.specs.declared.report.Task.{Task}
use Rattle.tree_runs.specs.declared.report.TreeReport.{TreeReport}
use Rattle.tree_runs.specs.Reports.{IsPrinted, Reports}

-- they are one tree, or over one limit first
abbrev AreAlike : List Entry → List Entry → Type 0
AreAlike a b = (a ≡ b) ⊎ ((limit : TreeLimit) × IsFirstLimit a limit × IsFirstLimit b limit)

swapped : (a b : List Entry) → AreAlike a b → AreAlike b a
swapped a b (inl same) = inl (sym same)
swapped a b (inr over) = inr (over.0, over.2, over.1)

-- the reply over a limit has the same bytes, whatever the files are
printed-over : (form : Form) (a b : List Entry) (asked : Command) (l : TreeLimit) (bytes : List ℕ) → IsPrinted form a asked (limit_reply l) bytes → IsPrinted form b asked (limit_reply l) bytes
printed-over Text a b asked l bytes p = p
printed-over Json a b Check l bytes p = p
printed-over Json a b Report l bytes p = record { over = p.over; within = λ none. absurd (let e : Some l ≡ None = none in cc) }
printed-over Json a b Facts l bytes p = p
printed-over Json a b Fix l bytes p = p
printed-over Last a b asked l bytes p = p

report-alike : (a b : List Entry) (task : Task) (before after : List Kept) (report : TreeReport) → AreAlike a b → Reports a task before after report → Reports b task before after report
report-alike a b task before after report (inl same) r = subst (λ (t : List Entry). Reports t task before after report) same r
report-alike a b task before after report (inr over) r = by r.replies
  where
    by : Replies task.command task.only a before after r.reply → Reports b task before after report
    by (of_packages x) = absurd (not-within a (over.0, over.1) x.form.within)
    by (of_limit x kept) =
        let is : r.reply ≡ limit_reply over.0 = x.replies ∙ ap limit_reply (first-once a x.limit over.0 x.first over.1) in
        record {
          reply = r.reply;
          replies = of_limit (record { limit = over.0; first = over.2; replies = is }) kept;
          text = subst (λ (z : Reply). IsPrinted task.form b task.command z report.text) (sym is)
              (printed-over task.form a b task.command over.0 report.text (subst (λ (z : Reply). IsPrinted task.form a task.command z report.text) is r.text));
          found = r.found;
          counts = r.counts;
          changed = r.changed;
        }

-- both ways
pub same-report : (a b : List Entry) (task : Task) (before after : List Kept) (report : TreeReport) → AreAlike a b → Reports a task before after report ↔ Reports b task before after report
same-report a b task before after report alike = (report-alike a b task before after report alike, report-alike b a task before after report (swapped a b alike))
