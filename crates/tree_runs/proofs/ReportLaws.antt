-- Over one cache a tree has one report to each task.
use Rattle.std.proofs.Common.{◌≡◌, ◌∙◌, ℕ, List, sym, ap, subst}
use Rattle.gv_base.specs.Files.{Entry}
use Rattle.fact_cache.specs.declared.list.Entry.{Entry as Kept}
use Rattle.analysis_core.specs.declared.command.Command.{Command}
use Rattle.analysis_core.specs.declared.command.Command.TheVariants.{Check, Report, Facts, Fix}
use Rattle.analysis_core.specs.declared.reply.Reply.{Reply}
use Rattle.analysis_core.specs.JsonReplies.{IsJson}
use Rattle.analysis_core.specs.Replies.{is_found}
use Rattle.tree_report.specs.Reports.{Reports as Replies}
use Rattle.tree_runs.specs.declared.report.Form.{Form}
use Rattle.tree_runs.specs.declared.report.Form.TheVariants.{Text, Json, Last}
use Rattle.tree_runs.specs.declared.report.Task.{Task}
use Rattle.tree_runs.specs.declared.report.TreeReport.{TreeReport}
use Rattle.tree_runs.specs.Reports.{IsPrinted, IsPrintedJson, Reports}

-- over one cache a tree has one reply
abbrev pub OneReply : Type 0
OneReply = (asked : Command) (only : ℕ) (tree : List Entry) (before after other : List Kept) (a b : Reply) → Replies asked only tree before after a → Replies asked only tree before other b → a ≡ b

-- a reply has one JSON
abbrev pub OneJson : Type 0
OneJson = (files : List Entry) (reply : Reply) (a b : List ℕ) → IsJson files reply a → IsJson files reply b → a ≡ b

json-once : OneJson → (files : List Entry) (asked : Command) (reply : Reply) (a b : List ℕ) → IsPrintedJson files asked reply a → IsPrintedJson files asked reply b → a ≡ b
json-once one files Check reply a b p q = p ∙ sym q
json-once one files Report reply a b p q = one files reply a b p q
json-once one files Facts reply a b p q = p ∙ sym q
json-once one files Fix reply a b p q = p ∙ sym q

printed-once : OneJson → (form : Form) (files : List Entry) (asked : Command) (reply : Reply) (a b : List ℕ) → IsPrinted form files asked reply a → IsPrinted form files asked reply b → a ≡ b
printed-once one Text files asked reply a b p q = p ∙ sym q
printed-once one Json files asked reply a b p q = json-once one files asked reply a b p q
printed-once one Last files asked reply a b p q = p ∙ sym q

same-report : (a b : TreeReport) → a.text ≡ b.text → a.found ≡ b.found → a.counts ≡ b.counts → a.changed ≡ b.changed → a ≡ b
same-report a b t f c x =
    ap (λ z. record { text = z; found = a.found; counts = a.counts; changed = a.changed }) t
    ∙ (ap (λ z. record { text = b.text; found = z; counts = a.counts; changed = a.changed }) f
    ∙ (ap (λ z. record { text = b.text; found = b.found; counts = z; changed = a.changed }) c
    ∙ ap (λ z. record { text = b.text; found = b.found; counts = b.counts; changed = z }) x))

pub report-once : OneReply → OneJson → (tree : List Entry) (task : Task) (before after other : List Kept) (a b : TreeReport) → Reports tree task before after a → Reports tree task before other b → a ≡ b
report-once one json tree task before after other a b r s =
    let same : r.reply ≡ s.reply = one task.command task.only tree before after other r.reply s.reply r.replies s.replies in
    same-report a b (printed-once json task.form tree task.command s.reply a.text b.text (subst (λ (z : Reply). IsPrinted task.form tree task.command z a.text) same r.text) s.text)
    (r.found ∙ (ap is_found same ∙ sym s.found)) (r.counts ∙ (ap (λ (z : Reply). z.counts) same ∙ sym s.counts)) (r.changed ∙ (ap (λ (z : Reply). z.changed) same ∙ sym s.changed))
