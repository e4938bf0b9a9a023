-- No run executes more than any report of its tree counts.
use Rattle.std.proofs.Common.{◌≡◌, ◌∙◌, ℕ, zero, suc, ◌+◌, ◌≤◌, Option, Some, List, [], ◌∷◌, map, slice_get, sym, ap, subst, arith}
use Rattle.std.specs.Prelude.{sum_by}
use Rattle.std.proofs.lemmas.List.Sums.{sum_by-cons}
use Rattle.std.proofs.lemmas.Option.{same_Some}
use Rattle.gv_base.specs.Files.{Entry}
use Rattle.go_tree.specs.declared.head.Head.{Head}
use Rattle.parse_file.specs.declared.verdict.FileVerdict.{FileVerdict}
use Rattle.import_graph.specs.declared.pack.Package.{Package}
use Rattle.fact_cache.specs.declared.list.Entry.{Entry as Kept}
use Rattle.tree_report.specs.Loads.{IsPlan}
use Rattle.tree_report.specs.Tallies.{Tally, tally}
use Rattle.tree_findings.specs.Telling.{chosen_by}
use Rattle.analysis_core.specs.declared.command.Command.{Command}
use Rattle.analysis_core.specs.declared.reply.Counts.{Counts}
use Rattle.analysis_core.specs.declared.reply.Reply.{Reply}
use Rattle.tree_report.specs.Form.{IsForm}
use Rattle.tree_report.specs.Reports.{texts_of, IsStopped, ReportsPackages, Reports as Replies}
use Rattle.tree_report.specs.Reports.Reports.{of_limit, of_packages}
use Rattle.tree_report.specs.Reports.IsStopped.{not_run, in_run}
use Rattle.tree_report.proofs.LimitLemmas.{not-within}
use Rattle.tree_report.proofs.OnceLemmas.{reading-once}
use Rattle.tree_runs.specs.declared.report.Task.{Task}
use Rattle.tree_runs.specs.Reports.{work, SpendsAtMost}
use Rattle.tree_runs.proofs.ReportLaws.{OneReply}

pub each-within : {X : Type 0} (f : X → ℕ) (xs : List X) (k : ℕ) (x : X) → slice_get xs k ≡ Some x → f x ≤ sum_by f xs
each-within f [] zero x e = cc
each-within f [] (suc k) x e = cc
each-within f (y ∷ ys) zero x e =
    let s : f y ≡ f x = ap f (same_Some y x e) in
    let c : sum_by f (y ∷ ys) ≡ f y + sum_by f ys = sum_by-cons f y ys in
    omega arith
each-within f (y ∷ ys) (suc k) x e =
    let r : f x ≤ sum_by f ys = each-within f ys k x e in
    let c : sum_by f (y ∷ ys) ≡ f y + sum_by f ys = sum_by-cons f y ys in
    omega arith

-- after a reply
pub spends-told : OneReply → (tree : List Entry) (task : Task) (before after : List Kept) (reply : Reply) (loads runs loads' runs' : ℕ) → Replies task.command task.only tree before after reply → loads' ≡ loads + reply.counts.loads → runs' ≡ runs + reply.counts.runs
    → SpendsAtMost tree task before (work loads runs) (work loads' runs')
spends-told one tree task before after reply loads runs loads' runs' given l r = record {
  loads = λ other report s.
      (let same : report.counts ≡ reply.counts = s.counts ∙ ap (λ (z : Reply). z.counts) (one task.command task.only tree before other after s.reply reply s.replies given) in
      let e : report.counts.loads ≡ reply.counts.loads = ap (λ (z : Counts). z.loads) same in omega arith);
  runs = λ other report s.
      (let same : report.counts ≡ reply.counts = s.counts ∙ ap (λ (z : Reply). z.counts) (one task.command task.only tree before other after s.reply reply s.replies given) in
      let e : report.counts.runs ≡ reply.counts.runs = ap (λ (z : Counts). z.runs) same in omega arith);
}

-- ---- where it was cut off

plan-of : (asked : Command) (only : ℕ) (tree : List Entry) (before other : List Kept) (reply : Reply) (v : List (Option FileVerdict)) (h : List (Option Head)) (p : List Package) → IsForm tree v h p → (x : ReportsPackages asked only tree before other reply)
    → IsPlan (map (texts_of tree) p) (chosen_by asked only) x.plan
plan-of asked only tree before other reply v h p form x =
    let same = reading-once tree v x.verdicts h x.heads p x.packages form.read x.form.read form.headed x.form.headed form.packed x.form.packed in
    subst (λ q. IsPlan (map (texts_of tree) q) (chosen_by asked only) x.plan) (sym same.packages) x.is_plan

loads-cut : (asked : Command) (only : ℕ) (tree : List Entry) (before after other : List Kept) (loads runs loads' runs' : ℕ) (reply : Reply) → IsStopped asked only tree before after (tally loads runs) (tally loads' runs') → Replies asked only tree before other reply → loads' ≤ loads + reply.counts.loads
loads-cut asked only tree before after other loads runs loads' runs' reply (not_run kept same) r = (let e : loads' ≡ loads = ap (λ (t : Tally). t.loads) same in omega arith)
loads-cut asked only tree before after other loads runs loads' runs' reply (in_run v h p form cut) (of_limit x kept) = absurd (not-within tree (x.limit, x.first) form.within)
loads-cut asked only tree before after other loads runs loads' runs' reply (in_run v h p form cut) (of_packages x) = (let m = cut.loads x.plan (plan-of asked only tree before other reply v h p form x) in let e = x.loads in omega arith)

runs-cut : (asked : Command) (only : ℕ) (tree : List Entry) (before after other : List Kept) (loads runs loads' runs' : ℕ) (reply : Reply) → IsStopped asked only tree before after (tally loads runs) (tally loads' runs') → Replies asked only tree before other reply → runs' ≤ runs + reply.counts.runs
runs-cut asked only tree before after other loads runs loads' runs' reply (not_run kept same) r = (let e : runs' ≡ runs = ap (λ (t : Tally). t.runs) same in omega arith)
runs-cut asked only tree before after other loads runs loads' runs' reply (in_run v h p form cut) (of_limit x kept) = absurd (not-within tree (x.limit, x.first) form.within)
runs-cut asked only tree before after other loads runs loads' runs' reply (in_run v h p form cut) (of_packages x) = (let m = cut.runs x.plan (plan-of asked only tree before other reply v h p form x) in let e = x.runs in omega arith)

pub spends-cut : (tree : List Entry) (task : Task) (before after : List Kept) (loads runs loads' runs' : ℕ) → IsStopped task.command task.only tree before after (tally loads runs) (tally loads' runs') → SpendsAtMost tree task before (work loads runs) (work loads' runs')
spends-cut tree task before after loads runs loads' runs' stopped = record {
  loads = λ other report s.
      (let m = loads-cut task.command task.only tree before after other loads runs loads' runs' s.reply stopped s.replies in
      let e : report.counts.loads ≡ s.reply.counts.loads = ap (λ (z : Counts). z.loads) s.counts in omega arith);
  runs = λ other report s.
      (let m = runs-cut task.command task.only tree before after other loads runs loads' runs' s.reply stopped s.replies in
      let e : report.counts.runs ≡ s.reply.counts.runs = ap (λ (z : Counts). z.runs) s.counts in omega arith);
}
