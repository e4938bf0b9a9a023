-- Over one cache a tree has one report.
use Rattle.std.proofs.Common.{◌≡◌, ℕ, inl, inr, Option, List, length, map, sym, ap, ◌∙◌, subst}
use Rattle.gv_base.specs.Files.{Entry}
use Rattle.go_tree.specs.declared.head.Head.{Head}
use Rattle.parse_file.specs.declared.verdict.FileVerdict.{FileVerdict}
use Rattle.import_graph.specs.declared.pack.Package.{Package}
use Rattle.gv_driver.proofs.PlanLaws.{unique-plan}
use Rattle.gv_driver.proofs.OnceLaws.{report-once, found-once, cache-once, honest-after}
use Rattle.gv_driver.specs.Caches.{IsCacheAfter, IsHonest, loads_of, missing_of, runs_of}
use Rattle.gv_driver.specs.Loads.{IsPlan, all_inputs}
use Rattle.gv_driver.specs.Reports.{IsFactReport, IsReport, IsRunReport}
use Rattle.gv_driver.specs.declared.reply.Verdict.{Verdict}
use Rattle.gv_driver.specs.declared.tree.PackageTexts.{PackageTexts}
use Rattle.fact_cache.specs.declared.list.Entry.{Entry as Kept}
use Rattle.analysis_core.specs.declared.command.Command.{Command}
use Rattle.analysis_core.specs.declared.reply.Counts.{Counts}
use Rattle.analysis_core.specs.declared.reply.Reply.{Reply}
use Rattle.analysis_core.specs.declared.reply.TreeLimit.{TreeLimit}
use Rattle.fact_lines.specs.Lines.{all_facts}
use Rattle.tree_findings.specs.Lines.{all_lines}
use Rattle.tree_findings.specs.Telling.{chosen_by, IsTold}
use Rattle.tree_findings.proofs.ToldLemmas.{told-once}
use Rattle.tree_report.specs.Form.{HasReading, IsForm}
use Rattle.tree_report.specs.Lines.{error_lines}
use Rattle.tree_report.specs.Reports.{texts_of, limit_reply, Reports, ReportsLimit, ReportsPackages}
use Rattle.tree_report.specs.Reports.Reports.{of_limit, of_packages}
use Rattle.tree_report.proofs.OnceLemmas.{Same, reading-once}
use Rattle.tree_report.proofs.LimitLemmas.{first-once, not-within}

-- packages have one list of facts, as a law of `gv_driver` says
abbrev pub FactsOnce : Type 0
FactsOnce = (tree : List PackageTexts) (only : ℕ) (verdicts : List Verdict) (a b : List (List (ℕ × List ℕ))) → IsReport tree verdicts → IsFactReport tree only verdicts a → IsFactReport tree only verdicts b → a ≡ b

form-once : (tree : List Entry) (v w : List (Option FileVerdict)) (h g : List (Option Head)) (p q : List Package) → IsForm tree v h p → IsForm tree w g q → Same v w h g p q
form-once tree v w h g p q one two = reading-once tree v w h g p q one.read two.read one.headed two.headed one.packed two.packed

same-counts : (a b : Counts) → a.nodes ≡ b.nodes → a.missing ≡ b.missing → a.loads ≡ b.loads → a.runs ≡ b.runs → a ≡ b
same-counts a b n m l r =
    ap (λ x. record { nodes = x; missing = a.missing; loads = a.loads; runs = a.runs }) n
    ∙ (ap (λ x. record { nodes = b.nodes; missing = x; loads = a.loads; runs = a.runs }) m
    ∙ (ap (λ x. record { nodes = b.nodes; missing = b.missing; loads = x; runs = a.runs }) l
    ∙ ap (λ x. record { nodes = b.nodes; missing = b.missing; loads = b.loads; runs = x }) r))

module _ (asked : Command) (only : ℕ) (tree : List Entry) (before after other : List Kept) (a b : Reply) (r : ReportsPackages asked only tree before after a) (s : ReportsPackages asked only tree before other b) where
  same-form : Same r.verdicts s.verdicts r.heads s.heads r.packages s.packages
  same-form = form-once tree r.verdicts s.verdicts r.heads s.heads r.packages s.packages r.form s.form

  plan-once : r.plan ≡ s.plan
  plan-once = unique-plan (map (texts_of tree) s.packages) (chosen_by asked only) r.plan s.plan (subst (λ p. IsPlan (map (texts_of tree) p) (chosen_by asked only) r.plan) same-form.packages r.is_plan) s.is_plan

  packages-cache-once : after ≡ other
  packages-cache-once = cache-once before after other (all_inputs s.plan) (subst (λ i. IsCacheAfter before after (all_inputs i)) plan-once r.cache) s.cache

  counts-once : a.counts ≡ b.counts
  counts-once =
      same-counts a.counts b.counts
      (r.nodes ∙ (ap (λ i. length (all_inputs i)) plan-once ∙ sym s.nodes))
      (r.missing ∙ (ap (λ i. length (missing_of before (all_inputs i))) plan-once ∙ sym s.missing))
      (r.loads ∙ (ap (loads_of before) plan-once ∙ sym s.loads))
      (r.runs ∙ (ap (runs_of before) plan-once ∙ sym s.runs))

  outcomes-once : r.outcomes ≡ s.outcomes
  outcomes-once = report-once (map (texts_of tree) s.packages) r.outcomes s.outcomes (subst (λ p. IsReport (map (texts_of tree) p) r.outcomes) same-form.packages r.outcome) s.outcome

  findings-once : r.findings ≡ s.findings
  findings-once =
      found-once (map (texts_of tree) s.packages) (chosen_by asked only) s.outcomes r.findings s.findings s.outcome
      (subst (λ o. IsRunReport (map (texts_of tree) s.packages) (chosen_by asked only) o r.findings) outcomes-once
      (subst (λ p. IsRunReport (map (texts_of tree) p) (chosen_by asked only) r.outcomes r.findings) same-form.packages r.finds)) s.finds

  facts-alike : FactsOnce → r.facts ≡ s.facts
  facts-alike once =
      once (map (texts_of tree) s.packages) (chosen_by asked only) s.outcomes r.facts s.facts s.outcome
      (subst (λ o. IsFactReport (map (texts_of tree) s.packages) (chosen_by asked only) o r.facts) outcomes-once
      (subst (λ p. IsFactReport (map (texts_of tree) p) (chosen_by asked only) r.outcomes r.facts) same-form.packages r.given)) s.given

  packages-report-once : FactsOnce → a ≡ b
  packages-report-once once =
      told-once asked tree (all_lines s.packages s.findings) (all_facts s.packages s.facts) a b
      (subst (λ f. IsTold asked tree (all_lines s.packages s.findings) (all_facts s.packages f) a) (facts-alike once)
      (subst (λ f. IsTold asked tree (all_lines s.packages f) (all_facts s.packages r.facts) a) findings-once
      (subst (λ p. IsTold asked tree (all_lines p r.findings) (all_facts p r.facts) a) same-form.packages r.told))) s.told
      (r.size ∙ (ap length same-form.packages ∙ sym s.size))
      (r.errors ∙ (ap (λ v. error_lines r.heads v r.packages r.outcomes) same-form.verdicts ∙ (ap (λ h. error_lines h s.verdicts r.packages r.outcomes) same-form.heads
      ∙ (ap (λ p. error_lines s.heads s.verdicts p r.outcomes) same-form.packages ∙ (ap (λ o. error_lines s.heads s.verdicts s.packages o) outcomes-once ∙ sym s.errors)))))
      counts-once

packages-honest : (asked : Command) (only : ℕ) (tree : List Entry) (before after : List Kept) (a : Reply) → IsHonest before → ReportsPackages asked only tree before after a → IsHonest after
packages-honest asked only tree before after a honest r = honest-after before after (all_inputs r.plan) honest r.cache

-- ---- over a limit or not

limit-report-once : (tree : List Entry) (a b : Reply) → ReportsLimit tree a → ReportsLimit tree b → a ≡ b
limit-report-once tree a b r s =
    let same : r.limit ≡ s.limit = first-once tree r.limit s.limit r.first s.first in
    r.replies ∙ (ap limit_reply same ∙ sym s.replies)

pub report-once-of : FactsOnce → (asked : Command) (only : ℕ) (tree : List Entry) (before after other : List Kept) (a b : Reply) → Reports asked only tree before after a → Reports asked only tree before other b → a ≡ b
report-once-of once asked only tree before after other a b (of_limit r kept) (of_limit s same) = limit-report-once tree a b r s
report-once-of once asked only tree before after other a b (of_limit r kept) (of_packages s) = absurd (not-within tree (r.limit, r.first) s.form.within)
report-once-of once asked only tree before after other a b (of_packages r) (of_limit s same) = absurd (not-within tree (s.limit, s.first) r.form.within)
report-once-of once asked only tree before after other a b (of_packages r) (of_packages s) = packages-report-once asked only tree before after other a b r s once

pub cache-once-of : (asked : Command) (only : ℕ) (tree : List Entry) (before after other : List Kept) (a b : Reply) → Reports asked only tree before after a → Reports asked only tree before other b → after ≡ other
cache-once-of asked only tree before after other a b (of_limit r kept) (of_limit s same) = kept ∙ sym same
cache-once-of asked only tree before after other a b (of_limit r kept) (of_packages s) = absurd (not-within tree (r.limit, r.first) s.form.within)
cache-once-of asked only tree before after other a b (of_packages r) (of_limit s same) = absurd (not-within tree (s.limit, s.first) r.form.within)
cache-once-of asked only tree before after other a b (of_packages r) (of_packages s) = packages-cache-once asked only tree before after other a b r s

pub read-of : (asked : Command) (only : ℕ) (tree : List Entry) (before after : List Kept) (a : Reply) → Reports asked only tree before after a → HasReading tree
read-of asked only tree before after a (of_limit r kept) = inl (r.limit, r.first)
read-of asked only tree before after a (of_packages r) = inr (r.verdicts, (r.heads, (r.packages, r.form)))

pub honest-after-of : (asked : Command) (only : ℕ) (tree : List Entry) (before after : List Kept) (a : Reply) → IsHonest before → Reports asked only tree before after a → IsHonest after
honest-after-of asked only tree before after a honest (of_limit r kept) = subst (λ l. IsHonest l) (sym kept) honest
honest-after-of asked only tree before after a honest (of_packages r) = packages-honest asked only tree before after a honest r
