-- Where nothing was missing and a cache has as many entries as before, it has the same.
use Rattle.std.proofs.Common.{◌≡◌, ◌∙◌, ℕ, ◌≤◌, Bool, true, false, cond, List, [], ◌∷◌, ◌++◌, length, map, refl, sym, ap, arith}
use Rattle.std.proofs.lemmas.List.{append-nil, length-map, nil_from_length}
use Rattle.fact_cache.specs.declared.list.Entry.{Entry}
use Rattle.fact_cache.specs.Caches.{is_within, trimmed}
use Rattle.analysis_core.specs.declared.reply.Counts.{Counts}
use Rattle.tree_report.specs.Caches.{input_of, missing_of}
use Rattle.tree_report.specs.Loads.{all_inputs}
use Rattle.tree_report.specs.Reports.{Reports as Replies}
use Rattle.tree_report.specs.Reports.Reports.{of_limit, of_packages}
use Rattle.tree_runs.specs.declared.report.Task.{Task}
use Rattle.tree_runs.specs.declared.report.TreeReport.{TreeReport}
use Rattle.tree_runs.specs.Reports.{Entries, Reports, Tree}

chosen-short : (within : Bool) (e : Entry) (es rest : List Entry) → length rest ≤ length es → length (cond within (e ∷ es) rest) ≤ length (e ∷ es)
chosen-short true e es rest short = omega arith
chosen-short false e es rest short = omega (arith, short)

trimmed-short : (es : List Entry) → length (trimmed es) ≤ length es
trimmed-short [] = omega arith
trimmed-short (e ∷ es) = chosen-short (is_within (e ∷ es)) e es (trimmed es) (trimmed-short es)

chosen-same : (within : Bool) (e : Entry) (es rest : List Entry) → length rest ≤ length es → length (cond within (e ∷ es) rest) ≡ length (e ∷ es) → cond within (e ∷ es) rest ≡ e ∷ es
chosen-same true e es rest short same = refl
chosen-same false e es rest short same = absurd (omega (arith, short, same))

trimmed-same : (es : List Entry) → length (trimmed es) ≡ length es → trimmed es ≡ es
trimmed-same [] same = refl
trimmed-same (e ∷ es) same = chosen-same (is_within (e ∷ es)) e es (trimmed es) (trimmed-short es) same

module _ (tree : Tree) (task : Task) (before after : Entries) (report : TreeReport) where
  pub still : Reports tree task before after report → report.counts.missing ≡ 0 → length after ≡ length before → after ≡ before
  still r none same = of r.replies
    where
      of : Replies task.command task.only tree before after r.reply → after ≡ before
      of (of_limit limit is) = is
      of (of_packages p) =
          let missing : length (missing_of before (all_inputs p.plan)) ≡ 0 = sym p.missing ∙ ap (λ (c : Counts). c.missing) (sym r.counts) ∙ none in
          let whole : length (map input_of p.cache.added) ≡ length (missing_of before (all_inputs p.plan)) = ap length p.cache.whole in
          let nothing : p.cache.added ≡ [] = nil_from_length p.cache.added (omega (arith, missing, whole, length-map p.cache.added input_of)) in
          let is : after ≡ trimmed before = p.cache.is ∙ ap (λ (added : List Entry). trimmed (before ++ added)) nothing ∙ ap trimmed (append-nil before) in
          is ∙ trimmed-same before (sym (ap length is) ∙ same)
