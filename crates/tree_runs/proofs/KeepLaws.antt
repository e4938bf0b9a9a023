-- A run over a cache that has a text leaves one that has a text.
use Rattle.std.proofs.Common.{◌≡◌, ◌∙◌, ℕ, zero, suc, ◌+◌, ◌<◌, ◌≤◌, ◌^◌, inl, inr, Bool, true, false, if◌then◌else◌, Some, List, [], ◌∷◌, ◌++◌, get_or, length, map, slice_get, refl, sym, ap, subst, arith}
use Rattle.std.specs.List.{AllByRecursion, Contains}
use Rattle.std.proofs.lemmas.Bool.Decides.{Decides-eqb}
use Rattle.std.proofs.lemmas.Option.{same_Some}
use Rattle.std.proofs.lemmas.Slice.Eq.{slice_eq-Decides, bytes_eq-Decides}
use Rattle.std.proofs.lemmas.List.{map-append}
use Rattle.gv_base.specs.Files.{AreInOrder, Entry as File}
use Rattle.fact_cache.specs.declared.texts.Input.{Input}
use Rattle.fact_cache.specs.declared.list.Entry.{Entry}
use Rattle.fact_cache.specs.CacheTexts.{IsCacheValue, cache_text}
use Rattle.fact_cache.specs.Caches.{AreDistinct, is_within, lookup, trimmed}
use Rattle.fact_cache.specs.Inputs.{same_input, same_texts}
use Rattle.tree_report.specs.PackageTexts.{PackageTexts}
use Rattle.tree_report.specs.Analyzers.{analyzers_of}
use Rattle.tree_report.specs.Caches.{IsCacheAfter, IsHonest, IsRight, input_of, is_cached, is_found}
use Rattle.tree_report.specs.Loads.{IsNodeInput, IsPlan, all_inputs}
use Rattle.tree_report.specs.Trees.{IsTree}
use Rattle.tree_report.proofs.AnalyzerLaws.{analyzers-rise}
use Rattle.tree_report.proofs.EntryLaws.{Distinct, IsFrom, distinct-append, distinct-missing, in-append, missing-not}
use Rattle.tree_report.proofs.Places.{at-contained, contains-at, get-mapped, get-unmapped, nothing-contained}
use Rattle.tree_report.proofs.WholeLaws.{same-number}
use Rattle.tree_findings.specs.Telling.{chosen_by}
use Rattle.tree_report.specs.Reports.{texts_of, Reports as Replies}
use Rattle.tree_report.specs.Reports.Reports.{of_limit, of_packages}
use Rattle.tree_report.proofs.TreeLemmas.{is-tree}
use Rattle.tree_runs.specs.declared.report.Task.{Task}
use Rattle.tree_runs.specs.declared.report.TreeReport.{TreeReport}
use Rattle.tree_runs.specs.Reports.{HasText, Reports}

differ : (b : Bool) → b ≡ true → b ≡ false → ⊥
differ true h k = cc
differ false h k = cc

-- ---- the inputs of a plan

module _ (tree : List PackageTexts) (only : ℕ) where
  node-from : (p k : ℕ) (i : Input) → IsNodeInput tree only p k i → IsFrom tree p i
  node-from p zero i n = record { pack = n.of.pack; at = n.of.at; path = ap (λ (j : Input). get_or j.texts 0 []) n.is ∙ n.of.path }
  node-from p (suc k) i n = record { pack = n.of.pack; at = n.of.at; path = ap (λ (j : Input). get_or j.texts 0 []) n.is ∙ n.of.path }

  node-rises : (p j k : ℕ) (x y : Input) → j < k → IsNodeInput tree only p j x → IsNodeInput tree only p k y → x.node < y.node
  node-rises p zero zero x y low a b = absurd (omega (arith, low))
  node-rises p (suc j) zero x y low a b = absurd (omega (arith, low))
  node-rises p zero (suc k) x y low a b =
      let n : x.node ≡ 0 = ap (λ (i : Input). i.node) a.is in
      let m : y.node ≡ b.analyzer = ap (λ (i : Input). i.node) b.is in
      let some : 0 < b.analyzer = ((analyzers-rise only b.of.pack.stub).each k b.analyzer b.chosen).0 in
      omega (arith, n, m, some)
  node-rises p (suc j) (suc k) x y low a b =
      let n : x.node ≡ a.analyzer = ap (λ (i : Input). i.node) a.is in
      let m : y.node ≡ b.analyzer = ap (λ (i : Input). i.node) b.is in
      let same : a.of.pack ≡ b.of.pack = same_Some a.of.pack b.of.pack (sym a.of.at ∙ b.of.at) in
      let chosen : slice_get (analyzers_of only b.of.pack.stub) j ≡ Some a.analyzer = subst (λ (q : PackageTexts). slice_get (analyzers_of only q.stub) j ≡ Some a.analyzer) same a.chosen in
      let rises : a.analyzer < b.analyzer = (analyzers-rise only b.of.pack.stub).rises j k a.analyzer b.analyzer (omega (arith, low)) chosen b.chosen in
      omega (arith, n, m, rises)

  -- those of p from a place on
  abbrev Row : ℕ → ℕ → List Input → Type 0
  Row p from row = (k : ℕ) (i : Input) → slice_get row k ≡ Some i → IsNodeInput tree only p (from + k) i

  row-distinct : (p from : ℕ) (row : List Input) → Row p from row → Distinct row
  row-distinct p from [] are = tt
  row-distinct p from (x ∷ row) are = (
    λ c.
        let low : x.node < x.node = node-rises p (from + 0) (from + suc c.0) x x (omega arith) (are 0 x refl) (are (suc c.0) x (at-contained row x c)) in
        omega (arith, low),
    row-distinct p (suc from) row (λ k i h. subst (λ (n : ℕ). IsNodeInput tree only p n i) (omega arith) (are (suc k) i h)),
  )

  -- those of the packages from a number on
  abbrev Rows : ℕ → List (List Input) → Type 0
  Rows from plan = (p : ℕ) (row : List Input) → slice_get plan p ≡ Some row → Row (from + p) 0 row

  first : (from : ℕ) (row : List Input) (plan : List (List Input)) → Rows from (row ∷ plan) → Row from 0 row
  first from row plan are = subst (λ (q : ℕ). Row q 0 row) (omega arith) (are 0 row refl)

  next : (from : ℕ) (row : List Input) (plan : List (List Input)) → Rows from (row ∷ plan) → Rows (suc from) plan
  next from row plan are p r h = subst (λ (q : ℕ). Row q 0 r) (omega arith) (are (suc p) r h)

  all-from : (from : ℕ) (plan : List (List Input)) → Rows from plan → (i : Input) → Contains (all_inputs plan) i → (p : ℕ) × (from ≤ p) × IsFrom tree p i
  all-from from [] are i c = absurd (nothing-contained i c)
  all-from from (row ∷ plan) are i c = elim (in-append row (all_inputs plan) i c) [
    | inl d ↦ (from, (omega arith), node-from from (0 + d.0) i (first from row plan are d.0 i (at-contained row i d)))
    | inr d ↦ (let h = all-from (suc from) plan (next from row plan are) i d in (h.0, (let l : suc from ≤ h.0 = h.1 in omega (arith, l)), h.2))
  ]

  plan-distinct : IsTree tree → (from : ℕ) (plan : List (List Input)) → Rows from plan → Distinct (all_inputs plan)
  plan-distinct formed from [] are = tt
  plan-distinct formed from (row ∷ plan) are =
      distinct-append row (all_inputs plan) (row-distinct from 0 row (first from row plan are)) (plan-distinct formed (suc from) plan (next from row plan are)) (λ i c d.
      let a : IsFrom tree from i = node-from from (0 + c.0) i (first from row plan are c.0 i (at-contained row i c)) in
      let b : (p : ℕ) × (suc from ≤ p) × IsFrom tree p i = all-from (suc from) plan (next from row plan are) i d in
      let same : from ≡ b.0 = same-number tree from b.0 a.pack b.2.pack formed a.at b.2.at (sym a.path ∙ b.2.path) in
      let l : suc from ≤ b.0 = b.1 in
      omega (arith, same, l))

  rows-of : (plan : List (List Input)) → IsPlan tree only plan → Rows 0 plan
  rows-of plan is p row h k i g = subst (λ (q : ℕ). IsNodeInput tree only q (0 + k) i) (omega arith) (subst (λ (n : ℕ). IsNodeInput tree only p n i) (omega arith) (is.right p k row i h g))

-- ---- the entries

inputs-distinct : (es : List Entry) → AreDistinct es → Distinct (map input_of es)
inputs-distinct [] d = tt
inputs-distinct (e ∷ es) d = (
  λ c. (let h = get-unmapped input_of es c.0 e.input (at-contained (map input_of es) e.input c) in d 0 (suc c.0) e h.0 (omega arith) refl h.1 (sym h.2)),
  inputs-distinct es (λ j k x y l h g s. d (suc j) (suc k) x y (omega (arith, l)) h g s),
)

entries-distinct : (es : List Entry) → Distinct (map input_of es) → AreDistinct es
entries-distinct [] d zero k e f l h g s = cc
entries-distinct [] d (suc j) k e f l h g s = cc
entries-distinct (x ∷ es) d zero zero e f l h g s = omega (arith, l)
entries-distinct (x ∷ es) d zero (suc k) e f l h g s =
    d.0 (subst (λ (i : Input). Contains (map input_of es) i) (sym s ∙ ap (λ (y : Entry). y.input) (sym (same_Some x e h))) (contains-at (map input_of es) k f.input (get-mapped input_of es k f g)))
entries-distinct (x ∷ es) d (suc j) zero e f l h g s = omega (arith, l)
entries-distinct (x ∷ es) d (suc j) (suc k) e f l h g s = entries-distinct es d.1 j k e f (omega (arith, l)) h g s

trimmed-distinct : (es : List Entry) → Distinct (map input_of es) → Distinct (map input_of (trimmed es))
trimmed-distinct [] d = d
trimmed-distinct (e ∷ es) d = by (is_within (e ∷ es)) (trimmed-distinct es d.1)
  where
    by : (b : Bool) → Distinct (map input_of (trimmed es)) → Distinct (map input_of (if b then e ∷ es else trimmed es))
    by true others = d
    by false others = others

abbrev Small : Entry → Type 0
Small e = e.input.node < 2 ^ 8

trimmed-small : (es : List Entry) → AllByRecursion Small es → AllByRecursion Small (trimmed es)
trimmed-small [] a = a
trimmed-small (e ∷ es) a = by (is_within (e ∷ es)) (trimmed-small es a.1)
  where
    by : (b : Bool) → AllByRecursion Small (trimmed es) → AllByRecursion Small (if b then e ∷ es else trimmed es)
    by true others = a
    by false others = others

small-of : (e : Entry) → IsRight e → Small e
small-of e (inl r) = (let z : e.input.node ≡ 0 = r.0 in omega (arith, z))
small-of e (inr r) = (let s : r.1.run.analyzer ≡ e.input.node = r.1.of in let l : r.1.run.analyzer < 16 = r.1.lawful.number.1 in omega (arith, s, l))

all-small : (before added : List Entry) → AllByRecursion Small before → IsHonest added → AllByRecursion Small (before ++ added)
all-small [] [] a h = tt
all-small [] (e ∷ es) a h = (small-of e h.0, all-small [] es tt h.1)
all-small (e ∷ es) added a h = (a.0, all-small es added a.1 h)

input-itself : (a : Input) → same_input a a ≡ true
input-itself a = rw ((Decides-eqb a.node a.node).1 refl) ((slice_eq-Decides bytes_eq-Decides a.texts a.texts (same_texts a.texts a.texts) refl).1 refl)

same-input : (a b : Input) → a ≡ b → same_input a b ≡ true
same-input a b h = subst (λ (x : Input). same_input a x ≡ true) h (input-itself a)

-- an input that an entry has is cached
cached-of : (es : List Entry) (i : Input) → Contains (map input_of es) i → is_cached es i ≡ true
cached-of [] i c = absurd (nothing-contained i c)
cached-of (e ∷ es) i c = by (same_input e.input i) refl (cached-of es i)
  where
    later : same_input e.input i ≡ false → Contains (e.input ∷ map input_of es) i → Contains (map input_of es) i
    later h (zero, l, s) = absurd (differ (same_input e.input i) (same-input e.input i s) h)
    later h (suc k, l, s) = (k, (let m : suc k < length (e.input ∷ map input_of es) = l in omega (arith, m)), s)

    by : (b : Bool) → same_input e.input i ≡ b → (Contains (map input_of es) i → is_cached es i ≡ true) → is_found (if b then Some e.outcome else lookup es i) ≡ true
    by true h others = refl
    by false h others = others (later h c)

kept-value : (tree : List PackageTexts) (only : ℕ) → IsTree tree → (plan : List (List Input)) → IsPlan tree only plan → (before after : List Entry) → IsCacheValue before → IsCacheAfter before after (all_inputs plan) → IsCacheValue after
kept-value tree only formed plan is before after value c =
    let inputs = all_inputs plan in
    let added : Distinct (map input_of c.added) = subst Distinct (sym c.whole) (distinct-missing before inputs (plan-distinct tree only formed 0 plan (rows-of tree only plan is))) in
    let joined : Distinct (map input_of (before ++ c.added)) = subst Distinct (sym (map-append input_of before c.added)) (distinct-append (map input_of before) (map input_of c.added) (inputs-distinct before value.0) added (λ i a b.
    differ (is_cached before i) (cached-of before i a) (missing-not before inputs i (subst (λ (xs : List Input). Contains xs i) c.whole b)))) in
    subst IsCacheValue (sym c.is) (entries-distinct (trimmed (before ++ c.added)) (trimmed-distinct (before ++ c.added) joined), trimmed-small (before ++ c.added) (all-small before c.added value.1 c.right))

pub keeps-text : (tree : List File) (task : Task) (before after : List Entry) (report : TreeReport) → AreInOrder tree → Reports tree task before after report → HasText before → HasText after
keeps-text tree task before after report ordered r text = by r.replies
  where
    by : Replies task.command task.only tree before after r.reply → HasText after
    by (of_limit x kept) = subst HasText (sym kept) text
    by (of_packages x) = record {
      text = cache_text after;
      spelled = (kept-value (map (texts_of tree) x.packages) (chosen_by task.command task.only) (is-tree tree x.verdicts x.heads x.packages ordered x.form) x.plan x.is_plan before after text.spelled.0 x.cache, refl);
    }
