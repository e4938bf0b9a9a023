-- Where no lawful load but a stuck one and no lawful run is without an outcome, no tree in which no package is stuck is without verdicts, findings, inputs and a cache.
use Rattle.std.proofs.Common.{◌≡◌, ℕ, zero, suc, ◌+◌, ◌<◌, ◌≤◌, ◌⊎◌, inl, inr, Bool, true, false, if◌then◌else◌, Some, List, [], ◌∷◌, ◌++◌, length, map, slice_get, refl, sym, ap, ◌∙◌, subst, arith}
use Rattle.std.specs.List.{Contains}
use Rattle.std.proofs.lemmas.List.{length-append, length-map}
use Rattle.std.proofs.lemmas.Option.{same_Some, slice_get_within}
use Rattle.package_faces.specs.Faces.{Face}
use Rattle.analysis_core.specs.declared.diagnostic.Diagnostic.{Diagnostic}
use Rattle.action_graph.specs.declared.kit.LoadInput.{LoadInput}
use Rattle.action_graph.specs.Nodes.{Named}
use Rattle.action_graph.specs.declared.marks.MarkLine.{MarkLine}
use Rattle.action_graph.specs.Analyzing.{IsRunOutcome}
use Rattle.action_graph.specs.Judging.{Judged, IsLawful, IsOutcome, Tells, accepted_text}
use Rattle.action_graph.specs.Work.{IsAnalyzer, has_facts}
use Rattle.action_graph.specs.Judging.Judged.{Accepts, Refuses}
use Rattle.fact_cache.specs.declared.texts.Input.{Input}
use Rattle.fact_cache.specs.declared.list.Entry.{Entry}
use Rattle.fact_cache.specs.Caches.{trimmed}
use Rattle.gv_driver.specs.declared.tree.PackageTexts.{PackageTexts}
use Rattle.gv_driver.specs.declared.reply.Verdict.{Verdict}
use Rattle.gv_driver.specs.declared.reply.Verdict.TheVariants as verdict
use Rattle.gv_driver.specs.Trees.{IsTree}
use Rattle.gv_driver.specs.Whole.{Checked, HasStuck}
use Rattle.gv_driver.specs.Analyzers.{AreAnalyzers, analyzers_of}
use Rattle.gv_driver.specs.Facts.{IsGiven}
use Rattle.gv_driver.specs.Loads.{IsRunOf, IsLoadOf, IsInput, IsNodeInput, all_inputs, load_input, run_key, run_over}
use Rattle.gv_driver.specs.Caches.{IsHonest, IsRight, missing_of, is_cached, input_of}
use Rattle.gv_driver.specs.Reports.{AreFactsTold, AreFoundOf, HasFactsTold, HasFound, HasVerdict, fact_givers}
use Rattle.gv_driver.specs.Existence.{AllHaveOutcomes, AllRunsHaveOutcomes, HasRun}
use Rattle.gv_driver.proofs.Places.{element, at-contained, contains-head, contains-tail, get-push_cases, get-unmapped, get-mapped}
use Rattle.gv_driver.proofs.AnalyzerLaws.{are-analyzers}
use Rattle.gv_driver.proofs.ExistingFacts.{gives}
use Rattle.gv_driver.proofs.ExistingLoads.{AreAccepted, HasBlocked, LoadsHaveOutcomes, blocked-or, loads, loads-have}
use Rattle.gv_driver.proofs.FactsTold.{facts-come, run-lawful}
use Rattle.gv_driver.proofs.PlanLaws.{unique-node}
use Rattle.gv_driver.proofs.EntryLaws.{in-append}
use Rattle.gv_driver.proofs.FindingLaws.{found-there}
use Rattle.gv_driver.proofs.LawfulLaws.{load-lawful}
use Rattle.gv_driver.proofs.WholeLaws.{same_pack, shown, unique, judged-of, unique-input}

module _ (tree : List PackageTexts) (outcomes : LoadsHaveOutcomes tree) (run_outcomes : AllRunsHaveOutcomes) (only : ℕ) (formed : IsTree tree) where
  -- ---- one package

  -- the outcome of an input
  abbrev OutcomeAt : Input → Type 0
  OutcomeAt t = (text : List ℕ) × IsRight (record { input = t; outcome = text })

  -- the verdict of a package, what is found of it, and the inputs of its nodes, each with what comes of it
  record IsSettled (p : ℕ) : Type 0 where
    told : Verdict
    has : HasVerdict tree p told
    found : List Diagnostic
    finds : HasFound tree only p told found
    facts : List (ℕ × List ℕ)
    tells : HasFactsTold tree only p told facts
    inputs : List Input
    right : (k : ℕ) (t : Input) → slice_get inputs k ≡ Some t → IsNodeInput tree only p k t × OutcomeAt t
    every : (k : ℕ) (t : Input) → IsNodeInput tree only p k t → slice_get inputs k ≡ Some t

  nothing-at : (k : ℕ) (t : Input) → slice_get [] k ≡ Some t → ⊥
  nothing-at zero t e = cc
  nothing-at (suc k) t e = cc

  node-load : (p k : ℕ) (t : Input) → IsNodeInput tree only p k t → (s : Input) × IsInput tree p s
  node-load p zero t is = (t, is)
  node-load p (suc k) t is = (load_input is.load, record { load = is.load; of = is.of; is = refl })

  -- a package without a load
  unloaded : (p : ℕ) (v : Verdict) → HasVerdict tree p v → HasFound tree only p v [] → HasFactsTold tree only p v [] → ((t : Input) → IsInput tree p t → ⊥) → IsSettled p
  unloaded p v has nothing none never = record { told = v; has = has; found = []; finds = nothing; facts = []; tells = none; inputs = []; right = λ k t e. absurd (nothing-at k t e); every = λ k t is. (let s = node-load p k t is in absurd (never s.0 s.1)) }

  load-right : (p : ℕ) (load : LoadInput) (text : List ℕ) → IsLawful load → IsOutcome load text → OutcomeAt (load_input load)
  load-right p load text lawful outcome = (text, inl (refl, record { load = load; is = refl; lawful = lawful; outcome = outcome }))

  load-first : (p : ℕ) (load : LoadInput) → IsLoadOf tree p load → (t : Input) → IsInput tree p t → load_input load ≡ t
  load-first p load of t is = unique-input tree p (load_input load) t (record { load = load; of = of; is = refl }) is

  -- a package that isn't accepted has no runs
  refused : (p : ℕ) (load : LoadInput) (text : List ℕ) (marks : List MarkLine) → IsLoadOf tree p load → IsLawful load → IsOutcome load text → Checked tree p (Refuses marks) → IsSettled p
  refused p load text marks of lawful outcome is = record {
    told = verdict.Refused marks;
    has = is;
    found = [];
    finds = refl;
    facts = [];
    tells = refl;
    inputs = load_input load ∷ [];
    right = right;
    every = every;
  }
    where
      right : (k : ℕ) (t : Input) → slice_get (load_input load ∷ []) k ≡ Some t → IsNodeInput tree only p k t × OutcomeAt t
      right zero t e = subst (λ (s : Input). IsInput tree p s × OutcomeAt s) (same_Some (load_input load) t e) (record { load = load; of = of; is = refl }, load-right p load text lawful outcome)
      right (suc k) t e = absurd (nothing-at k t e)

      every : (k : ℕ) (t : Input) → IsNodeInput tree only p k t → slice_get (load_input load ∷ []) k ≡ Some t
      every zero t n = ap (λ (s : Input). Some s) (load-first p load of t n)
      every (suc k) t n = (let wrong : Refuses marks ≡ Accepts n.face = unique tree p (Refuses marks) (Accepts n.face) is n.good in cc)

  -- the same facts, for every analyzer
  abbrev same-given : List Named → ℕ → List Named
  same-given facts a = facts

  -- what the analyzer's run over a package is given, and what comes of it
  record RunHas (p : ℕ) (load : LoadInput) (of : IsLoadOf tree p load) (a : ℕ) : Type 0 where
    facts : List Named
    given : IsGiven tree a of.numbers facts
    number : IsAnalyzer a
    text : List ℕ
    outcome : IsRunOutcome (run_over (same-given facts) a load) text

  -- outcomes of the runs of these analyzers
  abbrev RunsHave : (p : ℕ) (load : LoadInput) → IsLoadOf tree p load → List ℕ → Type 0
  RunsHave p load of ns = (k a : ℕ) → slice_get ns k ≡ Some a → RunHas p load of a

  run-is : (p : ℕ) (load : LoadInput) (of : IsLoadOf tree p load) (a : ℕ) (has : RunHas p load of a) → IsRunOf tree a p (run_over (same-given has.facts) a load)
  run-is p load of a has = record { analyzer = refl; of = of; given = has.given }

  run-right : (p : ℕ) (load : LoadInput) (of : IsLoadOf tree p load) (a : ℕ) → IsLawful load → (has : RunHas p load of a) → OutcomeAt (run_key (same-given has.facts) load a)
  run-right p load of a lawful has = (
    has.text,
    inr (
      has.number.0,
      record {
        run = run_over (same-given has.facts) a load;
        of = refl;
        is = refl;
        lawful = run-lawful tree a p (run_over (same-given has.facts) a load) formed lawful has.number (run-is p load of a has);
        outcome = has.outcome;
      },
    ),
  )

  runs-have : (p : ℕ) (load : LoadInput) (of : IsLoadOf tree p load) (export : List ℕ) (ns : List ℕ) → IsLawful load → IsOutcome load (accepted_text export) → AreAnalyzers ns → (RunsHave p load of ns → ⊥) → ⊥
  runs-have p load of export [] lawful outcome are none = none (λ k a e. absurd (nothing k a e))
    where
      nothing : (k a : ℕ) → slice_get [] k ≡ Some a → ⊥
      nothing zero a e = cc
      nothing (suc k) a e = cc
  runs-have p load of export (n ∷ ns) lawful outcome are none =
      gives tree outcomes run_outcomes formed n (are 0 n refl) p of.numbers of.faces of.are (λ facts given.
      run_outcomes (run_over (same-given facts) n load) export (run-lawful tree n p (run_over (same-given facts) n load) formed lawful (are 0 n refl) (record { analyzer = refl; of = of; given = given })) outcome (λ text one.
      runs-have p load of export ns lawful outcome (λ k. are (suc k)) (λ rest.
      none (both (record { facts = facts; given = given; number = are 0 n refl; text = text; outcome = one }) rest))))
    where
      both : RunHas p load of n → RunsHave p load of ns → RunsHave p load of (n ∷ ns)
      both first rest zero a e = subst (λ (x : ℕ). RunHas p load of x) (same_Some n a e) first
      both first rest (suc k) a e = rest k a e

  -- the inputs of these runs
  keys-of : (p : ℕ) (load : LoadInput) (of : IsLoadOf tree p load) (ns : List ℕ) → RunsHave p load of ns → List Input
  keys-of p load of [] have = []
  keys-of p load of (n ∷ ns) have = run_key (same-given (have 0 n refl).facts) load n ∷ keys-of p load of ns (λ k a e. have (suc k) a e)

  keys-size : (p : ℕ) (load : LoadInput) (of : IsLoadOf tree p load) (ns : List ℕ) (have : RunsHave p load of ns) → length (keys-of p load of ns have) ≡ length ns
  unfolding keys-of
  keys-size p load of [] have = refl
  keys-size p load of (n ∷ ns) have = ap suc (keys-size p load of ns (λ k a e. have (suc k) a e))

  keys-at : (p : ℕ) (load : LoadInput) (of : IsLoadOf tree p load) (ns : List ℕ) (have : RunsHave p load of ns) (k : ℕ) (t : Input) → slice_get (keys-of p load of ns have) k ≡ Some t
      → (a : ℕ) × (at : slice_get ns k ≡ Some a) × (run_key (same-given (have k a at).facts) load a ≡ t)
  unfolding keys-of
  keys-at p load of [] have zero t e = cc
  keys-at p load of [] have (suc k) t e = cc
  keys-at p load of (n ∷ ns) have zero t e = (n, refl, same_Some (run_key (same-given (have 0 n refl).facts) load n) t e)
  keys-at p load of (n ∷ ns) have (suc k) t e = keys-at p load of ns (λ j a g. have (suc j) a g) k t e

  -- what these analyzers find
  runs-find : (p : ℕ) (load : LoadInput) (of : IsLoadOf tree p load) (ns : List ℕ) → RunsHave p load of ns → (ds : List Diagnostic) × AreFoundOf tree p of.pack ns ds
  runs-find p load of [] have = ([], refl)
  runs-find p load of (n ∷ ns) have =
      let run = have 0 n refl in
      let mine = found-there tree only p of.pack (same-given run.facts) load of of.at n run.text run.given run.outcome in
      let rest = runs-find p load of ns (λ k a e. have (suc k) a e) in
      (mine.0 ++ rest.0, (mine.0, rest.0, mine.1, rest.1, refl))

  -- and the facts that they give
  tell-by : (p : ℕ) (load : LoadInput) (of : IsLoadOf tree p load) (n : ℕ) (ns : List ℕ) (b : Bool) → has_facts n ≡ b → RunHas p load of n → (fs : List (ℕ × List ℕ)) × AreFactsTold tree p (fact_givers ns) fs
      → (fs : List (ℕ × List ℕ)) × AreFactsTold tree p (if b then n ∷ fact_givers ns else fact_givers ns) fs
  tell-by p load of n ns true has run rest =
      let text : List ℕ = run.outcome.facts in
      ((n, text) ∷ rest.0, (text, rest.0, facts-come tree n p (run_over (same-given run.facts) n load) run.text (run-is p load of n run) has run.outcome, rest.1, refl))
  tell-by p load of n ns false has run rest = rest

  runs-tell : (p : ℕ) (load : LoadInput) (of : IsLoadOf tree p load) (ns : List ℕ) → RunsHave p load of ns → (fs : List (ℕ × List ℕ)) × AreFactsTold tree p (fact_givers ns) fs
  runs-tell p load of [] have = ([], refl)
  runs-tell p load of (n ∷ ns) have = tell-by p load of n ns (has_facts n) refl (have 0 n refl) (runs-tell p load of ns (λ k a e. have (suc k) a e))

  accepted : (p : ℕ) (load : LoadInput) (text : List ℕ) (i : Face) (of : IsLoadOf tree p load) → IsLawful load → IsOutcome load text → Checked tree p (Accepts i) → RunsHave p load of (analyzers_of only of.pack.stub) → IsSettled p
  accepted p load text i of lawful outcome is have = record {
    told = verdict.Accepted;
    has = (i, is);
    found = found.0;
    finds = (of.pack, of.at, found.1);
    facts = facts.0;
    tells = (of.pack, of.at, facts.1);
    inputs = load_input load ∷ keys-of p load of (analyzers_of only of.pack.stub) have;
    right = right;
    every = every;
  }
    where
      found : (ds : List Diagnostic) × AreFoundOf tree p of.pack (analyzers_of only of.pack.stub) ds
      found = runs-find p load of (analyzers_of only of.pack.stub) have

      facts : (fs : List (ℕ × List ℕ)) × AreFactsTold tree p (fact_givers (analyzers_of only of.pack.stub)) fs
      facts = runs-tell p load of (analyzers_of only of.pack.stub) have

      right : (k : ℕ) (t : Input) → slice_get (load_input load ∷ keys-of p load of (analyzers_of only of.pack.stub) have) k ≡ Some t → IsNodeInput tree only p k t × OutcomeAt t
      right zero t e = subst (λ (s : Input). IsInput tree p s × OutcomeAt s) (same_Some (load_input load) t e) (record { load = load; of = of; is = refl }, load-right p load text lawful outcome)
      right (suc k) t e =
          let a = keys-at p load of (analyzers_of only of.pack.stub) have k t e in
          let run = have k a.0 a.1 in
          (record { load = load; of = of; face = i; good = is; analyzer = a.0; chosen = a.1; given = same-given run.facts; are_given = run.given; is = sym a.2 }, subst OutcomeAt a.2 (run-right p load of a.0 lawful run))

      every : (k : ℕ) (t : Input) → IsNodeInput tree only p k t → slice_get (load_input load ∷ keys-of p load of (analyzers_of only of.pack.stub) have) k ≡ Some t
      every zero t n = ap (λ (s : Input). Some s) (load-first p load of t n)
      every (suc k) t n =
          let chosen : slice_get (analyzers_of only of.pack.stub) k ≡ Some n.analyzer = subst (λ (x : PackageTexts). slice_get (analyzers_of only x.stub) k ≡ Some n.analyzer) (same_pack tree p n.of.pack of.pack n.of.at of.at) n.chosen in
          let low : k < length (analyzers_of only of.pack.stub) = slice_get_within (analyzers_of only of.pack.stub) k n.analyzer chosen in
          let long : length (keys-of p load of (analyzers_of only of.pack.stub) have) ≡ length (analyzers_of only of.pack.stub) = keys-size p load of (analyzers_of only of.pack.stub) have in
          let there = element (keys-of p load of (analyzers_of only of.pack.stub) have) k (omega (arith, low, long)) in
          there.1 ∙ ap (λ (s : Input). Some s) (unique-node tree only p (suc k) there.0 t (right (suc k) there.0 there.1).0 n)

  told-by : (p : ℕ) (load : LoadInput) (text : List ℕ) (of : IsLoadOf tree p load) (v : Judged) → IsLawful load → IsOutcome load text → Checked tree p v → Tells v text → (IsSettled p → ⊥) → ⊥
  told-by p load text of (Refuses marks) lawful outcome is tells k = k (refused p load text marks of lawful outcome is)
  told-by p load text of (Accepts i) lawful outcome is tells k =
      runs-have p load of tells.0 (analyzers_of only of.pack.stub) lawful (subst (λ (t : List ℕ). IsOutcome load t) tells.2 outcome) (are-analyzers only of.pack.stub) (λ have.
      k (accepted p load text i of lawful outcome is have))

  settled : (p : ℕ) (pack : PackageTexts) → slice_get tree p ≡ Some pack → (IsSettled p → ⊥) → ⊥
  settled p pack at k = by pack.sound refl
    where
      unsound : pack.sound ≡ false → (t : Input) → IsInput tree p t → ⊥
      unsound never t is =
          let other : is.of.pack.sound ≡ false = ap (λ (x : PackageTexts). x.sound) (same_pack tree p is.of.pack pack is.of.at at) ∙ never in
          let sound : is.of.pack.sound ≡ true = is.of.sound in
          let e : true ≡ false = sym sound ∙ other in
          cc

      -- a blocked package has no load
      stopped : (q : ℕ) → Contains pack.imports q → ((i : Face) → Checked tree q (Accepts i) → ⊥) → (t : Input) → IsInput tree p t → ⊥
      stopped q has never t is =
          let i = shown is.of.numbers is.of.faces q is.of.are.around.size (is.of.are.around.imports q (pack, at, has)) in
          never i.0 (is.of.are.good q i.0 i.1)

      by : (b : Bool) → pack.sound ≡ b → ⊥
      by false never = k (unloaded p verdict.Faulty (pack, at, never) refl refl (unsound never))
      by true sound =
          blocked-or tree outcomes formed pack.imports (λ (cases : HasBlocked tree outcomes formed pack.imports ⊎ AreAccepted tree outcomes formed pack.imports). elim cases [
            | inl b ↦ k (unloaded p verdict.Blocked (pack, at, sound, (b.0, b.1, b.2)) refl refl (stopped b.0 b.1 b.2))
            | inr good ↦ loads tree outcomes formed p pack at sound good (λ load of.
                let lawful = load-lawful tree p load formed of in
                outcomes p load of lawful (λ text outcome.
                let judged = judged-of tree p load text of outcome in
                told-by p load text of judged.0 lawful outcome judged.1 judged.2 k))
          ])

  -- ---- all packages

  record Row : Type 0 where
    number : ℕ
    what : IsSettled number

  record AreRows (n : ℕ) (rows : List Row) : Type 0 where
    size : length rows ≡ n
    each : (k : ℕ) (r : Row) → slice_get rows k ≡ Some r → r.number ≡ k

  rows-up : (n : ℕ) → n ≤ length tree → ((rows : List Row) → AreRows n rows → ⊥) → ⊥
  rows-up zero low k = k [] (record { size = refl; each = λ j r at. absurd (let l : j < 0 = slice_get_within [] j r at in omega (arith, l)) })
  rows-up (suc n) low k = rows-up n (omega (arith, low)) (λ rows are.
      let pack = element tree n (omega (arith, low)) in
      settled n pack.0 pack.1 (λ one.
      let row : Row = record { number = n; what = one } in
      let size : length rows ≡ n = are.size in
      let long : length (rows ++ row ∷ []) ≡ length rows + 1 = length-append rows (row ∷ []) in
      k (rows ++ row ∷ []) (record {
        size = omega (arith, size, long);
        each = λ j r at. elim (get-push_cases rows row r j at) [
          | inl old ↦ are.each j r old
          | inr last ↦ ap (λ (x : Row). x.number) (sym last.1) ∙ sym (last.0 ∙ size)
        ];
      })))

  abbrev Added : List Entry → List Input → Type 0
  Added before inputs = (added : List Entry) × (map input_of added ≡ inputs) × IsHonest added

  entry-more : (before : List Entry) (t : Input) (xs : List Input) → OutcomeAt t → Added before (missing_of before xs) → Added before (missing_of before (t ∷ xs))
  entry-more before t xs mine rest = by (is_cached before t)
    where
      by : (b : Bool) → Added before (if b then missing_of before xs else (t ∷ missing_of before xs))
      by true = rest
      by false = (record { input = t; outcome = mine.0 } ∷ rest.0, ap (λ (l : List Input). t ∷ l) rest.1, (mine.1, rest.2))

  -- entries of the missing inputs
  entries : (before : List Entry) (xs : List Input) → ((t : Input) → Contains xs t → OutcomeAt t) → Added before (missing_of before xs)
  entries before [] each = ([], refl, tt)
  entries before (t ∷ xs) each = entry-more before t xs (each t (contains-head t xs)) (entries before xs (λ s has. each s (contains-tail t s xs has)))

  in-rows : (rows : List (List Input)) (t : Input) → Contains (all_inputs rows) t → (p k : ℕ) × (row : List Input) × (slice_get rows p ≡ Some row) × (slice_get row k ≡ Some t)
  in-rows [] t c = absurd (let l : c.0 < 0 = c.1 in omega (arith, l))
  in-rows (row ∷ rows) t c = elim (in-append row (all_inputs rows) t c) [
    | inl h ↦ (0, h.0, row, refl, at-contained row t h)
    | inr h ↦ (let r = in-rows rows t h in (suc r.0, r.1, r.2, r.3, r.4))
  ]

  there-is : (before : List Entry) → HasRun tree only before
  there-is before none = rows-up (length tree) (omega arith) (λ rows are.
      let plan : List (List Input) = map (λ (r : Row). r.what.inputs) rows in
      let added = entries before (all_inputs plan) (λ t has.
      let at = in-rows plan t has in
      let found = get-unmapped (λ (r : Row). r.what.inputs) rows at.0 at.2 at.3 in
      (found.0.what.right at.1 t (subst (λ (l : List Input). slice_get l at.1 ≡ Some t) (sym found.2) at.4)).1) in
      none (map (λ (r : Row). r.what.told) rows) (map (λ (r : Row). r.what.found) rows) (map (λ (r : Row). r.what.facts) rows) plan (trimmed (before ++ added.0))
      (record { size = length-map rows (λ (r : Row). r.what.told) ∙ are.size; each = λ p v at. verdict-at rows are p v at })
      (record { size = length-map rows (λ (r : Row). r.what.found) ∙ are.size; each = λ p v ds at here. found-at rows are p v ds at here })
      (record { size = length-map rows (λ (r : Row). r.what.facts) ∙ are.size; each = λ p v fs at here. facts-at rows are p v fs at here })
      (record {
        size = length-map rows (λ (r : Row). r.what.inputs) ∙ are.size;
        right = λ p k row t at here. input-at rows are p k row t at here;
        every = λ p k row t at is. every-at rows are p k row t at is;
      })
      (record { added = added.0; is = refl; whole = added.1; right = added.2 }))
    where
      verdict-at : (rows : List Row) → AreRows (length tree) rows → (p : ℕ) (v : Verdict) → slice_get (map (λ (r : Row). r.what.told) rows) p ≡ Some v → HasVerdict tree p v
      verdict-at rows are p v at =
          let found = get-unmapped (λ (r : Row). r.what.told) rows p v at in
          subst (λ (n : ℕ). HasVerdict tree n v) (are.each p found.0 found.1) (subst (HasVerdict tree found.0.number) found.2 found.0.what.has)

      found-at : (rows : List Row) → AreRows (length tree) rows → (p : ℕ) (v : Verdict) (ds : List Diagnostic) → slice_get (map (λ (r : Row). r.what.told) rows) p ≡ Some v → slice_get (map (λ (r : Row). r.what.found) rows) p ≡ Some ds
          → HasFound tree only p v ds
      found-at rows are p v ds at here =
          let found = get-unmapped (λ (r : Row). r.what.found) rows p ds here in
          let told : found.0.what.told ≡ v = same_Some found.0.what.told v (sym (get-mapped (λ (r : Row). r.what.told) rows p found.0 found.1) ∙ at) in
          subst (λ (n : ℕ). HasFound tree only n v ds) (are.each p found.0 found.1)
          (subst (λ (w : Verdict). HasFound tree only found.0.number w ds) told (subst (HasFound tree only found.0.number found.0.what.told) found.2 found.0.what.finds))

      facts-at : (rows : List Row) → AreRows (length tree) rows → (p : ℕ) (v : Verdict) (fs : List (ℕ × List ℕ)) → slice_get (map (λ (r : Row). r.what.told) rows) p ≡ Some v → slice_get (map (λ (r : Row). r.what.facts) rows) p ≡ Some fs
          → HasFactsTold tree only p v fs
      facts-at rows are p v fs at here =
          let found = get-unmapped (λ (r : Row). r.what.facts) rows p fs here in
          let told : found.0.what.told ≡ v = same_Some found.0.what.told v (sym (get-mapped (λ (r : Row). r.what.told) rows p found.0 found.1) ∙ at) in
          subst (λ (n : ℕ). HasFactsTold tree only n v fs) (are.each p found.0 found.1)
          (subst (λ (w : Verdict). HasFactsTold tree only found.0.number w fs) told (subst (HasFactsTold tree only found.0.number found.0.what.told) found.2 found.0.what.tells))

      input-at : (rows : List Row) → AreRows (length tree) rows → (p k : ℕ) (row : List Input) (t : Input) → slice_get (map (λ (r : Row). r.what.inputs) rows) p ≡ Some row → slice_get row k ≡ Some t → IsNodeInput tree only p k t
      input-at rows are p k row t at here =
          let found = get-unmapped (λ (r : Row). r.what.inputs) rows p row at in
          subst (λ (n : ℕ). IsNodeInput tree only n k t) (are.each p found.0 found.1) (found.0.what.right k t (subst (λ (l : List Input). slice_get l k ≡ Some t) (sym found.2) here)).0

      every-at : (rows : List Row) → AreRows (length tree) rows → (p k : ℕ) (row : List Input) (t : Input) → slice_get (map (λ (r : Row). r.what.inputs) rows) p ≡ Some row → IsNodeInput tree only p k t → slice_get row k ≡ Some t
      every-at rows are p k row t at is =
          let found = get-unmapped (λ (r : Row). r.what.inputs) rows p row at in
          subst (λ (l : List Input). slice_get l k ≡ Some t) found.2 (found.0.what.every k t (subst (λ (n : ℕ). IsNodeInput tree only n k t) (sym (are.each p found.0 found.1)) is))

pub run-exists : AllHaveOutcomes → AllRunsHaveOutcomes → (tree : List PackageTexts) (only : ℕ) → IsTree tree → (HasStuck tree → ⊥) → (before : List Entry) → HasRun tree only before
run-exists all runs tree only formed goes before = there-is tree (loads-have all tree goes) runs only formed before
