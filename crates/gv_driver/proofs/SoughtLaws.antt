-- The runs of a package: looked up, asked for together, and given their outcomes in turn.
use Rattle.std.proofs.Common.{◌≡◌, ℕ, ◌+◌, ◌<◌, ◌≤◌, ◌^◌, inl, inr, Bool, true, false, if◌then◌else◌, Option, Some, None, List, [], ◌∷◌, ◌++◌, length, slice_get, get_or, is_some, not, ◌==◌, set, map, take, drop, zero, suc, append_assoc, refl, sym, ap, ◌∙◌, subst, arith}
use Rattle.std.proofs.lemmas.Bool.{eqb-true}
use Rattle.std.proofs.lemmas.Option.{same_Some, slice_get_within}
use Rattle.std.proofs.lemmas.List.{length-append, length-map, map-append, take_more}
use Rattle.action_graph.specs.declared.kit.LoadInput.{LoadInput}
use Rattle.action_graph.specs.declared.kit.RunOf.{RunOf}
use Rattle.action_graph.specs.declared.kit.RunOutcome.{RunOutcome}
use Rattle.action_graph.specs.Nodes.{Named}
use Rattle.action_graph.specs.Analyzing.{AreGivenOnce, IsRunLawful, IsRunOutcome, run_of}
use Rattle.action_graph.specs.Outcomes.{run_text}
use Rattle.action_graph.specs.Work.{IsAnalyzer}
use Rattle.handed_facts.specs.Handed.{ArePathsApart}
use Rattle.fact_cache.specs.declared.texts.Input.{Input}
use Rattle.fact_cache.specs.declared.list.Entry.{Entry}
use Rattle.gv_driver.specs.declared.node.RunNode.{RunNode}
use Rattle.gv_driver.specs.Analyzers.{AreAnalyzers}
use Rattle.gv_driver.specs.Caches.{is_cached, left_of, missing_of}
use Rattle.gv_driver.specs.Loads.{run_key, run_keys, run_over}
use Rattle.gv_driver.specs.Making.{AllApart, AreRuns, AreShortRuns, AreSought, HasAnswered, IsFilled, IsFit, Spends, asked_if, asked_in, asked_of, digit, filled, first_or, spent, spent_by, text_for, texts_after, tried_after, with_text}
use Rattle.gv_driver.specs.Tables.{fresh_runs, number_in, numbers_in, with_fresh}
use Rattle.gv_driver.specs.Tallies.{Tally}
use Rattle.gv_driver.proofs.MissingLaws.{digit-one, fresh-missing, missing-append, spent-true, take-all}
use Rattle.gv_driver.proofs.Places.{append-none, get-mapped, get-push_cases}
use Rattle.gv_driver.proofs.RunNodeLaws.{keys-more, runs-push}

-- ---- looked up

module _ (given : ℕ → List Named) (cache : List Entry) (load : LoadInput) where
  pub sought-none : AreSought given cache load [] []
  sought-none = record { numbers_are = refl; fresh = refl; left = λ k n at. cc; found = λ fit k n at none. cc; short = λ k n at. cc }

  pub sought-push : (numbers : List ℕ) (i : ℕ) (nodes : List RunNode) (n : RunNode) → i < length numbers → n.analyzer ≡ get_or numbers i 0 → n.fresh ≡ left_of cache (run_key given load (get_or numbers i 0))
      → (IsFit given cache load → n.fresh ≡ None → IsRunOutcome (run_over given (get_or numbers i 0) load) n.outcome)
      → length n.outcome < 2 ^ 64 → AreSought given cache load (take i numbers) nodes → AreSought given cache load (take (i + 1) numbers) (nodes ++ n ∷ [])
  sought-push numbers i nodes n l number left found few is = record {
    numbers_are = map-append number_in nodes (n ∷ []) ∙ (ap (λ ks. ks ++ n.analyzer ∷ []) is.numbers_are ∙ (ap (λ k. take i numbers ++ k ∷ []) number ∙ sym (take_more numbers i 0 l)));
    fresh =
        runs-push nodes n
        ∙ (ap (λ (ks : List Input). ks ++ with_fresh n.fresh []) is.fresh
        ∙ (ap (λ (o : Option Input). missing_of cache (run_keys given load (take i numbers)) ++ with_fresh o []) left
        ∙ (ap (λ (ks : List Input). missing_of cache (run_keys given load (take i numbers)) ++ ks) (fresh-missing cache (run_key given load (get_or numbers i 0)) [])
        ∙ (sym (missing-append cache (run_keys given load (take i numbers)) (run_key given load (get_or numbers i 0) ∷ []))
        ∙ ap (λ (ks : List Input). missing_of cache ks) (sym (keys-more given cache load numbers i l))))));
    left = λ k m at. elim (get-push_cases nodes n m k at) [
      | inl was ↦ is.left k m was
      | inr new ↦ subst (λ (x : RunNode). x.fresh ≡ left_of cache (run_key given load x.analyzer)) new.1 (left ∙ ap (λ (a : ℕ). left_of cache (run_key given load a)) (sym number))
    ];
    found = λ fit k m at. elim (get-push_cases nodes n m k at) [
      | inl was ↦ is.found fit k m was
      | inr new ↦
          subst (λ (x : RunNode). x.fresh ≡ None → IsRunOutcome (run_over given x.analyzer load) x.outcome) new.1
          (λ none. subst (λ (a : ℕ). IsRunOutcome (run_over given a load) n.outcome) (sym number) (found fit none))
    ];
    short = λ k m at. elim (get-push_cases nodes n m k at) [
      | inl was ↦ is.short k m was
      | inr new ↦ subst (λ (x : RunNode). length x.outcome < 2 ^ 64) new.1 few
    ];
  }

-- ---- asked for

pub asked-push : (given : ℕ → List Named) (nodes : List RunNode) (n : RunNode) → asked_in given (nodes ++ n ∷ []) ≡ asked_in given nodes ++ asked_if n.fresh (asked_of given n.analyzer)
asked-push given [] n = append-none (asked_if n.fresh (asked_of given n.analyzer))
asked-push given (x ∷ nodes) n =
    ap (λ (l : List RunOf). asked_if x.fresh (asked_of given x.analyzer) ++ l) (asked-push given nodes n)
    ∙ sym (append_assoc (asked_if x.fresh (asked_of given x.analyzer)) (asked_in given nodes) (asked_if n.fresh (asked_of given n.analyzer)))

one-size : (o : Option Input) (r : RunOf) (asked : List RunOf) (keys : List Input) → length asked ≡ length keys → length (asked_if o r ++ asked) ≡ length (with_fresh o keys)
one-size None r asked keys e = e
one-size (Some i) r asked keys e = ap suc e

pub asked-size : (given : ℕ → List Named) (nodes : List RunNode) → length (asked_in given nodes) ≡ length (fresh_runs nodes)
asked-size given [] = refl
asked-size given (n ∷ nodes) = one-size n.fresh (asked_of given n.analyzer) (asked_in given nodes) (fresh_runs nodes) (asked-size given nodes)

-- the load is executed where a run is asked for
tried-case : (b t : Bool) (cache : List Entry) (k : Input) (keys : List Input) (asked : List RunOf) → ((u : Bool) → length asked ≡ length (missing_of cache keys) → tried_after u asked ≡ spent_by cache u keys)
    → length asked ≡ length (if b then missing_of cache keys else (k ∷ missing_of cache keys)) → tried_after t asked ≡ spent_by cache (spent t b) keys
tried-case true t cache k keys asked more e = more t e
tried-case false t cache k keys [] more e = absurd (let f : 0 ≡ suc (length (missing_of cache keys)) = e in omega (arith, f))
tried-case false t cache k keys (r ∷ asked) more e = sym (spent-true cache keys)

pub tried-is : (cache : List Entry) (t : Bool) (keys : List Input) (asked : List RunOf) → length asked ≡ length (missing_of cache keys) → tried_after t asked ≡ spent_by cache t keys
tried-is cache t [] [] e = refl
tried-is cache t [] (r ∷ asked) e = absurd (let f : suc (length asked) ≡ 0 = e in omega (arith, f))
tried-is cache t (k ∷ keys) asked e = tried-case (is_cached cache k) t cache k keys asked (λ u f. tried-is cache u keys asked f) e

-- ---- given their outcomes

none-case : (n : RunNode) (nodes : List RunNode) (o : Option Input) → n.fresh ≡ o → filled nodes [] ≡ nodes → filled (n ∷ nodes) [] ≡ n ∷ nodes
none-case n nodes None e more = ap (λ (x : Option Input). with_text n (text_for x [] n.outcome) ∷ filled nodes (texts_after x [])) e ∙ ap (λ (l : List RunNode). n ∷ l) more
none-case n nodes (Some i) e more = ap (λ (x : Option Input). with_text n (text_for x [] n.outcome) ∷ filled nodes (texts_after x [])) e ∙ ap (λ (l : List RunNode). n ∷ l) more

pub filled-none : (nodes : List RunNode) → filled nodes [] ≡ nodes
filled-none [] = refl
filled-none (n ∷ nodes) = none-case n nodes n.fresh refl (filled-none nodes)

pub filled-numbers : (nodes : List RunNode) (texts : List (List ℕ)) → numbers_in (filled nodes texts) ≡ numbers_in nodes
filled-numbers [] texts = refl
filled-numbers (n ∷ nodes) texts = ap (λ (l : List ℕ). n.analyzer ∷ l) (filled-numbers nodes (texts_after n.fresh texts))

pub filled-fresh : (nodes : List RunNode) (texts : List (List ℕ)) → fresh_runs (filled nodes texts) ≡ fresh_runs nodes
filled-fresh [] texts = refl
filled-fresh (n ∷ nodes) texts = ap (λ (l : List Input). with_fresh n.fresh l) (filled-fresh nodes (texts_after n.fresh texts))

-- each is the one that was looked up, but for its outcome
pub filled-at : (nodes : List RunNode) (texts : List (List ℕ)) (k : ℕ) (n : RunNode) → slice_get (filled nodes texts) k ≡ Some n → (m : RunNode) × (slice_get nodes k ≡ Some m) × (n.analyzer ≡ m.analyzer) × (n.fresh ≡ m.fresh)
filled-at [] texts zero n e = cc
filled-at [] texts (suc k) n e = cc
filled-at (x ∷ nodes) texts zero n e =
    let same : with_text x (text_for x.fresh texts x.outcome) ≡ n = same_Some (with_text x (text_for x.fresh texts x.outcome)) n e in
    (x, refl, sym (ap (λ (y : RunNode). y.analyzer) same), sym (ap (λ (y : RunNode). y.fresh) same))
filled-at (x ∷ nodes) texts (suc k) n e = filled-at nodes (texts_after x.fresh texts) k n e

-- what comes of them, where each that was asked for has its outcome
module _ (given : ℕ → List Named) (load : LoadInput) where
  abbrev Comes : RunNode → Type 0
  Comes n = IsRunOutcome (run_over given n.analyzer load) n.outcome

  abbrev Told : List RunOf → List RunOutcome → Type 0
  Told asked outcomes = (k : ℕ) (r : RunOf) (o : RunOutcome) → slice_get asked k ≡ Some r → slice_get outcomes k ≡ Some o → IsRunOutcome (run_of load r) (run_text o)

  -- one more, by whether it was missing
  come-by : (x : RunNode) (nodes : List RunNode) (n : RunNode) (o : Option Input) → x.fresh ≡ o
      → ((os : List RunOutcome) → length os ≡ length (asked_in given nodes) → Told (asked_in given nodes) os → (j : ℕ) → slice_get (filled nodes (map run_text os)) j ≡ Some n → Comes n) → (x.fresh ≡ None → Comes x)
      → (os : List RunOutcome) → length os ≡ length (asked_in given (x ∷ nodes)) → Told (asked_in given (x ∷ nodes)) os → (j : ℕ) → slice_get (filled (x ∷ nodes) (map run_text os)) j ≡ Some n → Comes n
  come-by x nodes n None none more found os long says zero f =
      let own : with_text x x.outcome ≡ n = ap (λ (y : Option Input). with_text x (text_for y (map run_text os) x.outcome)) (sym none) ∙ same_Some (with_text x (text_for x.fresh (map run_text os) x.outcome)) n f in
      subst Comes own (found none)
  come-by x nodes n None none more found os long says (suc j) f =
      more os (subst (λ (y : Option Input). length os ≡ length (asked_if y (asked_of given x.analyzer) ++ asked_in given nodes)) none long)
      (subst (λ (y : Option Input). Told (asked_if y (asked_of given x.analyzer) ++ asked_in given nodes) os) none says) j
      (subst (λ (y : Option Input). slice_get (filled nodes (texts_after y (map run_text os))) j ≡ Some n) none f)
  come-by x nodes n (Some i) some more found [] long says j f =
      absurd (let g : 0 ≡ suc (length (asked_in given nodes)) = subst (λ (y : Option Input). 0 ≡ length (asked_if y (asked_of given x.analyzer) ++ asked_in given nodes)) some long in omega (arith, g))
  come-by x nodes n (Some i) some more found (o ∷ os) long says zero f =
      let own : with_text x (run_text o) ≡ n = ap (λ (y : Option Input). with_text x (text_for y (map run_text (o ∷ os)) x.outcome)) (sym some) ∙ same_Some (with_text x (text_for x.fresh (map run_text (o ∷ os)) x.outcome)) n f in
      let mine : Told (asked_of given x.analyzer ∷ asked_in given nodes) (o ∷ os) = subst (λ (y : Option Input). Told (asked_if y (asked_of given x.analyzer) ++ asked_in given nodes) (o ∷ os)) some says in
      subst Comes own (mine 0 (asked_of given x.analyzer) o refl refl)
  come-by x nodes n (Some i) some more found (o ∷ os) long says (suc j) f =
      let mine : Told (asked_of given x.analyzer ∷ asked_in given nodes) (o ∷ os) = subst (λ (y : Option Input). Told (asked_if y (asked_of given x.analyzer) ++ asked_in given nodes) (o ∷ os)) some says in
      let size_is : suc (length os) ≡ suc (length (asked_in given nodes)) = subst (λ (y : Option Input). length (o ∷ os) ≡ length (asked_if y (asked_of given x.analyzer) ++ asked_in given nodes)) some long in
      more os (omega (arith, size_is)) (λ k r p a b. mine (suc k) r p a b) j (subst (λ (y : Option Input). slice_get (filled nodes (texts_after y (map run_text (o ∷ os)))) j ≡ Some n) some f)

  filled-come : (nodes : List RunNode) (outcomes : List RunOutcome) → length outcomes ≡ length (asked_in given nodes) → Told (asked_in given nodes) outcomes
      → ((k : ℕ) (n : RunNode) → slice_get nodes k ≡ Some n → n.fresh ≡ None → Comes n) → (k : ℕ) (n : RunNode) → slice_get (filled nodes (map run_text outcomes)) k ≡ Some n → Comes n
  filled-come [] outcomes size told found zero n e = cc
  filled-come [] outcomes size told found (suc k) n e = cc
  filled-come (x ∷ nodes) outcomes size told found k n e =
      come-by x nodes n x.fresh refl (λ os long says j f. filled-come nodes os long says (λ i m at. found (suc i) m at) j n f) (found 0 x refl) outcomes size told k e

-- those that were asked for are of analyzers
abbrev IsAskedOf : (ℕ → List Named) → RunOf → Type 0
IsAskedOf given r = (a : ℕ) × IsAnalyzer a × (asked_of given a ≡ r)

asked-by : (given : ℕ → List Named) (a : ℕ) (rest : List RunOf) (o : Option Input) → IsAnalyzer a → ((j : ℕ) (r : RunOf) → slice_get rest j ≡ Some r → IsAskedOf given r)
    → (j : ℕ) (r : RunOf) → slice_get (asked_if o (asked_of given a) ++ rest) j ≡ Some r → IsAskedOf given r
asked-by given a rest None number more j r f = more j r f
asked-by given a rest (Some i) number more zero r f = (a, number, same_Some (asked_of given a) r f)
asked-by given a rest (Some i) number more (suc j) r f = more j r f

asked-analyzers : (given : ℕ → List Named) (nodes : List RunNode) → ((k : ℕ) (n : RunNode) → slice_get nodes k ≡ Some n → IsAnalyzer n.analyzer) → (k : ℕ) (r : RunOf) → slice_get (asked_in given nodes) k ≡ Some r → IsAskedOf given r
asked-analyzers given [] are zero r e = cc
asked-analyzers given [] are (suc k) r e = cc
asked-analyzers given (x ∷ nodes) are k r e =
    asked-by given x.analyzer (asked_in given nodes) x.fresh (are 0 x refl) (λ j s f. asked-analyzers given nodes (λ i n at. are (suc i) n at) j s f) k r e

-- each is given facts of a package once
apart-by : (given : ℕ → List Named) (a : ℕ) (rest : List RunOf) (o : Option Input) → ArePathsApart (given a) → ((j : ℕ) (r : RunOf) → slice_get rest j ≡ Some r → ArePathsApart r.facts)
    → (j : ℕ) (r : RunOf) → slice_get (asked_if o (asked_of given a) ++ rest) j ≡ Some r → ArePathsApart r.facts
apart-by given a rest None one more = more
apart-by given a rest (Some i) one more = λ j r f. apart-first given a rest one more j r f
  where
    apart-first : (given : ℕ → List Named) (a : ℕ) (rest : List RunOf) → ArePathsApart (given a) → ((j : ℕ) (r : RunOf) → slice_get rest j ≡ Some r → ArePathsApart r.facts)
        → (j : ℕ) (r : RunOf) → slice_get (asked_of given a ∷ rest) j ≡ Some r → ArePathsApart r.facts
    apart-first given a rest one more zero r f = subst (λ (x : RunOf). ArePathsApart x.facts) (same_Some (asked_of given a) r f) one
    apart-first given a rest one more (suc j) r f = more j r f

pub asked-apart : (given : ℕ → List Named) (nodes : List RunNode) → AllApart given → AreGivenOnce (asked_in given nodes)
asked-apart given [] one = λ k r e. cc
asked-apart given (x ∷ nodes) one = apart-by given x.analyzer (asked_in given nodes) x.fresh (one x.analyzer) (asked-apart given nodes one)

-- the runs of these analyzers are made
pub runs-filled : (given : ℕ → List Named) (cache : List Entry) (load : LoadInput) (numbers : List ℕ) (nodes after : List RunNode) (asked : List RunOf) → AreAnalyzers numbers → AreSought given cache load numbers nodes
    → asked ≡ asked_in given nodes → IsFilled load asked nodes after → AreShortRuns after → AreRuns given cache load numbers after
runs-filled given cache load numbers nodes after asked are is same fills short = record {
  numbers_are = ap numbers_in fills.is ∙ (filled-numbers nodes (map run_text fills.outcomes) ∙ is.numbers_are);
  fresh = ap fresh_runs fills.is ∙ (filled-fresh nodes (map run_text fills.outcomes) ∙ is.fresh);
  left = λ k n at.
      let m = filled-at nodes (map run_text fills.outcomes) k n (subst (λ (l : List RunNode). slice_get l k ≡ Some n) fills.is at) in
      m.3 ∙ (is.left k m.0 m.1 ∙ ap (λ (a : ℕ). left_of cache (run_key given load a)) (sym m.2));
  right = λ fit k n at.
      let answered : HasAnswered load (asked_in given nodes) fills.outcomes = subst (λ (l : List RunOf). HasAnswered load l fills.outcomes) same (fills.answered fit.lawful fit.accepting) in
      filled-come given load nodes fills.outcomes answered.size
      (λ j r o a b.
      let of = asked-analyzers given nodes node-number j r a in
      answered.right j r o a b (subst (λ (x : RunOf). IsRunLawful (run_of load x)) of.2 (record { load = fit.lawful; number = of.1; named = fit.named of.0 })))
      (is.found fit) k n (subst (λ (l : List RunNode). slice_get l k ≡ Some n) fills.is at);
  short = short;
}
  where
    node-number : (k : ℕ) (n : RunNode) → slice_get nodes k ≡ Some n → IsAnalyzer n.analyzer
    node-number k n at = are k n.analyzer (subst (λ (ns : List ℕ). slice_get ns k ≡ Some n.analyzer) is.numbers_are (get-mapped number_in nodes k n at))

-- ---- in a loop

next-is : (p : ℕ) → suc p ≡ p + 1
next-is p = omega arith

fill-suc : (nodes : List RunNode) (p : ℕ) (n m : RunNode) (ts us : List (List ℕ)) → p < length nodes → n ≡ get_or nodes p n → m ≡ with_text n (text_for n.fresh ts n.outcome) → us ≡ texts_after n.fresh ts
    → take (suc p) (set nodes p m) ++ filled (drop (suc p) (set nodes p m)) us ≡ take p nodes ++ filled (drop p nodes) ts
fill-suc [] p n m ts us l is e f = absurd (omega (arith, l))
fill-suc (x ∷ nodes) zero n m ts us l is e f =
    subst (λ (y : RunNode). m ∷ filled nodes us ≡ with_text y (text_for y.fresh ts y.outcome) ∷ filled nodes (texts_after y.fresh ts)) is
    (ap (λ (y : RunNode). y ∷ filled nodes us) e ∙ ap (λ (t : List (List ℕ)). with_text n (text_for n.fresh ts n.outcome) ∷ filled nodes t) f)
fill-suc (x ∷ nodes) (suc p) n m ts us l is e f = ap (λ (r : List RunNode). x ∷ r) (fill-suc nodes p n m ts us (omega (arith, l)) is e f)

pub fill-step : (nodes : List RunNode) (p : ℕ) (n m : RunNode) (ts us : List (List ℕ)) → p < length nodes → n ≡ get_or nodes p n → m ≡ with_text n (text_for n.fresh ts n.outcome) → us ≡ texts_after n.fresh ts
    → take (p + 1) (set nodes p m) ++ filled (drop (p + 1) (set nodes p m)) us ≡ take p nodes ++ filled (drop p nodes) ts
fill-step nodes p n m ts us l is e f = ap (λ (q : ℕ). take q (set nodes p m) ++ filled (drop q (set nodes p m)) us) (sym (next-is p)) ∙ fill-suc nodes p n m ts us l is e f

-- no later run has a longer outcome
pub short-set : (nodes : List RunNode) (p : ℕ) (m : RunNode) → length m.outcome < 2 ^ 64 → AreShortRuns nodes → AreShortRuns (set nodes p m)
short-set [] p m few all k n e = all k n e
short-set (x ∷ nodes) zero m few all zero n e = subst (λ (y : RunNode). length y.outcome < 2 ^ 64) (same_Some m n e) few
short-set (x ∷ nodes) zero m few all (suc k) n e = all (suc k) n e
short-set (x ∷ nodes) (suc p) m few all zero n e = all 0 n e
short-set (x ∷ nodes) (suc p) m few all (suc k) n e = short-set nodes p m few (λ i y at. all (suc i) y at) k n e

pub fill-end : (nodes : List RunNode) (p : ℕ) (ts : List (List ℕ)) → length nodes ≤ p → take p nodes ++ filled (drop p nodes) ts ≡ nodes
fill-end [] zero ts l = refl
fill-end [] (suc p) ts l = refl
fill-end (x ∷ nodes) zero ts l = absurd (omega (arith, l))
fill-end (x ∷ nodes) (suc p) ts l = ap (λ (r : List RunNode). x ∷ r) (fill-end nodes p ts (omega (arith, l)))

-- the outcomes from a place on
drop-past : {X : Type 0} (xs : List X) (k : ℕ) → length xs ≤ k → drop k xs ≡ []
drop-past [] zero l = refl
drop-past [] (suc k) l = refl
drop-past (x ∷ xs) zero l = absurd (omega (arith, l))
drop-past (x ∷ xs) (suc k) l = drop-past xs k (omega (arith, l))

none-past : {X : Type 0} (xs : List X) (k : ℕ) → slice_get xs k ≡ None → length xs ≤ k
none-past [] k e = omega arith
none-past (x ∷ xs) zero e = cc
none-past (x ∷ xs) (suc k) e = let l : length xs ≤ k = none-past xs k e in omega (arith, l)

pub gives_none : (outcomes : List RunOutcome) (next : ℕ) → slice_get outcomes next ≡ None → drop next (map run_text outcomes) ≡ []
gives_none outcomes next e =
    let l : length outcomes ≤ next = none-past outcomes next e in
    let m : length (map run_text outcomes) ≡ length outcomes = length-map outcomes run_text in
    drop-past (map run_text outcomes) next (omega (arith, l, m))

gives-suc : (outcomes : List RunOutcome) (next : ℕ) (o : RunOutcome) → slice_get outcomes next ≡ Some o → drop next (map run_text outcomes) ≡ run_text o ∷ drop (suc next) (map run_text outcomes)
gives-suc [] zero o e = cc
gives-suc [] (suc next) o e = cc
gives-suc (x ∷ outcomes) zero o e = ap (λ (y : RunOutcome). run_text y ∷ map run_text outcomes) (same_Some x o e)
gives-suc (x ∷ outcomes) (suc next) o e = gives-suc outcomes next o e

pub gives_some : (outcomes : List RunOutcome) (next : ℕ) (o : RunOutcome) → slice_get outcomes next ≡ Some o → drop next (map run_text outcomes) ≡ run_text o ∷ drop (next + 1) (map run_text outcomes)
gives_some outcomes next o e = gives-suc outcomes next o e ∙ ap (λ (q : ℕ). run_text o ∷ drop q (map run_text outcomes)) (next-is next)

-- a missing run takes the first of the texts that are left
pub given-text : (o : Option Input) (b : Bool) (texts more : List (List ℕ)) (t own : List ℕ) → is_some o ≡ not b → b ≡ false → texts ≡ t ∷ more → t ≡ text_for o texts own
given-text None b texts more t own e f g = absurd cc
given-text (Some i) b texts more t own e f g = sym (ap (λ (l : List (List ℕ)). first_or l own) g)

pub given-after : (o : Option Input) (b : Bool) (texts more : List (List ℕ)) (t : List ℕ) → is_some o ≡ not b → b ≡ false → texts ≡ t ∷ more → more ≡ texts_after o texts
given-after None b texts more t e f g = absurd cc
given-after (Some i) b texts more t e f g = sym (ap (λ (l : List (List ℕ)). drop 1 l) g)

-- ---- nothing is asked for, or something

pub none-in : {X : Type 0} (xs : List X) (b : Bool) → b ≡ (length xs == 0) → b ≡ true → xs ≡ []
none-in [] b e f = refl
none-in (x ∷ xs) b e f = absurd (let some : suc (length xs) ≡ 0 = eqb-true (suc (length xs)) 0 (sym e ∙ f) in omega (arith, some))

pub nothing_asked : (load : LoadInput) (asked : List RunOf) (nodes : List RunNode) → asked ≡ [] → IsFilled load asked nodes nodes
nothing_asked load asked nodes none =
    subst (λ (l : List RunOf). IsFilled load l nodes nodes) (sym none) (record { outcomes = []; is = sym (filled-none nodes); answered = λ lawful accepting. record { size = refl; right = λ k r o a b. cc } })

pub tried_none : (tried : Bool) (asked : List RunOf) → asked ≡ [] → tried ≡ tried_after tried asked
tried_none tried asked none = ap (λ (l : List RunOf). tried_after tried l) (sym none)

pub tried_some : (tried : Bool) (asked : List RunOf) → (asked ≡ [] → ⊥) → true ≡ tried_after tried asked
tried_some tried [] some = absurd (some refl)
tried_some tried (r ∷ asked) some = refl

pub begun_some : (tried now : Bool) (asked : List RunOf) → (asked ≡ [] → ⊥) → digit now ≤ digit (tried_after tried asked)
begun_some tried now asked some = subst (λ (b : Bool). digit now ≤ digit b) (tried_some tried asked some) (digit-one now)

-- ---- what the runs took

pub spends-all : (cache : List Entry) (given : ℕ → List Named) (load : LoadInput) (numbers : List ℕ) (t u : Bool) (count now : Tally) (asked : List RunOf) → length asked ≡ length (missing_of cache (run_keys given load numbers))
    → digit u ≤ digit (tried_after t asked) → now.loads + digit t ≡ count.loads + digit u → now.runs ≤ count.runs + length asked → Spends cache (run_keys given load (take (length numbers) numbers)) t u count now
spends-all cache given load numbers t u count now asked size begun loads runs =
    subst (λ (ns : List ℕ). Spends cache (run_keys given load ns) t u count now) (sym (take-all numbers)) (record {
      tried = subst (λ (b : Bool). digit u ≤ digit b) (tried-is cache t (run_keys given load numbers) asked size) begun;
      loads = loads;
      runs = (omega (arith, runs, size));
    })
