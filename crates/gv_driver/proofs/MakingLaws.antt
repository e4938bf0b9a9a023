-- A package's nodes, made or begun.
use Rattle.std.proofs.Common.{◌≡◌, ℕ, ◌<◌, ◌≤◌, ◌+◌, Bool, true, false, if◌then◌else◌, Option, Some, None, List, [], ◌∷◌, length, slice_get, map, take, zero, suc, refl, sym, ap, ◌∙◌, subst, arith}
use Rattle.action_graph.specs.declared.kit.LoadInput.{LoadInput}
use Rattle.action_graph.specs.Nodes.{Named}
use Rattle.action_graph.specs.Judging.{IsLawful, IsOutcome}
use Rattle.fact_cache.specs.declared.texts.Input.{Input}
use Rattle.fact_cache.specs.declared.list.Entry.{Entry}
use Rattle.gv_driver.specs.declared.node.Begun.{Begun}
use Rattle.gv_driver.specs.declared.node.Node.{Node}
use Rattle.gv_driver.specs.declared.node.RunNode.{RunNode}
use Rattle.gv_driver.specs.Analyzers.{AreAnalyzers}
use Rattle.gv_driver.specs.Caches.{IsHonest, is_cached, left_of, missing_of, one_of}
use Rattle.gv_driver.specs.Loads.{load_input, run_keys}
use Rattle.gv_driver.specs.Making.{AllNamed, AreRuns, IsAccepting, IsBegun, IsFit, IsMade, IsOpened, Spends, Takes, digit, spent, spent_by}
use Rattle.gv_driver.specs.Tables.{answer_text, chosen_if, fresh_node, fresh_runs, is_good, with_fresh}
use Rattle.gv_driver.specs.Tallies.{Tally}
use Rattle.gv_driver.proofs.AnalyzerLaws.{chosen-few}
use Rattle.gv_driver.proofs.LoadingLaws.{accepting}
use Rattle.gv_driver.proofs.MissingLaws.{fresh-missing, missing-le, one-spent, take-all, take-le}
use Rattle.gv_driver.proofs.RunNodeLaws.{missing-few}

module _ (given : ℕ → List Named) (cache : List Entry) (load : LoadInput) where
  -- nothing was executed
  pub begun-none : (numbers : List ℕ) (count : Tally) → IsBegun given cache load numbers count count
  begun-none numbers count = record {
    done = 0;
    accepting = λ l. absurd (omega (arith, l));
    loads = omega arith;
    runs = omega arith;
  }

  -- the load, and then runs
  begun-by : (numbers : List ℕ) (count mid now : Tally) (t u : Bool) (done : ℕ) → t ≡ spent false (is_cached cache (load_input load)) → mid.loads ≡ count.loads + digit t → mid.runs ≡ count.runs
      → (0 < done → IsHonest cache → IsLawful load → IsAccepting load) → Spends cache (run_keys given load (take done numbers)) t u mid now → IsBegun given cache load numbers count now
  begun-by numbers count mid now t u done tried one same fit s =
      let keys = run_keys given load (take done numbers) in
      let e : digit (spent_by cache t keys) ≡ one_of (missing_of cache (load_input load ∷ keys)) = ap (λ b. digit (spent_by cache b keys)) tried ∙ one-spent cache (load_input load ∷ keys) in
      let le : digit u ≤ digit (spent_by cache t keys) = s.tried in
      let two : now.loads + digit t ≡ mid.loads + digit u = s.loads in
      let three : now.runs ≤ mid.runs + length (missing_of cache keys) = s.runs in
      record { done = done; accepting = fit; loads = omega (arith, one, two, le, e); runs = omega (arith, same, three) }

  chosen-done : (good : Bool) (numbers : List ℕ) (done : ℕ) → (d : ℕ) × (take d numbers ≡ take done (chosen_if good numbers)) × (0 < d → good ≡ true)
  chosen-done true numbers done = (done, refl, λ l. refl)
  chosen-done false numbers done = (0, sym (nothing done), λ l. absurd (omega (arith, l)))
    where
      nothing : (k : ℕ) → take {A = ℕ} k [] ≡ []
      nothing zero = refl
      nothing (suc k) = refl

  pub begun-runs : {L : Type 0} (is_of : L → LoadInput → Type 0) (keeps : L → Type 0) (numbers : List ℕ) (begun : Begun L) (count mid now : Tally) (u good : Bool) (done : ℕ) → IsOpened is_of keeps cache load begun
      → good ≡ is_good begun.answer → mid.loads ≡ count.loads + digit begun.loading.tried → mid.runs ≡ count.runs
      → Spends cache (run_keys given load (take done (chosen_if good numbers))) begun.loading.tried u mid now → IsBegun given cache load numbers count now
  begun-runs is_of keeps numbers begun count mid now u good done opened is one same s =
      let d = chosen-done good numbers done in
      begun-by numbers count mid now begun.loading.tried u d.0 opened.tried one same
      (λ l honest lawful. accepting load begun.answer (sym is ∙ d.2 l) (opened.right honest lawful))
      (subst (λ (ns : List ℕ). Spends cache (run_keys given load ns) begun.loading.tried u mid now) (sym d.1) s)

  pub made-node : {L : Type 0} (is_of : L → LoadInput → Type 0) (keeps : L → Type 0) (numbers : List ℕ) (begun : Begun L) (n : Node) (runs : List RunNode) (good : Bool) → IsOpened is_of keeps cache load begun
      → good ≡ is_good begun.answer → n.fresh ≡ begun.fresh → n.answer ≡ begun.answer → n.runs ≡ runs → AreRuns given cache load (chosen_if good numbers) runs → IsMade given cache load numbers n
  made-node is_of keeps numbers begun n runs good opened is fresh answer same are = record {
    left = fresh ∙ opened.left;
    right = λ honest lawful. subst (λ a. IsOutcome load (answer_text a)) (sym answer) (opened.right honest lawful);
    runs =
        subst (λ (rs : List RunNode). AreRuns given cache load (chosen_if (is_good n.answer) numbers) rs) (sym same)
        (subst (λ (g : Bool). AreRuns given cache load (chosen_if g numbers) runs) (is ∙ ap is_good (sym answer)) are);
  }

  fresh-made : (numbers : List ℕ) (n : Node) → IsMade given cache load numbers n → fresh_node n ≡ missing_of cache (load_input load ∷ run_keys given load (chosen_if (is_good n.answer) numbers))
  fresh-made numbers n made =
      ap (λ o. with_fresh o (fresh_runs n.runs)) made.left
      ∙ (ap (λ (l : List Input). with_fresh (left_of cache (load_input load)) l) made.runs.fresh ∙ fresh-missing cache (load_input load) (run_keys given load (chosen_if (is_good n.answer) numbers)))

  none-missing : (b : Bool) (numbers : List ℕ) → b ≡ false → length (missing_of cache (run_keys given load (chosen_if b numbers))) ≡ 0
  none-missing true numbers e = cc
  none-missing false numbers e = refl

  exact-by : (b : Bool) (n : Node) (numbers : List ℕ) (mid now : ℕ) → IsMade given cache load numbers n → is_good n.answer ≡ b
      → (IsFit given cache load → now ≡ mid + length (missing_of cache (run_keys given load (chosen_if b numbers)))) → now ≤ mid + length (missing_of cache (run_keys given load (chosen_if b numbers)))
      → mid ≤ now → IsHonest cache → IsLawful load → AllNamed given → now ≡ mid + length (fresh_runs n.runs)
  exact-by true n numbers mid now made good exact most least honest lawful named =
      let e : now ≡ mid + length (missing_of cache (run_keys given load numbers)) = exact (record { honest = honest; lawful = lawful; accepting = accepting load n.answer good (made.right honest lawful); named = named }) in
      let f : length (fresh_runs n.runs) ≡ length (missing_of cache (run_keys given load (chosen_if (is_good n.answer) numbers))) = ap (λ (l : List Input). length l) made.runs.fresh in
      let g : length (missing_of cache (run_keys given load (chosen_if (is_good n.answer) numbers))) ≡ length (missing_of cache (run_keys given load numbers)) = ap (λ b. length (missing_of cache (run_keys given load (chosen_if b numbers)))) good in
      omega (arith, e, f, g)
  exact-by false n numbers mid now made good exact most least honest lawful named =
      let f : length (fresh_runs n.runs) ≡ length (missing_of cache (run_keys given load (chosen_if (is_good n.answer) numbers))) = ap (λ (l : List Input). length l) made.runs.fresh in
      let g : length (missing_of cache (run_keys given load (chosen_if (is_good n.answer) numbers))) ≡ 0 = none-missing (is_good n.answer) numbers good in
      let h : length (missing_of cache (run_keys given load [])) ≡ 0 = refl in
      omega (arith, f, g, most, least)

  pub takes-node : {L : Type 0} (is_of : L → LoadInput → Type 0) (keeps : L → Type 0) (numbers : List ℕ) (begun : Begun L) (n : Node) (count mid now : Tally) (u good : Bool) → IsOpened is_of keeps cache load begun
      → good ≡ is_good n.answer → mid.loads ≡ count.loads + digit begun.loading.tried → mid.runs ≡ count.runs → IsMade given cache load numbers n
      → u ≡ spent_by cache begun.loading.tried (run_keys given load (chosen_if good numbers)) → now.loads + digit begun.loading.tried ≡ mid.loads + digit u
      → (IsFit given cache load → now.runs ≡ mid.runs + length (missing_of cache (run_keys given load (chosen_if good numbers))))
      → now.runs ≤ mid.runs + length (missing_of cache (run_keys given load (chosen_if good numbers))) → mid.runs ≤ now.runs
      → Takes given cache load numbers n count now
  takes-node is_of keeps numbers begun n count mid now u good opened is one same made tried two exact most least =
      let keys = run_keys given load (chosen_if good numbers) in
      let e : digit u ≡ one_of (missing_of cache (load_input load ∷ keys)) = ap digit tried ∙ (ap (λ b. digit (spent_by cache b keys)) opened.tried ∙ one-spent cache (load_input load ∷ keys)) in
      let f : one_of (fresh_node n) ≡ one_of (missing_of cache (load_input load ∷ keys)) = ap one_of (fresh-made numbers n made ∙ ap (λ b. missing_of cache (load_input load ∷ run_keys given load (chosen_if b numbers))) (sym is)) in
      let few : length (missing_of cache keys) ≤ length (chosen_if good numbers) =
      (let a : length (missing_of cache (run_keys given load (take (length (chosen_if good numbers)) (chosen_if good numbers)))) ≤ length (chosen_if good numbers) = missing-few given cache load (chosen_if good numbers) (length (chosen_if good numbers)) in
      subst (λ (ns : List ℕ). length (missing_of cache (run_keys given load ns)) ≤ length (chosen_if good numbers)) (take-all (chosen_if good numbers)) a) in
      let fewer : length (chosen_if good numbers) ≤ length numbers = chosen-few good numbers in
      let long : length (fresh_runs n.runs) ≡ length (missing_of cache keys) =
      ap (λ (l : List Input). length l) (made.runs.fresh ∙ ap (λ b. missing_of cache (run_keys given load (chosen_if b numbers))) (sym is)) in
      record {
        loads = omega (arith, one, two, e, f);
        runs = λ honest lawful named. (let x : now.runs ≡ mid.runs + length (fresh_runs n.runs) = exact-by good n numbers mid.runs now.runs made (sym is) exact most least honest lawful named in omega (arith, x, same));
        bound = omega (arith, most, long, same);
        most = omega (arith, most, few, fewer, same);
      }

  -- nodes that were made, were begun
  pub begun-made : (numbers : List ℕ) (n : Node) (count now : Tally) → IsMade given cache load numbers n → Takes given cache load numbers n count now → IsBegun given cache load numbers count now
  begun-made numbers n count now made takes = begun-case (is_good n.answer) refl
    where
      begun-case : (b : Bool) → is_good n.answer ≡ b → IsBegun given cache load numbers count now
      begun-case true good =
          let all : take (length numbers) numbers ≡ numbers = take-all numbers in
          let f : fresh_node n ≡ missing_of cache (load_input load ∷ run_keys given load (take (length numbers) numbers)) =
          fresh-made numbers n made ∙ (ap (λ b. missing_of cache (load_input load ∷ run_keys given load (chosen_if b numbers))) good ∙ ap (λ (ns : List ℕ). missing_of cache (load_input load ∷ run_keys given load ns)) (sym all)) in
          let g : fresh_runs n.runs ≡ missing_of cache (run_keys given load (take (length numbers) numbers)) =
          made.runs.fresh ∙ (ap (λ b. missing_of cache (run_keys given load (chosen_if b numbers))) good ∙ ap (λ (ns : List ℕ). missing_of cache (run_keys given load ns)) (sym all)) in
          let one : now.loads ≡ count.loads + one_of (fresh_node n) = takes.loads in
          let most : now.runs ≤ count.runs + length (fresh_runs n.runs) = takes.bound in
          let e : one_of (fresh_node n) ≡ one_of (missing_of cache (load_input load ∷ run_keys given load (take (length numbers) numbers))) = ap one_of f in
          let h : length (fresh_runs n.runs) ≡ length (missing_of cache (run_keys given load (take (length numbers) numbers))) = ap (λ (l : List Input). length l) g in
          record {
            done = length numbers;
            accepting = λ l honest lawful. accepting load n.answer good (made.right honest lawful);
            loads = omega (arith, one, e);
            runs = omega (arith, most, h);
          }
      begun-case false good =
          let f : fresh_node n ≡ missing_of cache (load_input load ∷ []) = fresh-made numbers n made ∙ ap (λ b. missing_of cache (load_input load ∷ run_keys given load (chosen_if b numbers))) good in
          let g : fresh_runs n.runs ≡ [] = made.runs.fresh ∙ ap (λ b. missing_of cache (run_keys given load (chosen_if b numbers))) good in
          let one : now.loads ≡ count.loads + one_of (fresh_node n) = takes.loads in
          let most : now.runs ≤ count.runs + length (fresh_runs n.runs) = takes.bound in
          let e : one_of (fresh_node n) ≡ one_of (missing_of cache (load_input load ∷ [])) = ap one_of f in
          let h : length (fresh_runs n.runs) ≡ 0 = ap (λ (l : List Input). length l) g in
          record {
            done = 0;
            accepting = λ l. absurd (omega (arith, l));
            loads = omega (arith, one, e);
            runs = omega (arith, most, h);
          }

  -- nothing was executed, and the counts stayed
  pub begun-same : (numbers : List ℕ) (count now : Tally) → now.loads ≡ count.loads → now.runs ≡ count.runs → IsBegun given cache load numbers count now
  begun-same numbers count now loads runs = record {
    done = 0;
    accepting = λ l. absurd (omega (arith, l));
    loads = omega (arith, loads);
    runs = omega (arith, runs);
  }

  -- the same node with its row
  pub made-same : (numbers : List ℕ) (n m : Node) → m.fresh ≡ n.fresh → m.answer ≡ n.answer → m.runs ≡ n.runs → IsMade given cache load numbers n → IsMade given cache load numbers m
  made-same numbers n m fresh answer runs is = record {
    left = fresh ∙ is.left;
    right = λ honest lawful. subst (λ a. IsOutcome load (answer_text a)) (sym answer) (is.right honest lawful);
    runs =
        subst (λ (rs : List RunNode). AreRuns given cache load (chosen_if (is_good m.answer) numbers) rs) (sym runs)
        (subst (λ a. AreRuns given cache load (chosen_if (is_good a) numbers) n.runs) (sym answer) is.runs);
  }

  pub takes-same : (numbers : List ℕ) (n m : Node) (count now : Tally) → m.fresh ≡ n.fresh → m.runs ≡ n.runs → Takes given cache load numbers n count now → Takes given cache load numbers m count now
  takes-same numbers n m count now fresh runs is = record {
    loads = is.loads ∙ ap (λ (l : List Input). count.loads + one_of l) (same-fresh n.fresh m.fresh n.runs m.runs (sym fresh) (sym runs));
    runs = λ honest lawful named. is.runs honest lawful named ∙ ap (λ (rs : List RunNode). count.runs + length (fresh_runs rs)) (sym runs);
    bound = subst (λ (rs : List RunNode). now.runs ≤ count.runs + length (fresh_runs rs)) (sym runs) is.bound;
    most = is.most;
  }
    where
      same-fresh : (a b : Option Input) (xs ys : List RunNode) → a ≡ b → xs ≡ ys → with_fresh a (fresh_runs xs) ≡ with_fresh b (fresh_runs ys)
      same-fresh a b xs ys e f = ap (λ (o : Option Input). with_fresh o (fresh_runs xs)) e ∙ ap (λ (rs : List RunNode). with_fresh b (fresh_runs rs)) f
