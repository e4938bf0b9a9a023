-- The runs of a package, one more.
use Rattle.std.proofs.Common.{◌≡◌, ℕ, ◌<◌, ◌≤◌, ◌+◌, ◌^◌, inl, inr, Option, Bool, true, false, Some, None, List, [], ◌∷◌, ◌++◌, length, slice_get, get_or, map, take, zero, suc, refl, sym, ap, ◌∙◌, subst, arith}
use Rattle.std.proofs.lemmas.Option.{same_Some, slice_get_within, slice_get-get_or}
use Rattle.std.proofs.lemmas.List.{length-append, map-append, length-map, map_more, take_more}
use Rattle.action_graph.specs.declared.kit.LoadInput.{LoadInput}
use Rattle.action_graph.specs.declared.kit.RunInput.{RunInput}
use Rattle.action_graph.specs.Nodes.{Named}
use Rattle.action_graph.specs.Analyzing.{IsRunLawful, IsRunOutcome}
use Rattle.action_graph.specs.Work.{IsAnalyzer}
use Rattle.fact_cache.specs.declared.texts.Input.{Input}
use Rattle.fact_cache.specs.declared.list.Entry.{Entry}
use Rattle.gv_driver.specs.declared.node.RunNode.{RunNode}
use Rattle.gv_driver.specs.Analyzers.{AreAnalyzers}
use Rattle.gv_driver.specs.Caches.{is_cached, left_of, missing_of}
use Rattle.gv_driver.specs.Loads.{run_input, run_key, run_keys, run_over}
use Rattle.gv_driver.specs.Making.{AreRuns, IsFit, IsRunFit, Spends, cost, digit, spent, spent_by}
use Rattle.gv_driver.specs.Tables.{fresh_runs, number_in, numbers_in, with_fresh}
use Rattle.gv_driver.specs.Tallies.{Tally}
use Rattle.gv_driver.proofs.MissingLaws.{fresh-append, fresh-missing, missing-append, missing-le, missing-push, spent-push, take-le}
use Rattle.gv_driver.proofs.Places.{append-none, get-push_cases}

pub runs-push : (nodes : List RunNode) (n : RunNode) → fresh_runs (nodes ++ n ∷ []) ≡ fresh_runs nodes ++ with_fresh n.fresh []
runs-push [] n = refl
runs-push (r ∷ nodes) n = ap (λ (l : List Input). with_fresh r.fresh l) (runs-push nodes n) ∙ fresh-append r.fresh (fresh_runs nodes) (with_fresh n.fresh [])

-- one run more
pub fresh-more : (runs : List RunNode) (i : ℕ) (r : RunNode) (count one : ℕ) → i < length runs → r ≡ get_or runs i r → count ≡ length (fresh_runs (take i runs)) → one ≡ length (with_fresh r.fresh []) → count + one ≡ length (fresh_runs (take (i + 1) runs))
fresh-more runs i r count one l is e f =
    let next : take (i + 1) runs ≡ take i runs ++ r ∷ [] = take_more runs i r l ∙ ap (λ (x : RunNode). take i runs ++ x ∷ []) (sym is) in
    let all : length (fresh_runs (take (i + 1) runs)) ≡ length (fresh_runs (take i runs)) + length (with_fresh r.fresh []) =
    ap (λ (rs : List RunNode). length (fresh_runs rs)) next ∙ (ap (λ (ks : List Input). length ks) (runs-push (take i runs) r) ∙ length-append (fresh_runs (take i runs)) (with_fresh r.fresh [])) in
    omega (arith, e, f, all)

module _ (given : ℕ → List Named) (cache : List Entry) (load : LoadInput) where
  pub keys-more : (numbers : List ℕ) (i : ℕ) → i < length numbers → run_keys given load (take (i + 1) numbers) ≡ run_keys given load (take i numbers) ++ run_key given load (get_or numbers i 0) ∷ []
  keys-more numbers i l = map_more (run_key given load) numbers i 0 l

  -- there are at most as many as analyzers
  pub missing-few : (numbers : List ℕ) (i : ℕ) → length (missing_of cache (run_keys given load (take i numbers))) ≤ length numbers
  missing-few numbers i =
      let a : length (missing_of cache (run_keys given load (take i numbers))) ≤ length (run_keys given load (take i numbers)) = missing-le cache (run_keys given load (take i numbers)) in
      let b : length (run_keys given load (take i numbers)) ≡ length (take i numbers) = length-map (take i numbers) (run_key given load) in
      let c : length (take i numbers) ≤ length numbers = take-le i numbers in
      omega (arith, a, b, c)

  -- where there is none
  pub spends-none : (numbers : List ℕ) (t : Bool) (count : Tally) → Spends cache (run_keys given load (take 0 numbers)) t t count count
  spends-none numbers t count = record { tried = omega arith; loads = refl; runs = omega arith }
