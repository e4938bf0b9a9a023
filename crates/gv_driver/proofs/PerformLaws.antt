-- A ready package's nodes are performed.
use Rattle.std.proofs.Common.{◌≡◌, ℕ, ◌+◌, ◌<◌, ◌≤◌, Bool, true, false, Some, None, refl, List, [], ◌∷◌, ◌++◌, Option, length, slice_get, set, get_or, map, take, zero, suc, append_assoc, sym, ap, ◌∙◌, subst, arith}
use Rattle.std.proofs.lemmas.Option.{same_Some, slice_get_within, slice_get-get_or}
use Rattle.std.proofs.lemmas.List.{length-map}
use Rattle.package_faces.specs.Faces.{Face}
use Rattle.action_graph.specs.declared.kit.LoadInput.{LoadInput}
use Rattle.action_graph.specs.Nodes.{Named}
use Rattle.action_graph.specs.Judging.{IsLawful, IsOutcome, IsStuck, accepted_text}
use Rattle.action_graph.specs.Judging.Judged.{Accepts}
use Rattle.action_graph.proofs.JudgingLaws.{tells_accepted}
use Rattle.fact_cache.specs.declared.texts.Input.{Input}
use Rattle.fact_cache.specs.declared.list.Entry.{Entry}
use Rattle.gv_driver.specs.declared.tree.PackageTexts.{PackageTexts}
use Rattle.gv_driver.specs.declared.node.Answer.TheVariants as answer
use Rattle.gv_driver.specs.declared.node.Node.{Node}
use Rattle.gv_driver.specs.declared.node.RunNode.{RunNode}
use Rattle.gv_driver.specs.Analyzers.{analyzers_of}
use Rattle.gv_driver.specs.Trees.{IsTree}
use Rattle.gv_driver.specs.Facts.{IsGiven}
use Rattle.gv_driver.specs.Given.{givens_from}
use Rattle.gv_driver.specs.Whole.{Checked, IsEnv}
use Rattle.gv_driver.specs.Loads.{IsLoadOf, load_input, run_key, run_keys, run_over}
use Rattle.gv_driver.specs.Caches.{IsHonest, left_of, missing_of, one_of}
use Rattle.gv_driver.specs.Making.{AllNamed, AreRuns, IsAccepting, IsBegun, IsFit, IsMade, Takes}
use Rattle.gv_driver.specs.Tables.{AreGood, AreRows, IsLookedUp, IsRightNode, IsRowOf, answer_text, chosen_if, fresh_node, fresh_runs, is_good, load_from, number_in, numbers_in, with_fresh, IsTable, IsReady}
use Rattle.gv_driver.specs.Rows.{merged}
use Rattle.gv_driver.specs.Runs.{Breaks, MeetsCircle, Performs}
use Rattle.gv_driver.specs.Tallies.{Tally}
use Rattle.gv_driver.proofs.AnalyzerLaws.{analyzers-few}
use Rattle.gv_driver.proofs.GivenLaws.{givens-named, givens-right}
use Rattle.gv_driver.proofs.LoadingLaws.{accepting}
use Rattle.gv_driver.proofs.MissingLaws.{fresh-missing, get-taken, missing-append, missing-le, take-all, take-le}
use Rattle.gv_driver.proofs.Places.{contains-at, get-mapped}
use Rattle.gv_driver.proofs.RunNodeLaws.{missing-few}
use Rattle.gv_driver.proofs.WholeLaws.{env-of, judged-of, same_pack}
use Rattle.gv_driver.proofs.LawfulLaws.{load-lawful}
use Rattle.gv_driver.proofs.ReachLaws.{good-merged, ready-load, ready-numbers}

pub pack-at : (tree : List PackageTexts) (table : List (Option Node)) (p : ℕ) (pack : PackageTexts) → IsReady tree table p → pack ≡ get_or tree p pack → slice_get tree p ≡ Some pack
pack-at tree table p pack ready is = slice_get-get_or tree p pack (slice_get_within tree p ready.pack ready.at) ∙ ap (λ x. Some x) (sym is)

-- the load of a ready package is stuck
pub meets-circle : (tree : List PackageTexts) (only : ℕ) (before : List Entry) (table : List (Option Node)) (p : ℕ) (pack : PackageTexts) → IsTree tree → IsTable tree only before table → AreRows tree before table → IsReady tree table p
    → slice_get tree p ≡ Some pack → IsStuck (load_from tree table pack) → MeetsCircle tree before
meets-circle tree only before table p pack formed is rows ready at stuck = record {
  p = p;
  pack = pack;
  env = stuck.env;
  at = at;
  sound = ap (λ (k : PackageTexts). k.sound) (same_pack tree p pack ready.pack at ready.at) ∙ ready.sound;
  stuck = stuck.stuck;
  faces = λ honest. env-of tree p (load_from tree table pack) stuck.env (ready-load tree before table p pack formed honest (is.right honest) rows at ready) stuck.faces;
}

-- a load that accepts is of an accepted package
accepted-of : (tree : List PackageTexts) (p : ℕ) (load : LoadInput) → IsLoadOf tree p load → IsAccepting load → (f : Face) × Checked tree p (Accepts f)
accepted-of tree p load of a =
    let j = judged-of tree p load (accepted_text a.export) of a.outcome in
    let t = tells_accepted j.0 a.export j.2 in
    (t.0, subst (λ v. Checked tree p v) t.1 j.1)

taken-chosen : (b : Bool) (numbers : List ℕ) → (done : ℕ) × (chosen_if b numbers ≡ take done numbers)
taken-chosen true numbers = (length numbers, sym (take-all numbers))
taken-chosen false numbers = (0, refl)

good-by : (b : Bool) (numbers : List ℕ) (runs : List RunNode) → numbers_in runs ≡ chosen_if b numbers → (runs ≡ [] → ⊥) → b ≡ true
good-by true numbers runs e some = refl
good-by false numbers [] e some = absurd (some refl)
good-by false numbers (r ∷ runs) e some = cc

-- the first runs of a package, where they were begun alone
begun-run : (ℕ → List Named) → List Entry → LoadInput → ℕ → RunNode
begun-run given cache load a = record { analyzer = a; fresh = left_of cache (run_key given load a); outcome = [] }

begun-numbers : (given : ℕ → List Named) (cache : List Entry) (load : LoadInput) (ns : List ℕ) → numbers_in (map (begun-run given cache load) ns) ≡ ns
unfolding begun-run
begun-numbers given cache load [] = refl
begun-numbers given cache load (a ∷ ns) = ap (λ (l : List ℕ). a ∷ l) (begun-numbers given cache load ns)

begun-fresh : (given : ℕ → List Named) (cache : List Entry) (load : LoadInput) (ns : List ℕ) → fresh_runs (map (begun-run given cache load) ns) ≡ missing_of cache (run_keys given load ns)
unfolding begun-run
begun-fresh given cache load [] = refl
begun-fresh given cache load (a ∷ ns) =
    ap (λ (l : List Input). with_fresh (left_of cache (run_key given load a)) l) (begun-fresh given cache load ns) ∙ fresh-missing cache (run_key given load a) (run_keys given load ns)

begun-left : (given : ℕ → List Named) (cache : List Entry) (load : LoadInput) (ns : List ℕ) (k : ℕ) (r : RunNode) → slice_get (map (begun-run given cache load) ns) k ≡ Some r → r.fresh ≡ left_of cache (run_key given load r.analyzer)
unfolding begun-run
begun-left given cache load [] zero r h = cc
begun-left given cache load [] (suc k) r h = cc
begun-left given cache load (a ∷ ns) zero r h = subst (λ (x : RunNode). x.fresh ≡ left_of cache (run_key given load x.analyzer)) (same_Some (begun-run given cache load a) r h) refl
begun-left given cache load (a ∷ ns) (suc k) r h = begun-left given cache load ns k r h

begun-node : (ℕ → List Named) → List Entry → LoadInput → List ℕ → Node
begun-node given cache load ns = record { fresh = left_of cache (load_input load); answer = answer.Refused []; reach = []; runs = map (begun-run given cache load) ns }

some-taken : (given : ℕ → List Named) (done : ℕ) (numbers : List ℕ) (cache : List Entry) (load : LoadInput) → (map (begun-run given cache load) (take done numbers) ≡ [] → ⊥) → 0 < done
some-taken given zero numbers cache load some = absurd (some refl)
some-taken given (suc done) numbers cache load some = omega arith

module _ (tree : List PackageTexts) (only : ℕ) (before : List Entry) (table : List (Option Node)) (p : ℕ) (pack : PackageTexts) (formed : IsTree tree) (is : IsTable tree only before table)
    (rows : AreRows tree before table) (ready : IsReady tree table p) (at : slice_get tree p ≡ Some pack) where
  abbrev load : LoadInput
  load = load_from tree table pack

  abbrev numbers : List ℕ
  numbers = analyzers_of only pack.stub

  abbrev given : ℕ → List Named
  given = givens_from tree table pack

  load-of : IsHonest before → IsLoadOf tree p load
  load-of honest = ready-load tree before table p pack formed honest (is.right honest) rows at ready

  lawful-of : IsHonest before → IsLawful load
  lawful-of honest = load-lawful tree p load formed (load-of honest)

  -- over the merged row
  numbers-are : (honest : IsHonest before) → (load-of honest).numbers ≡ merged table pack.imports
  unfolding load-of
  numbers-are honest = ready-numbers tree before table p pack formed honest (is.right honest) rows at ready

  env-are : (honest : IsHonest before) → IsEnv tree p (merged table pack.imports) (load-of honest).faces
  env-are honest = subst (λ (row : List ℕ). IsEnv tree p row (load-of honest).faces) (numbers-are honest) (load-of honest).are

  row-good : AreGood table (merged table pack.imports)
  row-good = good-merged tree before table pack.imports rows (subst (λ (x : PackageTexts). AreGood table x.imports) (same_pack tree p ready.pack pack ready.at at) ready.accepted)

  all-named : IsHonest before → AllNamed given
  all-named honest = givens-named tree table p (merged table pack.imports) (load-of honest).faces formed (env-are honest)

  -- the first runs of the package are given the facts of its environment
  given-of : (honest : IsHonest before) (runs : List RunNode) (done : ℕ) → numbers_in runs ≡ take done numbers → (k : ℕ) (r : RunNode) → slice_get runs k ≡ Some r → IsGiven tree r.analyzer (load-of honest).numbers (given r.analyzer)
  given-of honest runs done same k r h =
      let there : slice_get numbers k ≡ Some r.analyzer = get-taken done k numbers r.analyzer (subst (λ (ns : List ℕ). slice_get ns k ≡ Some r.analyzer) same (get-mapped number_in runs k r h)) in
      subst (λ (row : List ℕ). IsGiven tree r.analyzer row (given r.analyzer)) (sym (numbers-are honest))
      (givens-right tree only table (is.right honest) (merged table pack.imports) row-good r.analyzer pack.stub (contains-at numbers k r.analyzer there))

  made-looked : (n : Node) → IsMade given before load numbers n → IsLookedUp tree only before p n
  made-looked n made = record {
    pack = pack;
    load = load;
    given = given;
    done = (taken-chosen (is_good n.answer) numbers).0;
    at = at;
    path = refl;
    left = made.left;
    numbers = made.runs.numbers_are ∙ (taken-chosen (is_good n.answer) numbers).1;
    runs = made.runs.fresh ∙ ap (λ (ns : List ℕ). missing_of before (run_keys given load ns)) (sym made.runs.numbers_are);
    each = made.runs.left;
    of = load-of;
    are_given = λ honest k r h. given-of honest n.runs (taken-chosen (is_good n.answer) numbers).0 (made.runs.numbers_are ∙ (taken-chosen (is_good n.answer) numbers).1) k r h;
    good = λ honest some.
        accepted-of tree p load (load-of honest)
        (accepting load n.answer (good-by (is_good n.answer) numbers n.runs made.runs.numbers_are some) (made.right honest (lawful-of honest)));
  }

  right-fit : (n : Node) → IsMade given before load numbers n → IsHonest before → (k : ℕ) (r : RunNode) → slice_get n.runs k ≡ Some r → IsFit given before load
  right-fit n made honest k r h = record {
    honest = honest;
    lawful = lawful-of honest;
    accepting = accepting load n.answer (good-by (is_good n.answer) numbers n.runs made.runs.numbers_are (some n.runs k r h)) (made.right honest (lawful-of honest));
    named = all-named honest;
  }
    where
      some : (runs : List RunNode) (i : ℕ) (x : RunNode) → slice_get runs i ≡ Some x → runs ≡ [] → ⊥
      some [] zero x h e = cc
      some [] (suc i) x h e = cc
      some (y ∷ runs) i x h e = cc

  made-right : (n : Node) → IsMade given before load numbers n → IsHonest before → IsRightNode tree only p n
  made-right n made honest =
      let of = load-of honest in
      let same : pack ≡ of.pack = same_pack tree p pack of.pack at of.at in
      record {
        load = load;
        of = of;
        lawful = lawful-of honest;
        given = given;
        are_given = λ k r h. given-of honest n.runs (taken-chosen (is_good n.answer) numbers).0 (made.runs.numbers_are ∙ (taken-chosen (is_good n.answer) numbers).1) k r h;
        outcome = made.right honest (lawful-of honest);
        numbers = made.runs.numbers_are ∙ ap (λ (x : PackageTexts). chosen_if (is_good n.answer) (analyzers_of only x.stub)) same;
        runs = λ k r h. made.runs.right (right-fit n made honest k r h) k r h;
        short = made.runs.short;
      }

  pub performs-made : (n : Node) (count now : Tally) → IsMade given before load numbers n → Takes given before load numbers n count now → Performs tree only before p n count now
  performs-made n count now made takes = record {
    looked = made-looked n made;
    right = made-right n made;
    loads = takes.loads;
    runs = λ honest. takes.runs honest (lawful-of honest) (all-named honest);
    bound = takes.bound;
    most =
        let a : now.runs ≤ count.runs + length numbers = takes.most in
        let b : length numbers ≤ 15 = analyzers-few only pack.stub in
        omega (arith, a, b);
  }

  pub right-made : (n : Node) → IsMade given before load numbers n → IsHonest before → IsRightNode tree only p n
  right-made n made = made-right n made

  pub breaks-begun : (count now : Tally) → IsBegun given before load numbers count now → Breaks tree only before p count now
  unfolding begun-node
  breaks-begun count now begun =
      let ns = take begun.done numbers in
      let n = begun-node given before load ns in
      let fresh : fresh_node n ≡ missing_of before (load_input load ∷ run_keys given load ns) =
      ap (λ (l : List Input). with_fresh (left_of before (load_input load)) l) (begun-fresh given before load ns) ∙ fresh-missing before (load_input load) (run_keys given load ns) in
      let one : one_of (fresh_node n) ≡ one_of (missing_of before (load_input load ∷ run_keys given load ns)) = ap one_of fresh in
      let long : length (fresh_runs n.runs) ≡ length (missing_of before (run_keys given load ns)) = ap (λ (l : List Input). length l) (begun-fresh given before load ns) in
      let loads : now.loads ≤ count.loads + one_of (missing_of before (load_input load ∷ run_keys given load ns)) = begun.loads in
      let runs : now.runs ≤ count.runs + length (missing_of before (run_keys given load ns)) = begun.runs in
      record {
        node = n;
        looked = record {
          pack = pack;
          load = load;
          given = given;
          done = begun.done;
          at = at;
          path = refl;
          left = refl;
          numbers = begun-numbers given before load ns;
          runs = begun-fresh given before load ns ∙ ap (λ (l : List ℕ). missing_of before (run_keys given load l)) (sym (begun-numbers given before load ns));
          each = λ k r h. begun-left given before load ns k r h;
          of = load-of;
          are_given = λ honest k r h. given-of honest (map (begun-run given before load) ns) begun.done (begun-numbers given before load ns) k r h;
          good = λ honest some. accepted-of tree p load (load-of honest) (begun.accepting (some-taken given begun.done numbers before load some) honest (lawful-of honest));
        };
        loads = omega (arith, one, loads);
        runs = omega (arith, long, runs);
        most =
            let a : length (missing_of before (run_keys given load ns)) ≤ length numbers = missing-few given before load numbers begun.done in
            let b : length numbers ≤ 15 = analyzers-few only pack.stub in
            omega (arith, runs, a, b);
      }
