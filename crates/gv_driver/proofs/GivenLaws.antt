-- The facts that a table gives the runs over a package are those of its environment.
use Rattle.std.proofs.Common.{◌≡◌, ℕ, ◌<◌, ◌+◌, ◌⊎◌, inl, inr, Bool, true, false, if◌then◌else◌, Option, Some, List, [], length, map, slice_get, refl, sym, ap, ◌∙◌, subst, arith}
use Rattle.std.specs.List.{Contains}
use Rattle.action_graph.specs.Nodes.{Named, AreNamed}
use Rattle.action_graph.specs.Judging.{Env}
use Rattle.action_graph.specs.Judging.Judged.{Accepts}
use Rattle.action_graph.specs.Work.{has_facts}
use Rattle.handed_facts.specs.Handed.{ArePathsApart}
use Rattle.gv_driver.specs.declared.tree.PackageTexts.{PackageTexts}
use Rattle.gv_driver.specs.declared.node.Node.{Node}
use Rattle.gv_driver.specs.Analyzers.{analyzers_of}
use Rattle.gv_driver.specs.Facts.{HasFacts, IsGiven}
use Rattle.gv_driver.specs.Given.{fact_pair_at, facts_at, givens}
use Rattle.gv_driver.specs.Loads.{IsRunOf, run_over}
use Rattle.gv_driver.specs.Making.{AllApart, AllNamed}
use Rattle.gv_driver.specs.Tables.{AreGood, AreRight, IsGood, IsRightNode, chosen_if, is_good, number_in, numbers_in}
use Rattle.gv_driver.specs.Rows.{merged, path_in}
use Rattle.gv_driver.specs.Trees.{IsTree}
use Rattle.gv_driver.specs.Whole.{AreRising, IsEnv}
use Rattle.gv_driver.proofs.AnalyzerLaws.{analyzers-rise}
use Rattle.gv_driver.proofs.DueLaws.{facts-everywhere}
use Rattle.gv_driver.proofs.FactLaws.{given-right, pairs-beside}
use Rattle.gv_driver.proofs.FactsTold.{AreInTurn, beside-named, facts-known}
use Rattle.gv_driver.proofs.Places.{at-contained, contains-at, element, get-mapped, get-unmapped}
use Rattle.gv_driver.proofs.RowLemmas.{place-set, places-rise}
use Rattle.gv_driver.proofs.TableLaws.{answer-good, good-node, node-tells}
use Rattle.gv_driver.proofs.WholeLaws.{same-number}

-- runs of the analyzers of a package stand in their order
in-turn : (only : ℕ) (stub : Bool) (n : Node) → numbers_in n.runs ≡ analyzers_of only stub → AreInTurn n.runs
in-turn only stub n numbers j k x y l h g =
    (analyzers-rise only stub).rises j k x.analyzer y.analyzer l
    (subst (λ (ns : List ℕ). slice_get ns j ≡ Some x.analyzer) numbers (get-mapped number_in n.runs j x h))
    (subst (λ (ns : List ℕ). slice_get ns k ≡ Some y.analyzer) numbers (get-mapped number_in n.runs k y g))

module _ (tree : List PackageTexts) (only : ℕ) (table : List (Option Node)) (right : AreRight tree only table) where
  -- the table has the facts of a package that is done and accepted
  known : (a : ℕ) (stub : Bool) → Contains (analyzers_of only stub) a → has_facts a ≡ true → (q : ℕ) → IsGood table q → HasFacts tree a q (facts_at (slice_get table q) a)
  known a stub among has q good =
      let g = good-node tree table q right good in
      let r : IsRightNode tree only q g.node = right.node q g.node g.at in
      let accepts : is_good g.node.answer ≡ true = answer-good g.node.answer g.face (node-tells tree table q g.node (Accepts g.face) right g.at g.good) in
      let numbers : numbers_in g.node.runs ≡ analyzers_of only r.of.pack.stub = r.numbers ∙ ap (λ b. chosen_if b (analyzers_of only r.of.pack.stub)) accepts in
      let there : Contains (analyzers_of only r.of.pack.stub) a = facts-everywhere only a stub r.of.pack.stub among has in
      let at : slice_get (numbers_in g.node.runs) there.0 ≡ Some a = subst (λ (ns : List ℕ). slice_get ns there.0 ≡ Some a) (sym numbers) (at-contained (analyzers_of only r.of.pack.stub) a there) in
      let run = get-unmapped number_in g.node.runs there.0 a at in
      let of : IsRunOf tree a q (run_over r.given run.0.analyzer r.load) = record {
        analyzer = run.2;
        of = r.of;
        given = subst (λ (m : ℕ). IsGiven tree m r.of.numbers (r.given run.0.analyzer)) run.2 (r.are_given there.0 run.0 run.1);
      } in
      facts-known tree table a q there.0 g.node run.0 (run_over r.given run.0.analyzer r.load) g.at (in-turn only r.of.pack.stub g.node numbers) run.1 run.2 of has (r.runs there.0 run.0 run.1) (r.short there.0 run.0 run.1)

  -- what an analyzer that runs over a package is given
  pub givens-right : (numbers : List ℕ) → AreGood table numbers → (a : ℕ) (stub : Bool) → Contains (analyzers_of only stub) a → IsGiven tree a numbers (givens tree table numbers a)
  givens-right numbers good a stub among = given-right tree table a numbers (λ has q c. known a stub among has q (good q c))

-- it is of packages with a path
module _ (tree : List PackageTexts) (table : List (Option Node)) (p : ℕ) (numbers : List ℕ) (env : Env) (formed : IsTree tree) (is : IsEnv tree p numbers env) where
  named-if : (a : ℕ) (b : Bool) → AreNamed (if b then map (fact_pair_at tree table a) numbers else [])
  named-if a true = beside-named tree p numbers env (map (fact_pair_at tree table a) numbers) formed is (pairs-beside tree table a numbers)
  named-if a false = tt

  pub givens-named : AllNamed (givens tree table numbers)
  givens-named a = named-if a (has_facts a)

-- ---- over any cache

less-or : (j k : ℕ) → (j < k) ⊎ (k < j + 1)
less-or j k = grind arith

below-or : (k j : ℕ) → k < j + 1 → (k < j) ⊎ (k ≡ j)
below-or k j h = grind arith

-- a number stands in a rising row once
one-place : (row : List ℕ) (j k p q : ℕ) → AreRising row → slice_get row j ≡ Some p → slice_get row k ≡ Some q → p ≡ q → j ≡ k
one-place row j k p q rise at there same = elim (less-or j k) [
  | inl l ↦ absurd (let less : p < q = rise j k p q l at there in omega (arith, less, same))
  | inr h ↦ elim (below-or k j h) [
    | inl l ↦ absurd (let less : q < p = rise k j q p l there at in omega (arith, less, same))
    | inr s ↦ sym s
  ]
]

-- of each package facts are given once
module _ (tree : List PackageTexts) (table : List (Option Node)) (imports : List ℕ) (formed : IsTree tree) (size : length table ≡ length tree) where
  row-rises : AreRising (merged table imports)
  row-rises = places-rise _ (length table)

  row-low : (k q : ℕ) → slice_get (merged table imports) k ≡ Some q → q < length tree
  row-low k q at = let low : q < length table = (place-set _ (length table) q (contains-at (merged table imports) k q at)).0 in omega (arith, low, size)

  pairs-apart : (a : ℕ) → ArePathsApart (map (fact_pair_at tree table a) (merged table imports))
  pairs-apart a = λ j k x y at there same.
      let u = get-unmapped (fact_pair_at tree table a) (merged table imports) j x at in
      let v = get-unmapped (fact_pair_at tree table a) (merged table imports) k y there in
      let s = element tree u.0 (row-low j u.0 u.1) in
      let t = element tree v.0 (row-low k v.0 v.1) in
      let one : x.0 ≡ s.0.path = ap (λ (z : Named). z.0) (sym u.2) ∙ ap path_in s.1 in
      let two : y.0 ≡ t.0.path = ap (λ (z : Named). z.0) (sym v.2) ∙ ap path_in t.1 in
      one-place (merged table imports) j k u.0 v.0 row-rises u.1 v.1 (same-number tree u.0 v.0 s.0 t.0 formed s.1 t.1 (sym one ∙ (same ∙ two)))

  apart-if : (a : ℕ) (b : Bool) → ArePathsApart (if b then map (fact_pair_at tree table a) (merged table imports) else [])
  apart-if a true = pairs-apart a
  apart-if a false = λ j k x y at there same. cc

  pub givens-apart : AllApart (givens tree table (merged table imports))
  givens-apart a = apart-if a (has_facts a)
