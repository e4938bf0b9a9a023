-- A run has one input, whatever facts it reads.
use Rattle.std.proofs.Common.{◌≡◌, ℕ, ◌<◌, Bool, true, false, if◌then◌else◌, Option, Some, List, [], map, length, slice_get, refl, sym, ap, ◌∙◌, subst, arith}
use Rattle.std.specs.List.{Contains}
use Rattle.std.proofs.lemmas.List.{length-map}
use Rattle.std.proofs.lemmas.Option.{same_Some}
use Rattle.action_graph.specs.declared.kit.LoadInput.{LoadInput}
use Rattle.action_graph.specs.declared.kit.RunInput.{RunInput}
use Rattle.action_graph.specs.Nodes.{Named}
use Rattle.action_graph.specs.Analyzing.{Analyzes}
use Rattle.action_graph.specs.Judging.{Env}
use Rattle.action_graph.specs.Judging.Judged.{Accepts}
use Rattle.action_graph.specs.Work.{has_facts}
use Rattle.action_graph.proofs.NodeLemmas.{same_named}
use Rattle.action_graph.proofs.RunLaws.{analyzes_once, same_run}
use Rattle.gv_driver.specs.declared.tree.PackageTexts.{PackageTexts}
use Rattle.gv_driver.specs.Facts.{AreBeside, AreFactsOf, Gives, HasFacts, IsGiven, IsGivenIf}
use Rattle.gv_driver.specs.Facts.HasFacts.{facts_over}
use Rattle.gv_driver.specs.declared.node.Node.{Node}
use Rattle.gv_driver.specs.Given.{fact_pair_at, facts_at, given_over}
use Rattle.gv_driver.specs.Loads.{IsRunOf}
use Rattle.gv_driver.specs.Rows.{path_in}
use Rattle.gv_driver.specs.Whole.{IsEnv}
use Rattle.gv_driver.proofs.Places.{contains-at, element, get-unmapped, same-list}
use Rattle.gv_driver.proofs.WholeLaws.{one-env, one-row, opened, same_pack, unique-load}

-- lists beside the same packages are one, if their texts are
given-once : (tree : List PackageTexts) (p : ℕ) (numbers : List ℕ) (env : Env) (a b : List Named) → IsEnv tree p numbers env → AreBeside tree numbers a → AreBeside tree numbers b
    → ((q : ℕ) (text other : List ℕ) → Gives numbers a q text → Gives numbers b q other → text ≡ other) → a ≡ b
given-once tree p numbers env a b is one two alike = same-list a b (one.size ∙ sym two.size) same
  where
    same : (k : ℕ) → k < length a → slice_get a k ≡ slice_get b k
    same k low =
        let long : length a ≡ length numbers = one.size in
        let also : length b ≡ length numbers = two.size in
        let wide : length env ≡ length numbers = is.around.size in
        let x = element a k low in
        let y = element b k (omega (arith, low, long, also)) in
        let q = element numbers k (omega (arith, low, long)) in
        let f = element env k (omega (arith, low, long, wide)) in
        let o = opened tree q.0 (Accepts f.0) (is.good q.0 f.0 (k, q.1, f.1)) in
        let path : x.0.0 ≡ y.0.0 = one.paths k q.0 o.pack x.0 q.1 o.at x.1 ∙ sym (two.paths k q.0 o.pack y.0 q.1 o.at y.1) in
        let text : x.0.1 ≡ y.0.1 = alike q.0 x.0.1 y.0.1 (k, x.0, q.1, x.1, refl) (k, y.0, q.1, y.1, refl) in
        x.1 ∙ (ap (λ (z : Named). Some z) (same_named x.0 y.0 path text) ∙ sym y.1)

facts-with : (tree : List PackageTexts) (a p : ℕ) (pack : PackageTexts) (numbers : List ℕ) (env : Env) (given : List Named) (findings facts : List ℕ) → slice_get tree p ≡ Some pack → IsEnv tree p numbers env
    → AreBeside tree numbers given → ((q : ℕ) (text other : List ℕ) → Gives numbers given q text → HasFacts tree a q other → text ≡ other) → Analyzes a pack.path pack.files env given findings facts
    → (more : List ℕ) → HasFacts tree a p more → facts ≡ more
facts-with tree a _ pack numbers env given findings facts at is beside same analyzes _ (facts_over p pack2 numbers2 env2 given2 findings2 facts2 at2 is2 beside2 has2 analyzes2) =
    let one : pack ≡ pack2 = same_pack tree p pack pack2 at at2 in
    let row : numbers ≡ numbers2 = one-row tree p numbers numbers2 env env2 is is2 in
    let faces : env ≡ env2 = one-env tree p numbers numbers2 env env2 is is2 in
    let here : AreBeside tree numbers2 given = subst (λ (l : List ℕ). AreBeside tree l given) row beside in
    let alike : (q : ℕ) (text other : List ℕ) → Gives numbers2 given q text → Gives numbers2 given2 q other → text ≡ other =
    λ q text other g h. same q text other (subst (λ (l : List ℕ). Gives l given q text) (sym row) g) (has2 q other h) in
    let texts : given ≡ given2 = given-once tree p numbers2 env2 given given2 is2 here beside2 alike in
    (analyzes_once a pack2.path pack2.files env2 given2 findings findings2 facts facts2
    (subst (λ (x : PackageTexts). Analyzes a x.path x.files env2 given2 findings facts) one
    (subst (λ (e : Env). Analyzes a pack.path pack.files e given2 findings facts) faces
    (subst (λ (g : List Named). Analyzes a pack.path pack.files env g findings facts) texts analyzes))) analyzes2).1

-- a package has one list of facts
pub facts-once : (tree : List PackageTexts) (a p : ℕ) (facts more : List ℕ) → HasFacts tree a p facts → HasFacts tree a p more → facts ≡ more
facts-once tree a _ _ more (facts_over p pack numbers env given findings facts at is beside has analyzes) other =
    facts-with tree a p pack numbers env given findings facts at is beside (λ q text another g h. facts-once tree a q text another (has q text g) h) analyzes more other

pub given-is : (tree : List PackageTexts) (a p : ℕ) (b : Bool) (numbers : List ℕ) (env : Env) (x y : List Named) → IsEnv tree p numbers env → IsGivenIf b tree a numbers x → IsGivenIf b tree a numbers y → x ≡ y
given-is tree a p true numbers env x y is one two =
    given-once tree p numbers env x y is one.beside two.beside (λ q text other g h. facts-once tree a q text other (one.facts q text g) (two.facts q other h))
given-is tree a p false numbers env x y is one two = one ∙ sym two

-- and one input of a run
pub run-of-once : (tree : List PackageTexts) (a p : ℕ) (r s : RunInput) → IsRunOf tree a p r → IsRunOf tree a p s → r ≡ s
run-of-once tree a p r s one two =
    let load : r.load ≡ s.load = unique-load tree p r.load s.load one.of two.of in
    let row : one.of.numbers ≡ two.of.numbers = one-row tree p one.of.numbers two.of.numbers one.of.faces two.of.faces one.of.are two.of.are in
    let given : r.facts ≡ s.facts = given-is tree a p (has_facts a) two.of.numbers two.of.faces r.facts s.facts two.of.are (subst (λ (l : List ℕ). IsGivenIf (has_facts a) tree a l r.facts) row one.given) two.given in
    same_run r s load (one.analyzer ∙ sym two.analyzer) given

given-none : (tree : List PackageTexts) (a : ℕ) (b : Bool) (numbers : List ℕ) (x : List Named) → b ≡ false → IsGivenIf b tree a numbers x → x ≡ []
given-none tree a true numbers x e is = cc
given-none tree a false numbers x e is = is

-- an analyzer without facts reads none
pub run-without : (tree : List PackageTexts) (a p : ℕ) (r : RunInput) → has_facts a ≡ false → IsRunOf tree a p r → r.facts ≡ []
run-without tree a p r none is = given-none tree a (has_facts a) is.of.numbers r.facts none is.given

-- ---- as a table tells them

pub pairs-beside : (tree : List PackageTexts) (table : List (Option Node)) (a : ℕ) (numbers : List ℕ) → AreBeside tree numbers (map (fact_pair_at tree table a) numbers)
pairs-beside tree table a numbers = record {
  size = length-map numbers (fact_pair_at tree table a);
  paths = λ k q other x here at there.
      let h = get-unmapped (fact_pair_at tree table a) numbers k x there in
      let same : h.0 ≡ q = same_Some h.0 q (sym h.1 ∙ here) in
      ap (λ (y : Named). y.0) (sym h.2) ∙ (ap (λ (n : ℕ). path_in (slice_get tree n)) same ∙ ap path_in at);
}

module _ (tree : List PackageTexts) (table : List (Option Node)) (a : ℕ) (numbers : List ℕ) (known : has_facts a ≡ true → (q : ℕ) → Contains numbers q → HasFacts tree a q (facts_at (slice_get table q) a)) where
  pairs-facts : has_facts a ≡ true → (q : ℕ) (text : List ℕ) → Gives numbers (map (fact_pair_at tree table a) numbers) q text → HasFacts tree a q text
  pairs-facts has q text (k, x, here, there, e) =
      let h = get-unmapped (fact_pair_at tree table a) numbers k x there in
      let same : h.0 ≡ q = same_Some h.0 q (sym h.1 ∙ here) in
      let is_text : facts_at (slice_get table q) a ≡ text = ap (λ (n : ℕ). facts_at (slice_get table n) a) (sym same) ∙ (ap (λ (y : Named). y.1) h.2 ∙ e) in
      subst (HasFacts tree a q) is_text (known has q (contains-at numbers k q here))

  given-if : (b : Bool) → has_facts a ≡ b → IsGivenIf b tree a numbers (if b then map (fact_pair_at tree table a) numbers else [])
  given-if true has = record { beside = pairs-beside tree table a numbers; facts = pairs-facts has }
  given-if false has = refl

  -- where the table has the facts of the environment, a run is given them
  pub given-right : IsGiven tree a numbers (given_over tree table a numbers)
  given-right = given-if (has_facts a) refl
