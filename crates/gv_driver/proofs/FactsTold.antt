-- The outcome text of a run tells the facts of its package.
use Rattle.std.proofs.Common.{◌≡◌, ℕ, ◌<◌, ◌≤◌, ◌^◌, ◌==◌, Bool, true, false, if◌then◌else◌, Option, Some, List, [], ◌∷◌, zero, suc, length, slice_get, refl, sym, ap, ◌∙◌, subst, arith}
use Rattle.std.proofs.lemmas.Bool.Decides.{nat_tests}
use Rattle.std.proofs.lemmas.Option.{same_Some, slice_get_within}
use Rattle.action_graph.specs.declared.kit.RunInput.{RunInput}
use Rattle.action_graph.specs.Nodes.{Named, AreNamed}
use Rattle.action_graph.specs.Analyzing.{Analyzes, IsRunLawful, IsRunOutcome}
use Rattle.action_graph.specs.Judging.{Env, IsLawful}
use Rattle.action_graph.specs.Judging.Judged.{Accepts}
use Rattle.action_graph.specs.Outcomes.{facts_of, outcome_text}
use Rattle.action_graph.specs.Work.{IsAnalyzer, has_facts}
use Rattle.action_graph.proofs.OutcomeLaws.{told}
use Rattle.gv_driver.specs.declared.tree.PackageTexts.{PackageTexts}
use Rattle.gv_driver.specs.declared.node.Node.{Node}
use Rattle.gv_driver.specs.declared.node.RunNode.{RunNode}
use Rattle.gv_driver.specs.Facts.{AreBeside, AreFactsOf, HasFacts, IsGivenIf}
use Rattle.gv_driver.specs.Facts.HasFacts.{facts_over}
use Rattle.gv_driver.specs.Given.{facts_at, outcome_in}
use Rattle.gv_driver.specs.Loads.{IsRunOf}
use Rattle.gv_driver.specs.Trees.{IsTree}
use Rattle.gv_driver.specs.Whole.{HasEnv, IsEnv}
use Rattle.gv_driver.proofs.Places.{element}
use Rattle.gv_driver.proofs.WholeLaws.{env-of, one-row, opened}

given-facts : (tree : List PackageTexts) (a : ℕ) (b : Bool) (numbers : List ℕ) (given : List Named) → b ≡ true → IsGivenIf b tree a numbers given → AreFactsOf tree a numbers given
given-facts tree a true numbers given e is = is
given-facts tree a false numbers given e is = cc

-- what comes of a run is of its package
pub facts-come : (tree : List PackageTexts) (a p : ℕ) (run : RunInput) (text : List ℕ) → IsRunOf tree a p run → has_facts a ≡ true → (out : IsRunOutcome run text) → HasFacts tree a p out.facts
facts-come tree a p run text is has out =
    let of = is.of in
    let env : HasEnv tree p out.env = env-of tree p run.load out.env of out.faces in
    let row : of.numbers ≡ env.0 = one-row tree p of.numbers env.0 of.faces out.env of.are env.1 in
    let given : AreFactsOf tree a env.0 run.facts = subst (λ (l : List ℕ). AreFactsOf tree a l run.facts) row (given-facts tree a (has_facts a) of.numbers run.facts has is.given) in
    let analyzes : Analyzes a of.pack.path of.pack.files out.env run.facts out.findings out.facts =
    subst (λ (x : List ℕ). Analyzes a x of.pack.files out.env run.facts out.findings out.facts) of.path
    (subst (λ (x : List Named). Analyzes a run.load.path x out.env run.facts out.findings out.facts) of.files
    (subst (λ (n : ℕ). Analyzes n run.load.path run.load.files out.env run.facts out.findings out.facts) is.analyzer out.analyzes)) in
    facts_over p of.pack env.0 out.env run.facts out.findings out.facts of.at env.1 given.beside given.facts analyzes

-- what a run answers has the facts of its package
pub facts-told : (tree : List PackageTexts) (a p : ℕ) (run : RunInput) (text : List ℕ) → IsRunOf tree a p run → has_facts a ≡ true → IsRunOutcome run text → length text < 2 ^ 64 → HasFacts tree a p (facts_of text)
facts-told tree a p run text is has out short =
    let long : length text ≡ length (outcome_text out.findings out.facts) = ap (λ (l : List ℕ). length l) out.tells in
    let facts : facts_of text ≡ out.facts = ap facts_of out.tells ∙ (told out.findings out.facts (omega (arith, long, short))).1 in
    subst (HasFacts tree a p) (sym facts) (facts-come tree a p run text is has out)

-- ---- a run that may be asked for

named-from : (xs : List Named) → ((k : ℕ) (x : Named) → slice_get xs k ≡ Some x → x.0 ≡ [] → ⊥) → AreNamed xs
named-from [] h = tt
named-from (x ∷ xs) h = (h 0 x refl, named-from xs (λ k. h (suc k)))

pub beside-named : (tree : List PackageTexts) (p : ℕ) (numbers : List ℕ) (env : Env) (given : List Named) → IsTree tree → IsEnv tree p numbers env → AreBeside tree numbers given → AreNamed given
beside-named tree p numbers env given formed is beside = named-from given some
  where
    some : (k : ℕ) (x : Named) → slice_get given k ≡ Some x → x.0 ≡ [] → ⊥
    some k x h none =
        let low : k < length given = slice_get_within given k x h in
        let long : length given ≡ length numbers = beside.size in
        let wide : length env ≡ length numbers = is.around.size in
        let q = element numbers k (omega (arith, low, long)) in
        let f = element env k (omega (arith, low, long, wide)) in
        let o = opened tree q.0 (Accepts f.0) (is.good q.0 f.0 (k, q.1, f.1)) in
        (formed.source q.0 o.pack o.at o.sound).has_path (sym (beside.paths k q.0 o.pack x q.1 o.at h) ∙ none)

given-named : (tree : List PackageTexts) (a p : ℕ) (b : Bool) (numbers : List ℕ) (env : Env) (given : List Named) → IsTree tree → IsEnv tree p numbers env → IsGivenIf b tree a numbers given → AreNamed given
given-named tree a p true numbers env given formed is has = beside-named tree p numbers env given formed is has.beside
given-named tree a p false numbers env given formed is none = subst AreNamed (sym none) tt

pub run-lawful : (tree : List PackageTexts) (a p : ℕ) (run : RunInput) → IsTree tree → IsLawful run.load → IsAnalyzer a → IsRunOf tree a p run → IsRunLawful run
run-lawful tree a p run formed lawful number is = record {
  load = lawful;
  number = subst IsAnalyzer (sym is.analyzer) number;
  named = given-named tree a p (has_facts a) is.of.numbers is.of.faces run.facts formed is.of.are is.given;
}

-- ---- in a table

-- the runs of a package stand in the order of their analyzers
abbrev pub AreInTurn : List RunNode → Type 0
AreInTurn runs = (j k : ℕ) (x y : RunNode) → j < k → slice_get runs j ≡ Some x → slice_get runs k ≡ Some y → x.analyzer < y.analyzer

is-itself : (a : ℕ) → (a == a) ≡ true
is-itself a = grind (arith, nat_tests)

is-another : (a b : ℕ) → a < b → (a == b) ≡ false
is-another a b l = grind (arith, nat_tests)

taken : (b : Bool) (x : List ℕ) (more : List ℕ) → b ≡ true → (if b then x else more) ≡ x
taken true x more e = refl
taken false x more e = cc

passed : (b : Bool) (x : List ℕ) (more : List ℕ) → b ≡ false → (if b then x else more) ≡ more
passed true x more e = cc
passed false x more e = refl

outcome-at : (runs : List RunNode) (k : ℕ) (r : RunNode) → AreInTurn runs → slice_get runs k ≡ Some r → outcome_in runs r.analyzer ≡ r.outcome
outcome-at [] zero r rises h = cc
outcome-at [] (suc k) r rises h = cc
outcome-at (x ∷ runs) zero r rises h =
    subst (λ (y : RunNode). outcome_in (x ∷ runs) y.analyzer ≡ y.outcome) (same_Some x r h) (taken (x.analyzer == x.analyzer) x.outcome (outcome_in runs x.analyzer) (is-itself x.analyzer))
outcome-at (x ∷ runs) (suc k) r rises h =
    passed (x.analyzer == r.analyzer) x.outcome (outcome_in runs r.analyzer) (is-another x.analyzer r.analyzer (rises 0 (suc k) x r (omega arith) refl h))
    ∙ outcome-at runs k r (λ i j y z l. rises (suc i) (suc j) y z (omega (arith, l))) h

-- a table has the facts of a package whose run it has
pub facts-known : (tree : List PackageTexts) (table : List (Option Node)) (a q k : ℕ) (n : Node) (r : RunNode) (run : RunInput) → slice_get table q ≡ Some (Some n) → AreInTurn n.runs → slice_get n.runs k ≡ Some r → r.analyzer ≡ a
    → IsRunOf tree a q run → has_facts a ≡ true → IsRunOutcome run r.outcome → length r.outcome < 2 ^ 64 → HasFacts tree a q (facts_at (slice_get table q) a)
facts-known tree table a q k n r run at rises here number is has out short =
    let outcome : outcome_in n.runs a ≡ r.outcome = ap (λ (m : ℕ). outcome_in n.runs m) (sym number) ∙ outcome-at n.runs k r rises here in
    let facts : facts_at (slice_get table q) a ≡ facts_of r.outcome = ap (λ (o : Option (Option Node)). facts_at o a) at ∙ ap facts_of outcome in
    subst (HasFacts tree a q) (sym facts) (facts-told tree a q run r.outcome is has out short)
