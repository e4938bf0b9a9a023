-- Where no load of a tree and no lawful run is without an outcome, no accepted package is without the facts of an analyzer.
use Rattle.std.proofs.Common.{◌≡◌, ℕ, zero, suc, ◌<◌, Bool, true, false, Some, List, [], ◌∷◌, length, slice_get, refl, sym, ap, ◌∙◌, subst, arith}
use Rattle.std.proofs.lemmas.Option.{same_Some, slice_get_within}
use Rattle.package_faces.specs.Faces.{Face}
use Rattle.action_graph.specs.declared.kit.LoadInput.{LoadInput}
use Rattle.action_graph.specs.declared.kit.RunInput.{RunInput}
use Rattle.action_graph.specs.Nodes.{Named}
use Rattle.action_graph.specs.Analyzing.{IsRunOutcome}
use Rattle.action_graph.specs.Judging.{Judged, Env, IsLawful, IsOutcome, Tells, accepted_text}
use Rattle.action_graph.specs.Judging.Judged.{Accepts}
use Rattle.action_graph.specs.Work.{IsAnalyzer, has_facts}
use Rattle.gv_driver.specs.declared.tree.PackageTexts.{PackageTexts}
use Rattle.gv_driver.specs.Existence.{AllRunsHaveOutcomes}
use Rattle.gv_driver.specs.Facts.{AreBeside, AreFactsOf, Gives, HasFacts, IsGiven, IsGivenIf}
use Rattle.gv_driver.specs.Loads.{IsLoadOf, IsRunOf}
use Rattle.gv_driver.specs.Trees.{IsTree}
use Rattle.gv_driver.specs.Whole.{IsEnv, Checked}
use Rattle.gv_driver.specs.Whole.Checked.{checked}
use Rattle.gv_driver.proofs.ExistingLoads.{LoadsHaveOutcomes, has-text, is-load, load-with, texts-of}
use Rattle.gv_driver.proofs.FactsTold.{facts-come, run-lawful}
use Rattle.gv_driver.proofs.LawfulLaws.{load-lawful}
use Rattle.gv_driver.proofs.WholeLaws.{judged-of, opened, same_pack, unique}

-- ---- facts beside packages

no-facts : (tree : List PackageTexts) (a : ℕ) → AreFactsOf tree a [] []
no-facts tree a = record {
  beside = record { size = refl; paths = λ k q other x here at there. absurd (let l : k < 0 = slice_get_within [] k q here in omega (arith, l)) };
  facts = λ q text g. absurd (let l : g.0 < 0 = slice_get_within [] g.0 q g.2 in omega (arith, l));
}

module _ (tree : List PackageTexts) (a n : ℕ) (other : PackageTexts) (at : slice_get tree n ≡ Some other) (text : List ℕ) (ns : List ℕ) (given : List Named) (has : HasFacts tree a n text) (are : AreFactsOf tree a ns given) where
  paths-more : (k q : ℕ) (o : PackageTexts) (x : Named) → slice_get (n ∷ ns) k ≡ Some q → slice_get tree q ≡ Some o → slice_get ((other.path, text) ∷ given) k ≡ Some x → x.0 ≡ o.path
  paths-more zero q o x here there found =
      let same : other ≡ o = same_pack tree n other o at (subst (λ (m : ℕ). slice_get tree m ≡ Some o) (sym (same_Some n q here)) there) in
      ap (λ (y : Named). y.0) (sym (same_Some (other.path, text) x found)) ∙ ap (λ (y : PackageTexts). y.path) same
  paths-more (suc k) q o x here there found = are.beside.paths k q o x here there found

  facts-more : (q : ℕ) (t : List ℕ) → Gives (n ∷ ns) ((other.path, text) ∷ given) q t → HasFacts tree a q t
  facts-more q t (zero, x, here, found, e) =
      let same : text ≡ t = ap (λ (y : Named). y.1) (same_Some (other.path, text) x found) ∙ e in
      subst (λ (m : ℕ). HasFacts tree a m t) (same_Some n q here) (subst (HasFacts tree a n) same has)
  facts-more q t (suc k, x, here, found, e) = are.facts q t (k, x, here, found, e)

  one-more : AreFactsOf tree a (n ∷ ns) ((other.path, text) ∷ given)
  one-more = record { beside = record { size = ap suc are.beside.size; paths = paths-more }; facts = facts-more }

facts-of-all : (tree : List PackageTexts) (a : ℕ) (ns : List ℕ) (faces : Env) → length faces ≡ length ns
    → ((k q : ℕ) (f : Face) → slice_get ns k ≡ Some q → slice_get faces k ≡ Some f → (other : PackageTexts) × (slice_get tree q ≡ Some other))
    → ((k q : ℕ) (f : Face) → slice_get ns k ≡ Some q → slice_get faces k ≡ Some f → ((text : List ℕ) → HasFacts tree a q text → ⊥) → ⊥) → ((given : List Named) → AreFactsOf tree a ns given → ⊥) → ⊥
facts-of-all tree a [] [] size at each none = none [] (no-facts tree a)
facts-of-all tree a [] (g ∷ faces) size at each none = absurd (omega (arith, size))
facts-of-all tree a (n ∷ ns) [] size at each none = absurd (omega (arith, size))
facts-of-all tree a (n ∷ ns) (g ∷ faces) size at each none =
    let o = at 0 n g refl refl in
    each 0 n g refl refl (λ text has.
    facts-of-all tree a ns faces (omega (arith, size)) (λ k q f here seen. at (suc k) q f here seen) (λ k q f here seen. each (suc k) q f here seen) (λ given are.
    none ((o.0.path, text) ∷ given) (one-more tree a n o.0 o.1 text ns given has are)))

module _ (tree : List PackageTexts) (outcomes : LoadsHaveOutcomes tree) (run_outcomes : AllRunsHaveOutcomes) (formed : IsTree tree) (a : ℕ) (number : IsAnalyzer a) where
  -- the packages of an environment are of the tree
  env-at : (p : ℕ) (numbers : List ℕ) (env : Env) → IsEnv tree p numbers env → (k q : ℕ) (f : Face) → slice_get numbers k ≡ Some q → slice_get env k ≡ Some f → (other : PackageTexts) × (slice_get tree q ≡ Some other)
  env-at p numbers env is k q f here seen = (let o = opened tree q (Accepts f) (is.good q f (k, here, seen)) in (o.pack, o.at))

  given-if : (b : Bool) (numbers : List ℕ) (given : List Named) → b ≡ true → AreFactsOf tree a numbers given → IsGivenIf b tree a numbers given
  given-if true numbers given e are = are
  given-if false numbers given e are = cc

  -- an accepted package, all of whose environment has facts, has facts itself
  facts-with : has_facts a ≡ true → (p : ℕ) (pack : PackageTexts) (i : Face) (numbers : List ℕ) (env : Env) → slice_get tree p ≡ Some pack → pack.sound ≡ true → IsEnv tree p numbers env → Checked tree p (Accepts i)
      → ((k q : ℕ) (f : Face) → slice_get numbers k ≡ Some q → slice_get env k ≡ Some f → ((text : List ℕ) → HasFacts tree a q text → ⊥) → ⊥) → ((text : List ℕ) → HasFacts tree a p text → ⊥) → ⊥
  unfolding is-load
  facts-with has p pack i numbers env at sound is good facts none =
      texts-of tree numbers env is.around.size (λ k q f here seen. has-text tree outcomes formed q (Accepts f) (is.good q f (k, here, seen)) f refl) (λ pairs are.
      facts-of-all tree a numbers env is.around.size (env-at p numbers env is) facts (λ given told.
      let load : LoadInput = load-with pack pairs in
      let of : IsLoadOf tree p load = is-load tree p pack numbers env pairs at sound is are in
      let lawful : IsLawful load = load-lawful tree p load formed of in
      let run : RunInput = record { analyzer = a; load = load; facts = given } in
      let mine : IsRunOf tree a p run = record { analyzer = refl; of = of; given = given-if (has_facts a) numbers given has told } in
      outcomes p load of lawful (λ text outcome.
      let judged = judged-of tree p load text of outcome in
      let tells : Tells (Accepts i) text = subst (λ (w : Judged). Tells w text) (sym (unique tree p (Accepts i) judged.0 good judged.1)) judged.2 in
      let accepts : IsOutcome load (accepted_text tells.0) = subst (λ (t : List ℕ). IsOutcome load t) tells.2 outcome in
      run_outcomes run tells.0 (run-lawful tree a p run formed lawful number mine) accepts (λ answer out. none out.facts (facts-come tree a p run answer mine has out)))))

  -- an accepted package isn't without facts
  has-facts : has_facts a ≡ true → (p : ℕ) (v : Judged) → Checked tree p v → (i : Face) → v ≡ Accepts i → ((text : List ℕ) → HasFacts tree a p text → ⊥) → ⊥
  has-facts has _ _ (checked p pack numbers env v at sound around good judges) i is =
      facts-with has p pack i numbers env at sound (record { around = around; good = good }) (subst (Checked tree p) is (checked p pack numbers env v at sound around good judges))
      (λ k q f here seen. has-facts has q (Accepts f) (good q f (k, here, seen)) f refl)

  -- and no environment is without what the analyzer is given
  pub gives : (p : ℕ) (numbers : List ℕ) (env : Env) → IsEnv tree p numbers env → ((given : List Named) → IsGiven tree a numbers given → ⊥) → ⊥
  gives p numbers env is none = by (has_facts a) refl
    where
      by : (b : Bool) → has_facts a ≡ b → ⊥
      by true has =
          facts-of-all tree a numbers env is.around.size (env-at p numbers env is) (λ k q f here seen. has-facts has q (Accepts f) (is.good q f (k, here, seen)) f refl)
          (λ given told. none given (given-if (has_facts a) numbers given has told))
      by false has = none [] (subst (λ (b : Bool). IsGivenIf b tree a numbers []) (sym has) refl)
