-- Package by package, each over what is told of those of its environment: the facts of a package tell its functions in the least set of the tree.
use Rattle.std.proofs.Common.{◌≡◌, ℕ, Bool, true, List, Option, Some, None, is_some, slice_get, refl, sym, ◌∙◌, subst}
use Rattle.std.specs.List.{Contains}
use Rattle.handed_facts.specs.Handed.{Named}
use Rattle.least.specs.Tables.{Member}
use Rattle.known_callees.proofs.FunctionNames.{mapped_there, place_there}
use Rattle.go_tree.specs.Lexeme.{place_of}
use Rattle.typed_marks.specs.declared.item.Item.{Item}
use Rattle.typed_marks.specs.Meanings.{Meaning}
use Rattle.unit_read.specs.Imports.{paths_of}
use Rattle.unit_read.specs.Units.{Unit}
use Rattle.package_faces.specs.Faces.{Face}
use Rattle.package_faces.specs.Declaring.{path_of}
use Rattle.gv_driver.specs.Suite.{FactsBy}
use Rattle.gv_driver.specs.Packages.{Package}
use Rattle.gv_driver.specs.Analyzing.{Analyzes, IsAnalyzed}
use Rattle.gv_driver.specs.Judging.{Env, IsPackageOf}
use Rattle.gv_driver.specs.Judging.Judged.{Accepts}
use Rattle.gv_driver.specs.declared.tree.PackageTexts.{PackageTexts}
use Rattle.gv_driver.specs.Facts.{AreBeside, Gives, HasFacts}
use Rattle.gv_driver.specs.Facts.HasFacts.{facts_over}
use Rattle.gv_driver.specs.Trees.{IsTree}
use Rattle.gv_driver.specs.Whole.{Checked, IsEnv}
use Rattle.gv_driver.proofs.Places.{contains-at}
use Rattle.gv_driver.proofs.WholeLaws.{face-path, no-circle, opened, same-number, same_pack}
use Rattle.known_callees.specs.Telling.{TellsLeast}
use Rattle.known_callees.proofs.ToldLemmas.{AreGivenApart, AreGivenBeside, TellEach}
use Rattle.known_callees.proofs.Words.{element}
use Rattle.tree_facts.specs.Accepted.{IsAccepted}
use Rattle.tree_facts.proofs.UnitLemmas.{unit_path}

-- ---- the environment of a package

module _ (tree : List PackageTexts) (formed : IsTree tree) (p : ℕ) (pack : PackageTexts) (numbers : List ℕ) (env : Env) (given : List Named) (at : slice_get tree p ≡ Some pack) (is : IsEnv tree p numbers env)
    (beside : AreBeside tree numbers given) where
  -- the package of a text that is given
  record IsOther (k : ℕ) (x : Named) : Type 0 where
    pub q : ℕ
    pub face : Face
    pub other : PackageTexts
    pub number : slice_get numbers k ≡ Some q
    pub seen : slice_get env k ≡ Some face
    pub there : slice_get tree q ≡ Some other
    pub good : Checked tree q (Accepts face)
    pub path : x.0 ≡ other.path

  other_at : (k : ℕ) (x : Named) → slice_get given k ≡ Some x → IsOther k x
  other_at k x e =
      let (q, number) = element numbers given k x (sym beside.size) e in
      let (f, seen) = element env numbers k q is.around.size number in
      let good : Checked tree q (Accepts f) = is.good q f (k, number, seen) in
      let o = opened tree q (Accepts f) good in
      record { q = q; face = f; other = o.pack; number = number; seen = seen; there = o.at; good = good; path = beside.paths k q o.pack x number o.at e }

  -- none is the package's own
  none_own : (face : Face) → Checked tree p (Accepts face) → (k : ℕ) (x : Named) → slice_get given k ≡ Some x → x.0 ≡ pack.path → ⊥
  none_own face good k x e same =
      let o = other_at k x e in
      let one : o.q ≡ p = same-number tree o.q p o.other pack formed o.there at (sym o.path ∙ same) in
      no-circle tree p (Accepts face) good numbers env is (subst (λ (q : ℕ). Contains numbers q) one (contains-at numbers k o.q o.number))

  -- the package of each path that is seen is among them
  given_at : (u : Unit) → u.env ≡ env → AreGivenBeside u given
  given_at u same q near = by (place_of (paths_of u.env) q) refl near where
    by : (o : Option ℕ) → place_of (paths_of u.env) q ≡ o → is_some o ≡ true → (k : ℕ) × (x : Named) × (slice_get given k ≡ Some x) × (x.0 ≡ q)
    by None e none = absurd (cc)
    by (Some k) e some =
        let (f, seen, path) = mapped_there path_of u.env k q (place_there (paths_of u.env) q k e) in
        let at_env : slice_get env k ≡ Some f = subst (λ (l : Env). slice_get l k ≡ Some f) same seen in
        let (n, number) = element numbers env k f (sym is.around.size) at_env in
        let (x, there) = element given numbers k n beside.size number in
        let good : Checked tree n (Accepts f) = is.good n f (k, number, at_env) in
        let o = opened tree n (Accepts f) good in
        (k, x, there, beside.paths k n o.pack x number o.at there ∙ (sym (face-path tree n f o.pack good o.at) ∙ path))

-- ---- the tree

-- the facts that an analyzer has of an accepted package, over texts that tell the least sets of those of its environment, tell the package's
abbrev pub Steps : {F : Type 0} → (F → List ℕ) → (F → List ℕ) → ((Member → Bool) → Member → Type 0) → ℕ → List PackageTexts → Type 0
Steps spelling kinds whole analyzer tree = (p : ℕ) (u : Unit) (marks : Item → Meaning) → IsAccepted tree p u marks → (given : List Named) → TellEach spelling kinds whole given → AreGivenBeside u given → AreGivenApart u given
    → (text : List ℕ) → FactsBy analyzer u marks given text → TellsLeast spelling kinds whole u.path text

module _ {F : Type 0} (spelling kinds : F → List ℕ) (whole : (Member → Bool) → Member → Type 0) (analyzer : ℕ) (tree : List PackageTexts) (formed : IsTree tree) (step : Steps spelling kinds whole analyzer tree) where
  module _ (p : ℕ) (pack : PackageTexts) (numbers : List ℕ) (env : Env) (given : List Named) (at : slice_get tree p ≡ Some pack) (is : IsEnv tree p numbers env) (beside : AreBeside tree numbers given) (face : Face)
      (good : Checked tree p (Accepts face)) (findings facts : List ℕ) (below : TellEach spelling kinds whole given) where
    tells_analyzed : (of : Package) → IsPackageOf pack.path pack.files of → IsAnalyzed analyzer of env given findings facts → TellsLeast spelling kinds whole pack.path facts
    tells_analyzed of is_of analyzed =
        let u : Unit = analyzed.comes.unit in
        let here : IsAccepted tree p u analyzed.marks =
        record { pack = pack; at = at; face = face; accepted = good; env = env; faces = (numbers, is); of = of; is_of = is_of; is_unit = analyzed.comes.is; annotated = analyzed.annotated } in
        let path : u.path ≡ pack.path = unit_path tree p u analyzed.marks here in
        subst (λ (l : List ℕ). TellsLeast spelling kinds whole l facts) path
        (step p u analyzed.marks here given below (given_at tree formed p pack numbers env given at is beside u analyzed.comes.is.env)
        (λ k x e same. none_own tree formed p pack numbers env given at is beside face good k x e (same ∙ path)) facts analyzed.facts_are)

    tells_over : Analyzes analyzer pack.path pack.files env given findings facts → TellsLeast spelling kinds whole pack.path facts
    unfolding Analyzes
    tells_over (of, (is_of, analyzed)) = tells_analyzed of is_of analyzed

  abbrev pub Tells : ℕ → List ℕ → Type 0
  Tells p text = (pack : PackageTexts) (face : Face) → slice_get tree p ≡ Some pack → Checked tree p (Accepts face) → TellsLeast spelling kinds whole pack.path text

  tells_with : (p : ℕ) (pack : PackageTexts) (numbers : List ℕ) (env : Env) (given : List Named) (findings facts : List ℕ) → slice_get tree p ≡ Some pack → IsEnv tree p numbers env → AreBeside tree numbers given
      → ((q : ℕ) (text : List ℕ) → Gives numbers given q text → Tells q text) → Analyzes analyzer pack.path pack.files env given findings facts → Tells p facts
  tells_with p pack numbers env given findings facts at is beside has analyzes other face there good =
      subst (λ (x : PackageTexts). TellsLeast spelling kinds whole x.path facts) (same_pack tree p pack other at there)
      (tells_over p pack numbers env given at is beside face good findings facts below analyzes)
    where
      below : TellEach spelling kinds whole given
      below k x e =
          let o = other_at tree formed p pack numbers env given at is beside k x e in
          subst (λ (l : List ℕ). TellsLeast spelling kinds whole l x.1) (sym o.path) (has o.q x.1 (k, x, o.number, e, refl) o.other o.face o.there o.good)

  pub tells : (p : ℕ) (text : List ℕ) → HasFacts tree analyzer p text → Tells p text
  tells _ _ (facts_over p pack numbers env given findings facts at is beside has analyzes) =
      tells_with p pack numbers env given findings facts at is beside (λ q text g. tells q text (has q text g)) analyzes
