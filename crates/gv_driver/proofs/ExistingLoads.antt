-- Where no load of a tree is without an outcome, no package whose imports are accepted is without a load.
use Rattle.std.proofs.Common.{◌≡◌, ℕ, zero, suc, ◌<◌, ◌⊎◌, inl, inr, true, Some, List, [], ◌∷◌, ◌++◌, length, slice_get, refl, sym, ap, subst, arith}
use Rattle.std.specs.List.{Contains}
use Rattle.std.proofs.lemmas.List.Elements.{Contains-append_left, Contains-push, Contains-push_cases}
use Rattle.std.proofs.lemmas.Option.{same_Some, slice_get_within}
use Rattle.package_faces.specs.Faces.{Face}
use Rattle.action_graph.specs.declared.kit.LoadInput.{LoadInput}
use Rattle.action_graph.specs.Nodes.{Named}
use Rattle.action_graph.specs.Judging.{Judged, Env, IsLawful, IsOutcome, IsStuck, IsStuckOver, Tells}
use Rattle.action_graph.specs.Judging.Judged.{Accepts}
use Rattle.gv_driver.specs.declared.tree.PackageTexts.{PackageTexts}
use Rattle.gv_driver.specs.Trees.{IsTree}
use Rattle.gv_driver.specs.Whole.{AreRising, HasStuck, IsEnv, Checked}
use Rattle.gv_driver.specs.Whole.Checked.{checked}
use Rattle.gv_driver.specs.Loads.{AreExports, IsExport, IsLoadOf}
use Rattle.gv_driver.specs.Existence.{AllHaveOutcomes}
use Rattle.gv_driver.proofs.Places.{contains-head, contains-tail, cons-cases, nothing-contained}
use Rattle.gv_driver.proofs.RowLemmas.{less-or-last, rising-push}
use Rattle.gv_driver.proofs.AroundLaws.{IsNearby, reach-low, row-env}
use Rattle.gv_driver.proofs.LawfulLaws.{load-lawful}
use Rattle.gv_driver.proofs.WholeLaws.{env-of, opened, unique, judged-of}

-- what holds or doesn't can't be denied
pub either : {A : Type 0} → ((A ⊎ (A → ⊥)) → ⊥) → ⊥
either k = k (inr (λ a. k (inl a)))

-- ---- the load of a package

-- a package is accepted
abbrev pub IsAccepted : List PackageTexts → ℕ → Type 0
IsAccepted tree q = (i : Face) × Checked tree q (Accepts i)

-- these aren't without export texts
abbrev pub HaveTexts : List PackageTexts → List ℕ → Env → Type 0
HaveTexts tree ns faces = ((pairs : List Named) → AreExports tree ns faces pairs → ⊥) → ⊥

no-texts : (tree : List PackageTexts) → AreExports tree [] [] []
no-texts tree = record { size = refl; each = λ k q f x here seen there. absurd (let l : k < 0 = slice_get_within [] k q here in omega (arith, l)) }

text-more : (tree : List PackageTexts) (n : ℕ) (g : Face) (x : Named) (ns : List ℕ) (faces : Env) (pairs : List Named) → IsExport tree n g x → AreExports tree ns faces pairs → AreExports tree (n ∷ ns) (g ∷ faces) (x ∷ pairs)
text-more tree n g x ns faces pairs one more = record { size = ap suc more.size; each = λ k q f y here seen there. at k q f y here seen there }
  where
    at : (k q : ℕ) (f : Face) (y : Named) → slice_get (n ∷ ns) k ≡ Some q → slice_get (g ∷ faces) k ≡ Some f → slice_get (x ∷ pairs) k ≡ Some y → IsExport tree q f y
    at zero q f y here seen there =
        subst (λ (m : ℕ). IsExport tree m f y) (same_Some n q here) (subst (λ (h : Face). IsExport tree n h y) (same_Some g f seen) (subst (IsExport tree n g) (same_Some x y there) one))
    at (suc k) q f y here seen there = more.each k q f y here seen there

pub texts-of : (tree : List PackageTexts) (ns : List ℕ) (faces : Env) → length faces ≡ length ns
    → ((k q : ℕ) (f : Face) → slice_get ns k ≡ Some q → slice_get faces k ≡ Some f → ((x : Named) → IsExport tree q f x → ⊥) → ⊥) → HaveTexts tree ns faces
texts-of tree [] [] size each none = none [] (no-texts tree)
texts-of tree [] (g ∷ faces) size each none = absurd (omega (arith, size))
texts-of tree (n ∷ ns) [] size each none = absurd (omega (arith, size))
texts-of tree (n ∷ ns) (g ∷ faces) size each none =
    each 0 n g refl refl (λ x one. texts-of tree ns faces (omega (arith, size)) (λ k q f at seen. each (suc k) q f at seen) (λ pairs more. none (x ∷ pairs) (text-more tree n g x ns faces pairs one more)))

-- the numbers below one that have a property aren't without a row
filtered : (P : ℕ → Type 0) (n : ℕ) → ((row : List ℕ) → AreRising row → ((q : ℕ) → Contains row q → (q < n) × P q) → ((q : ℕ) → q < n → P q → Contains row q) → ⊥) → ⊥
filtered P zero k = k [] (λ i j q r less at there. cc) (λ q c. absurd (nothing-contained q c)) (λ q low has. absurd (omega (arith, low)))
filtered P (suc n) k = filtered P n (λ row rising from to. either (λ (cases : P n ⊎ (P n → ⊥)). elim cases [
  | inl has ↦ k (row ++ n ∷ []) (rising-push row n rising (λ q c. (from q c).0)) (λ q c. elim (Contains-push_cases row n q c) [
    | inl was ↦ (let low = (from q was).0 in omega (arith, low), (from q was).1)
    | inr e ↦ (omega (arith, e), subst P e has)
  ]) (λ q low mine. elim (less-or-last q n low) [
    | inl l ↦ Contains-append_left row (n ∷ []) q (to q l mine)
    | inr e ↦ subst (λ (m : ℕ). Contains (row ++ n ∷ []) m) (sym e) (Contains-push row n)
  ])
  | inr never ↦ k row rising (λ q c. (let low = (from q c).0 in omega (arith, low), (from q c).1)) (λ q low mine. elim (less-or-last q n low) [
    | inl l ↦ to q l mine
    | inr e ↦ absurd (never (subst P e mine))
  ])
]))

abbrev pub load-with : PackageTexts → List Named → LoadInput
load-with pack pairs = record { path = pack.path; files = pack.files; env = pairs }

unfoldable pub is-load : (tree : List PackageTexts) (p : ℕ) (pack : PackageTexts) (numbers : List ℕ) (faces : Env) (pairs : List Named) → slice_get tree p ≡ Some pack → pack.sound ≡ true → IsEnv tree p numbers faces
    → AreExports tree numbers faces pairs → IsLoadOf tree p (load-with pack pairs)
is-load tree p pack numbers faces pairs at sound are texts = record { pack = pack; at = at; sound = sound; path = refl; files = refl; numbers = numbers; faces = faces; are = are; env = texts }

-- ---- the loads of a tree

-- no load of the tree is without an outcome
abbrev pub LoadsHaveOutcomes : List PackageTexts → Type 0
LoadsHaveOutcomes tree = (p : ℕ) (load : LoadInput) → IsLoadOf tree p load → IsLawful load → ((text : List ℕ) → IsOutcome load text → ⊥) → ⊥

stuck-in : (tree : List PackageTexts) (p : ℕ) (load : LoadInput) → IsLoadOf tree p load → IsStuck load → HasStuck tree
stuck-in tree p load of is =
    let over : IsStuckOver of.pack.path of.pack.files is.env =
    subst (λ (l : List Named). IsStuckOver of.pack.path l is.env) of.files
    (subst (λ (l : List ℕ). IsStuckOver l load.files is.env) of.path is.stuck) in
    (p, record { pack = of.pack; env = is.env; at = of.at; sound = of.sound; faces = env-of tree p load is.env of is.faces; stuck = over })

-- where none of its packages is stuck
pub loads-have : AllHaveOutcomes → (tree : List PackageTexts) → (HasStuck tree → ⊥) → LoadsHaveOutcomes tree
loads-have all tree goes p load of lawful none = all load lawful (λ is. goes (stuck-in tree p load of is)) none

module _ (tree : List PackageTexts) (outcomes : LoadsHaveOutcomes tree) (formed : IsTree tree) where
  pub told-text : (p : ℕ) (pack : PackageTexts) (i : Face) (v : Judged) (text : List ℕ) → slice_get tree p ≡ Some pack → Accepts i ≡ v → Tells v text → (x : Named) × IsExport tree p i x
  told-text p pack i v text at same told =
      let export = subst (λ (w : Judged). Tells w text) (sym same) told in
      ((pack.path, export.0), record { other = pack; at = at; path = refl; spelled = export.1 })

  abbrev pub HasText : ℕ → Face → Type 0
  HasText q f = ((x : Named) → IsExport tree q f x → ⊥) → ⊥

  text-with : (p : ℕ) (pack : PackageTexts) (i : Face) (numbers : List ℕ) (faces : Env) → slice_get tree p ≡ Some pack → pack.sound ≡ true → IsEnv tree p numbers faces → Checked tree p (Accepts i)
      → ((k q : ℕ) (f : Face) → slice_get numbers k ≡ Some q → slice_get faces k ≡ Some f → HasText q f) → HasText p i
  text-with p pack i numbers faces at sound is good texts none =
      texts-of tree numbers faces is.around.size texts (λ pairs are.
      let of = is-load tree p pack numbers faces pairs at sound is are in
      outcomes p (load-with pack pairs) of (load-lawful tree p (load-with pack pairs) formed of) (λ text outcome.
      let judged = judged-of tree p (load-with pack pairs) text of outcome in
      let x = told-text p pack i judged.0 text at (unique tree p (Accepts i) judged.0 good judged.1) judged.2 in
      none x.0 x.1))

  -- an accepted package isn't without an export text
  pub has-text : (p : ℕ) (v : Judged) → Checked tree p v → (i : Face) → v ≡ Accepts i → HasText p i
  has-text _ _ (checked p pack numbers env v at sound around good judges) i is =
      text-with p pack i numbers env at sound (record { around = around; good = good }) (subst (Checked tree p) is (checked p pack numbers env v at sound around good judges))
      (λ k q f here seen. has-text q (Accepts f) (good q f (k, here, seen)) f refl)

  abbrev pub AreAccepted : List ℕ → Type 0
  AreAccepted ns = (q : ℕ) → Contains ns q → IsAccepted tree q

  abbrev pub HasBlocked : List ℕ → Type 0
  HasBlocked ns = (q : ℕ) × Contains ns q × ((i : Face) → Checked tree q (Accepts i) → ⊥)

  -- one of them isn't accepted, or all of them are
  pub blocked-or : (ns : List ℕ) → ((HasBlocked ns ⊎ AreAccepted ns) → ⊥) → ⊥
  blocked-or [] k = k (inr (λ q c. absurd (nothing-contained q c)))
  blocked-or (n ∷ ns) k = blocked-or ns (λ (cases : HasBlocked ns ⊎ AreAccepted ns). elim cases [
    | inl b ↦ k (inl (b.0, contains-tail n b.0 ns b.1, b.2))
    | inr all ↦ either (λ (known : IsAccepted tree n ⊎ (IsAccepted tree n → ⊥)). elim known [
      | inl good ↦ k (inr (λ q c. elim (cons-cases n q ns c) [
        | inl e ↦ subst (IsAccepted tree) e good
        | inr there ↦ all q there
      ]))
      | inr never ↦ k (inl (n, contains-head n ns, λ i c. never (i, c)))
    ])
  ])

  near-low : (imports : List ℕ) (q : ℕ) → IsNearby tree imports q → q < length tree
  near-low imports q n = elim n.4 [
    | inl e ↦ (let o = opened tree n.0 (Accepts n.1) n.3 in subst (λ (m : ℕ). m < length tree) e (slice_get_within tree n.0 o.pack o.at))
    | inr r ↦ reach-low tree q n.1 r
  ]

  -- a package whose imports are accepted isn't without a load
  pub loads : (p : ℕ) (pack : PackageTexts) → slice_get tree p ≡ Some pack → pack.sound ≡ true → AreAccepted pack.imports → ((load : LoadInput) → IsLoadOf tree p load → ⊥) → ⊥
  loads p pack at sound good none =
      filtered (IsNearby tree pack.imports) (length tree) (λ row rising from to.
      let env = row-env tree formed p pack at good row rising (λ q c. (from q c).1) (λ q n. to q (near-low pack.imports q n) n) in
      texts-of tree row env.0 env.1.around.size (λ k q f here seen. has-text q (Accepts f) (env.1.good q f (k, here, seen)) f refl) (λ pairs are.
      none (load-with pack pairs) (is-load tree p pack row env.0 pairs at sound env.1 are)))
