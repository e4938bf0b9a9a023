-- The imports of a package and what is reached from them are its environment, where all imports are accepted.
use Rattle.std.proofs.Common.{◌≡◌, ◌⊎◌, inl, inr, ℕ, ◌<◌, Some, List, length, slice_get, refl, sym, ap, ◌∙◌, subst}
use Rattle.std.specs.List.{Contains}
use Rattle.std.proofs.lemmas.Option.{slice_get_within}
use Rattle.export_text.specs.Mentions.{IsMentioned}
use Rattle.package_faces.specs.Faces.{Face}
use Rattle.action_graph.specs.Judging.{Env}
use Rattle.action_graph.specs.Judging.Judged.{Accepts}
use Rattle.gv_driver.specs.declared.tree.PackageTexts.{PackageTexts}
use Rattle.gv_driver.specs.Trees.{Imports, IsTree}
use Rattle.gv_driver.specs.Whole.{AreRising, Shows, IsNear, IsEnv, Checked, Reaches}
use Rattle.gv_driver.specs.Whole.IsNear.{imported, mentioned}
use Rattle.gv_driver.specs.Whole.Reaches.{at_once, onward}
use Rattle.gv_driver.proofs.Places.{contains-at}
use Rattle.gv_driver.proofs.InputLaws.{choose}
use Rattle.gv_driver.proofs.WholeLaws.{same_pack, same-number, shown, shows-number, unique-face}
use Rattle.gv_driver.proofs.LawfulLaws.{mentions-of}

-- what a package that is reached mentions is reached
reach-on : (tree : List PackageTexts) (q r : ℕ) (g : Face) (other : PackageTexts) (f : Face) → Checked tree q (Accepts g) → IsMentioned g other.path → slice_get tree r ≡ Some other → Reaches tree q f → Reaches tree r f
reach-on tree q r g other _ good m at (at_once f x m2 at2) = onward f q x g m2 at2 good (at_once g other m at)
reach-on tree q r g other _ good m at (onward f s x h m2 at2 good2 more) = onward f s x h m2 at2 good2 (reach-on tree q r g other h good m at more)

pub reach-low : (tree : List PackageTexts) (r : ℕ) (f : Face) → Reaches tree r f → r < length tree
reach-low tree r _ (at_once f other m at) = slice_get_within tree r other at
reach-low tree r _ (onward f s other g m at good more) = reach-low tree r g more

-- what a package mentions is accepted
pub mention-good : (tree : List PackageTexts) → IsTree tree → (s r : ℕ) (f : Face) (other : PackageTexts) → Checked tree s (Accepts f) → IsMentioned f other.path → slice_get tree r ≡ Some other → (g : Face) × Checked tree r (Accepts g)
mention-good tree formed s r f other good m at =
    let x = mentions-of tree s f other.path good m in
    let same : x.r ≡ r = same-number tree x.r r x.seen.other other formed x.seen.at at (sym x.seen.path_is ∙ x.path_is) in
    (x.face, subst (λ (n : ℕ). Checked tree n (Accepts x.face)) same x.seen.good)

-- and so is what is reached
pub reach-good : (tree : List PackageTexts) → IsTree tree → (r s : ℕ) (f : Face) → Checked tree s (Accepts f) → Reaches tree r f → (g : Face) × Checked tree r (Accepts g)
reach-good tree formed r s _ good (at_once f other m at) = mention-good tree formed s r f other good m at
reach-good tree formed r s _ good (onward f t other g m at ok more) = reach-good tree formed r t g ok more

-- an import, or what is reached from one
abbrev pub IsNearby : List PackageTexts → List ℕ → ℕ → Type 0
IsNearby tree imports q = (s : ℕ) × (f : Face) × Contains imports s × Checked tree s (Accepts f) × ((s ≡ q) ⊎ Reaches tree q f)

module _ (tree : List PackageTexts) (formed : IsTree tree) (p : ℕ) (pack : PackageTexts) (at : slice_get tree p ≡ Some pack) (good : (q : ℕ) → Contains pack.imports q → (f : Face) × Checked tree q (Accepts f))
    (row : List ℕ) (rising : AreRising row) (from : (q : ℕ) → Contains row q → IsNearby tree pack.imports q) (to : (q : ℕ) → IsNearby tree pack.imports q → Contains row q) where
  face-of : (k q : ℕ) → slice_get row k ≡ Some q → (f : Face) × Checked tree q (Accepts f)
  face-of k q here =
      let n = from q (contains-at row k q here) in
      elim n.4 [
        | inl e ↦ (n.1, subst (λ (x : ℕ). Checked tree x (Accepts n.1)) e n.3)
        | inr r ↦ reach-good tree formed q n.0 n.1 n.3 r
      ]

  record HasFaces : Type 0 where
    faces : Env
    size : length faces ≡ length row
    each : (q : ℕ) (f : Face) → Shows row faces q f → Checked tree q (Accepts f)

  have-faces : HasFaces
  have-faces =
      let c = choose (λ k q f. Checked tree q (Accepts f)) row face-of in
      record { faces = c.0; size = c.1; each = λ q f shows. c.2 shows.0 q f shows.1 shows.2 }

  import-in : (q : ℕ) → Contains pack.imports q → Contains row q
  import-in q c = let f = good q c in to q (q, f.0, c, f.1, inl refl)

  module _ (h : HasFaces) where
    -- a package that is mentioned by one of the row is in the row
    closed : (q r : ℕ) (f : Face) (other : PackageTexts) → Shows row h.faces q f → IsMentioned f other.path → slice_get tree r ≡ Some other → Contains row r
    closed q r f other shows m there =
        let n = from q (shows-number row h.faces q f shows) in
        let reached : Reaches tree r n.1 = elim n.4 [
          | inl e ↦
              let mine : Checked tree q (Accepts n.1) = subst (λ (x : ℕ). Checked tree x (Accepts n.1)) e n.3 in
              let same : f ≡ n.1 = unique-face tree q f n.1 (h.each q f shows) mine in
              at_once n.1 other (subst (λ (x : Face). IsMentioned x other.path) same m) there
          | inr more ↦ reach-on tree q r f other n.1 (h.each q f shows) m there more
        ] in
        to r (n.0, n.1, n.2, n.3, inr reached)

    -- what is reached from a near package is near
    near-on : (r s : ℕ) (f : Face) → IsNear tree row h.faces p s → Shows row h.faces s f → Reaches tree r f → IsNear tree row h.faces p r
    near-on r s _ near shows (at_once f other m there) = mentioned s r f other near shows m there
    near-on r s _ near shows (onward f t other g m there ok more) =
        let next = mentioned s t f other near shows m there in
        let x = shown row h.faces t h.size (closed s t f other shows m there) in
        let same : x.0 ≡ g = unique-face tree t x.0 g (h.each t x.0 x.1) ok in
        near-on r t g next (subst (λ (y : Face). Shows row h.faces t y) same x.1) more

    near-of : (q : ℕ) → Contains row q → IsNear tree row h.faces p q
    near-of q c =
        let n = from q c in
        let here : IsNear tree row h.faces p n.0 = imported n.0 (pack, at, n.2) in
        elim n.4 [
          | inl e ↦ subst (λ (x : ℕ). IsNear tree row h.faces p x) e here
          | inr more ↦
              let f = shown row h.faces n.0 h.size (import-in n.0 n.2) in
              let same : n.1 ≡ f.0 = unique-face tree n.0 n.1 f.0 n.3 (h.each n.0 f.0 f.1) in
              near-on q n.0 f.0 here f.1 (subst (λ (x : Face). Reaches tree q x) same more)
        ]

    env-of-row : IsEnv tree p row h.faces
    env-of-row = record {
      around = record {
        size = h.size;
        near = λ q c. near-of q c;
        imports = λ q i. import-in q (subst (λ (x : PackageTexts). Contains x.imports q) (same_pack tree p i.0 pack i.1 at) i.2);
        mentions = λ q r f other shows m there. closed q r f other shows m there;
        rising = rising;
      };
      good = h.each;
    }

  pub row-env : (faces : Env) × IsEnv tree p row faces
  row-env = (have-faces.faces, env-of-row have-faces)
