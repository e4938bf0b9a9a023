-- What is found over a package's environment is found over all packages below it, since findings stay where more is seen.
use Rattle.std.proofs.Common.{◌≡◌, ◌⊎◌, inl, inr, ℕ, Bool, true, false, if◌then◌else◌, Option, Some, List, [], ◌∷◌, ◌++◌, slice_get, refl, sym, ◌∙◌, subst}
use Rattle.std.specs.List.{Contains}
use Rattle.std.specs.Str.{bytes_eq}
use Rattle.std.proofs.lemmas.Option.{same_Some}
use Rattle.std.proofs.lemmas.Slice.Eq.{bytes_eq-Decides}
use Rattle.package_faces.specs.Declaring.{first_named, path_of}
use Rattle.package_faces.specs.Faces.{Face}
use Rattle.export_text.specs.Mentions.{IsMentioned}
use Rattle.action_graph.specs.Judging.{Judged, Env, Judges}
use Rattle.action_graph.specs.Judging.Judged.{Accepts}
use Rattle.gv_driver.specs.declared.tree.PackageTexts.{PackageTexts}
use Rattle.gv_driver.specs.Trees.{Imports, IsTree}
use Rattle.gv_driver.specs.Whole.{Shows, IsNear, IsEnv, Checked}
use Rattle.gv_driver.specs.Whole.IsNear.{imported, mentioned}
use Rattle.gv_driver.specs.Whole.Checked.{checked}
use Rattle.action_graph.specs.Closed.{IsClosed, Knows, Reserved, is_reserved}
use Rattle.action_graph.proofs.StayLaws.{findings_stay}
use Rattle.gv_driver.specs.Below.{Below, Typed}
use Rattle.gv_driver.specs.Below.Below.{directly, through}
use Rattle.gv_driver.specs.Below.Typed.{typed}
use Rattle.gv_driver.proofs.Places.{contains-head, contains-tail, cons-cases, contains-at, nothing-contained}
use Rattle.gv_driver.proofs.FitLaws.{first_cons, first-of}
use Rattle.gv_driver.proofs.WholeLaws.{face-path, one-row, opened, same_pack, same-number, shown, shows-number}
use Rattle.gv_driver.proofs.LawfulLaws.{holds-mention, is-seen, mentions-of, one-face, seen-of}

-- ---- look-ups

first-step : (b : Bool) (g f : Face) (x y : Option Face) → (x ≡ Some f → y ≡ Some f) → (if b then Some g else x) ≡ Some f → (if b then Some g else y) ≡ Some f
first-step true g f x y next h = h
first-step false g f x y next h = next h

found-first : (w v : Env) (path : List ℕ) (f : Face) → Knows w path f → Knows (w ++ v) path f
found-first [] v path f e = cc
found-first (g ∷ w) v path f e =
    first_cons path_of path g (w ++ v) ∙ first-step (bytes_eq g.path path) g f (first_named path_of w path) (first_named path_of (w ++ v) path) (λ h. found-first w v path f h) (sym (first_cons path_of path g w) ∙ e)

in-step : (b : Bool) (g f : Face) (x y z : Option Face) → (x ≡ Some f → (y ≡ Some f) ⊎ (z ≡ Some f)) → (if b then Some g else x) ≡ Some f → ((if b then Some g else y) ≡ Some f) ⊎ (z ≡ Some f)
in-step true g f x y z next h = inl h
in-step false g f x y z next h = next h

either-known : (w v : Env) (path : List ℕ) (f : Face) (g : Face) → ((if bytes_eq g.path path then Some g else first_named path_of w path) ≡ Some f) ⊎ Knows v path f → Knows (g ∷ w) path f ⊎ Knows v path f
either-known w v path f g (inl h) = inl (first_cons path_of path g w ∙ h)
either-known w v path f g (inr h) = inr h

found-in : (w v : Env) (path : List ℕ) (f : Face) → Knows (w ++ v) path f → Knows w path f ⊎ Knows v path f
found-in [] v path f e = inr e
found-in (g ∷ w) v path f e =
    either-known w v path f g (in-step (bytes_eq g.path path) g f (first_named path_of (w ++ v) path) (first_named path_of w path) (first_named path_of v path) (λ h. found-in w v path f h)
    (sym (first_cons path_of path g (w ++ v)) ∙ e))

after-step : (b : Bool) (g : Face) (x : Option Face) → (f : Face) × (x ≡ Some f) → (f : Face) × ((if b then Some g else x) ≡ Some f)
after-step true g x k = (g, refl)
after-step false g x k = k

known-after : (w v : Env) (path : List ℕ) → (f : Face) × Knows v path f → (f : Face) × Knows (w ++ v) path f
known-after [] v path k = k
known-after (g ∷ w) v path k =
    let r = after-step (bytes_eq g.path path) g (first_named path_of (w ++ v) path) (known-after w v path k) in
    (r.0, first_cons path_of path g (w ++ v) ∙ r.1)

-- what is known is one of the list, and of that path
known-in : (w : Env) (path : List ℕ) (f : Face) → Knows w path f → Contains w f × (f.path ≡ path)
known-in [] path f e = cc
known-in (g ∷ w) path f e = by (bytes_eq g.path path) refl (known-in w path f) (sym (first_cons path_of path g w) ∙ e)
  where
    by : (b : Bool) → bytes_eq g.path path ≡ b → (Knows w path f → Contains w f × (f.path ≡ path)) → (if b then Some g else first_named path_of w path) ≡ Some f → Contains (g ∷ w) f × (f.path ≡ path)
    by true same rest h =
        let is : g ≡ f = same_Some g f h in
        subst (λ (x : Face). Contains (g ∷ w) x × (x.path ≡ path)) is (contains-head g w, (bytes_eq-Decides g.path path).0 same)
    by false same rest h = let r = rest h in (contains-tail g f w r.0, r.1)

-- ---- what is below

further : (tree : List PackageTexts) (q r p : ℕ) → Below tree q p → Below tree r q → Below tree r p
further tree q r _ (directly p i) b = through p q i b
further tree q r _ (through p s i b) c = through p s i (further tree q r s b c)

-- a package that is below another, and what is seen of it
record Source (tree : List PackageTexts) (p : ℕ) (path : List ℕ) (f : Face) : Type 0 where
  q : ℕ
  other : PackageTexts
  below : Below tree q p
  at : slice_get tree q ≡ Some other
  path_is : other.path ≡ path
  good : Typed tree q (Accepts f)

abbrev AreSources : List PackageTexts → ℕ → Env → Type 0
AreSources tree p w = (path : List ℕ) (f : Face) → Knows w path f → Source tree p path f

abbrev HasAll : List PackageTexts → ℕ → Env → Type 0
HasAll tree p w = (q : ℕ) (other : PackageTexts) → Below tree q p → slice_get tree q ≡ Some other → (f : Face) × Knows w other.path f

record World (tree : List PackageTexts) (p : ℕ) : Type 0 where
  w : Env
  all : HasAll tree p w
  sources : AreSources tree p w

world-of : (tree : List PackageTexts) (p : ℕ) (v : Judged) → Typed tree p v → World tree p
world-of tree _ _ (typed p pack w v at sound has only from judges) = record {
  w = w;
  all = has;
  sources = λ path f e. (let h = only path f e in
      record { q = h.0; other = h.1; below = h.2; at = h.3; path_is = h.4; good = from h.0 h.1 f h.3 (subst (λ (y : List ℕ). Knows w y f) (sym h.4) e) });
}

-- the worlds of several packages, one behind the other
record Spread (tree : List PackageTexts) (imports : List ℕ) : Type 0 where
  w : Env
  all : (r : ℕ) → Contains imports r → HasAll tree r w
  sources : (path : List ℕ) (f : Face) → Knows w path f → (r : ℕ) × Contains imports r × Source tree r path f

spread : (tree : List PackageTexts) (imports : List ℕ) → ((r : ℕ) → Contains imports r → World tree r) → Spread tree imports
spread tree [] worlds = record { w = []; all = λ r c. absurd (nothing-contained r c); sources = λ path f e. cc }
spread tree (n ∷ imports) worlds =
    let mine = worlds n (contains-head n imports) in
    let more = spread tree imports (λ r c. worlds r (contains-tail n r imports c)) in
    record {
      w = mine.w ++ more.w;
      all = λ r c q other b at. elim (cons-cases n r imports c) [
        | inl e ↦ (let k = mine.all q other (subst (λ (x : ℕ). Below tree q x) (sym e) b) at in (k.0, found-first mine.w more.w other.path k.0 k.1))
        | inr h ↦ known-after mine.w more.w other.path (more.all r h q other b at)
      ];
      sources = λ path f e. elim (found-in mine.w more.w path f e) [
        | inl h ↦ (n, contains-head n imports, mine.sources path f h)
        | inr h ↦ (let s = more.sources path f h in (s.0, contains-tail n s.0 imports s.1, s.2))
      ];
    }

-- ---- the environment of a package is below it

near-below : (tree : List PackageTexts) (p : ℕ) (numbers : List ℕ) (env : Env) (q : ℕ)
    → ((s r : ℕ) (f : Face) (other : PackageTexts) → Shows numbers env s f → IsMentioned f other.path → slice_get tree r ≡ Some other → Below tree r s) → IsNear tree numbers env p q → Below tree q p
near-below tree p numbers env _ next (imported q i) = directly p i
near-below tree p numbers env _ next (mentioned q r f other near shows m at) = further tree q r p (near-below tree p numbers env q next near) (next q r f other shows m at)

-- the packages of p's environment, in the one that a finding has, are below p
abbrev LiesBelow : List PackageTexts → ℕ → Type 0
LiesBelow tree p = (numbers : List ℕ) (env : Env) → IsEnv tree p numbers env → (q : ℕ) → Contains numbers q → Below tree q p

mention-below : (tree : List PackageTexts) → IsTree tree → (s r : ℕ) (f : Face) (other : PackageTexts) → Checked tree s (Accepts f) → LiesBelow tree s → IsMentioned f other.path → slice_get tree r ≡ Some other → Below tree r s
mention-below tree formed s r f other good lies m at =
    let x = mentions-of tree s f other.path good m in
    let same : x.r ≡ r = same-number tree x.r r x.seen.other other formed x.seen.at at (sym x.seen.path_is ∙ x.path_is) in
    let o = opened tree s (Accepts f) good in
    subst (λ (y : ℕ). Below tree y s) same (lies o.numbers o.faces o.are x.r (shows-number o.numbers o.faces x.r x.face (x.inside o.numbers o.faces o.are)))

pub env-below : (tree : List PackageTexts) (p : ℕ) (v : Judged) → IsTree tree → Checked tree p v → LiesBelow tree p
env-below tree _ _ formed (checked p pack n e v at sound around good judges) numbers env is q c =
    near-below tree p n e q
    (λ s r f other shows m there. mention-below tree formed s r f other (good s f shows) (env-below tree s (Accepts f) formed (good s f shows)) m there)
    (around.near q (subst (λ (l : List ℕ). Contains l q) (one-row tree p numbers n env e is (record { around = around; good = good })) c))

-- ---- one package

-- what is below a package is imported by one
imported-below : (tree : List PackageTexts) (q p : ℕ) → Below tree q p → (r : ℕ) × Imports tree r q
imported-below tree q p (directly _ i) = (p, i)
imported-below tree q p (through _ r i b) = imported-below tree q r b

module _ (tree : List PackageTexts) (formed : IsTree tree) where
  module _ (p : ℕ) (pack : PackageTexts) (numbers : List ℕ) (env : Env) (at : slice_get tree p ≡ Some pack) (is : IsEnv tree p numbers env) (lies : (q : ℕ) → Contains numbers q → Below tree q p)
      (each : (q : ℕ) (f : Face) → Shows numbers env q f → Typed tree q (Accepts f)) where
    import-world : (r : ℕ) → Contains pack.imports r → World tree r
    import-world r c =
        let f = shown numbers env r is.around.size (is.around.imports r (pack, at, c)) in
        world-of tree r (Accepts f.0) (each r f.0 f.1)

    others : Spread tree pack.imports
    others = spread tree pack.imports import-world

    own-source : (path : List ℕ) (f : Face) → Knows env path f → Source tree p path f
    own-source path f e =
        let k = known-in env path f e in
        let s = seen-of tree p numbers env f is k.0 in
        record { q = s.0; other = s.2.other; below = lies s.0 (shows-number numbers env s.0 f s.1); at = s.2.at; path_is = sym s.2.path_is ∙ k.1; good = each s.0 f s.1 }

    lifted : (path : List ℕ) (f : Face) (r : ℕ) → Contains pack.imports r → Source tree r path f → Source tree p path f
    lifted path f r c s = record { q = s.q; other = s.other; below = through p r (pack, at, c) s.below; at = s.at; path_is = s.path_is; good = s.good }

    sources : (path : List ℕ) (f : Face) → Knows (env ++ others.w) path f → Source tree p path f
    sources path f e = elim (found-in env others.w path f e) [
      | inl h ↦ own-source path f h
      | inr h ↦ (let s = others.sources path f h in lifted path f s.0 s.1 s.2)
    ]

    same-face : (h : Face) → Contains env h → (g : Face) (r : ℕ) → Shows numbers env r g → h.path ≡ g.path → h ≡ g
    same-face h c g r shows same =
        let s = seen-of tree p numbers env h is c in
        (one-face tree formed s.0 r h g s.2 (is-seen tree r g (is.good r g shows)) same).1

    known-by : (f : Face) (q : ℕ) → Shows numbers env q f → Knows env f.path f
    known-by f q shows = first-of env f (contains-at env shows.0 f shows.2) (λ h c same. same-face h c f q shows same)

    import-known : (q : ℕ) (other : PackageTexts) → Imports tree p q → slice_get tree q ≡ Some other → (f : Face) × Knows env other.path f
    import-known q other i there =
        let f = shown numbers env q is.around.size (is.around.imports q i) in
        let path : f.0.path ≡ other.path = face-path tree q f.0 other (is.good q f.0 f.1) there in
        (f.0, subst (λ (y : List ℕ). Knows env y f.0) path (known-by f.0 q f.1))

    near : (q : ℕ) (other : PackageTexts) → Imports tree p q → slice_get tree q ≡ Some other → (f : Face) × Knows (env ++ others.w) other.path f
    near q other i there =
        let f = import-known q other i there in
        (f.0, found-first env others.w other.path f.0 f.1)

    -- nothing lacks in the environment
    closed : pack.sound ≡ true → IsClosed pack.path pack.files env
    closed sound = record {
      imports = λ of path is_of imports.
          (let a = formed.imports p pack of path at sound is_of imports in
          let f = import-known a.0 a.1 (pack, at, a.2) a.3 in (f.0, subst (λ (y : List ℕ). Knows env y f.0) a.4 f.1));
      mentions = λ f path c mention.
          (let s = seen-of tree p numbers env f is c in
          let m = mentions-of tree s.0 f path s.2.good mention in
          let shows = holds-mention tree formed p numbers env s.0 f path is s.1 mention m in (m.face, subst (λ (y : List ℕ). Knows env y m.face) m.path_is (known-by m.face m.r shows)));
    }

    far : (q r : ℕ) (other : PackageTexts) → Imports tree p r → Below tree q r → slice_get tree q ≡ Some other → (f : Face) × Knows (env ++ others.w) other.path f
    far q r other i b there =
        let c : Contains pack.imports r = subst (λ (x : PackageTexts). Contains x.imports r) (same_pack tree p i.0 pack i.1 at) i.2 in
        known-after env others.w other.path (others.all r c q other b there)

    has : (n q : ℕ) (other : PackageTexts) → n ≡ p → Below tree q n → slice_get tree q ≡ Some other → (f : Face) × Knows (env ++ others.w) other.path f
    has _ q other e (directly n i) there = near q other (subst (λ (x : ℕ). Imports tree x q) e i) there
    has _ q other e (through n r i b) there = far q r other (subst (λ (x : ℕ). Imports tree x r) e i) b there

    from : (q : ℕ) (other : PackageTexts) (f : Face) → slice_get tree q ≡ Some other → Knows (env ++ others.w) other.path f → Typed tree q (Accepts f)
    from q other f there e =
        let s = sources other.path f e in
        let same : s.q ≡ q = same-number tree s.q q s.other other formed s.at there s.path_is in
        subst (λ (x : ℕ). Typed tree x (Accepts f)) same s.good

    -- no path of these is reserved
    reserved : Reserved (env ++ others.w)
    reserved path f none e =
        let s = sources path f e in
        let i = imported-below tree s.q p s.below in
        let other : is_reserved path ≡ false = subst (λ (y : List ℕ). is_reserved y ≡ false) s.path_is (formed.apart i.0 s.q s.other i.1 s.at) in
        absurd cc

    typed-with : (v : Judged) → pack.sound ≡ true → Judges pack.path pack.files env v → Typed tree p v
    typed-with v sound judges =
        typed p pack (env ++ others.w) v at sound (λ q other b there. has p q other refl b there)
        (λ path f e. (let s = sources path f e in (s.q, s.other, s.below, s.at, s.path_is)))
        from (findings_stay pack.path pack.files env (env ++ others.w) v (closed sound) (λ path f e. found-first env others.w path f e) reserved judges)

  -- what is found of a package over its environment is found over all packages below it
  pub typed-of : (p : ℕ) (v : Judged) → Checked tree p v → Typed tree p v
  typed-of _ _ (checked p pack numbers env v at sound around good judges) =
      let is : IsEnv tree p numbers env = record { around = around; good = good } in
      typed-with p pack numbers env at is (env-below tree p v formed (checked p pack numbers env v at sound around good judges) numbers env is) (λ q f shows. typed-of q (Accepts f) (good q f shows)) v sound judges
