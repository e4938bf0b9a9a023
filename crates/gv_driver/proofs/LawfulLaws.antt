-- The input of a load is lawful.
use Rattle.std.proofs.Common.{◌≡◌, inl, inr, ℕ, ◌<◌, true, Some, List, [], ◌∷◌, length, slice_get, refl, sym, ap, ◌∙◌, subst, arith}
use Rattle.std.specs.List.{Contains}
use Rattle.std.proofs.lemmas.Option.{slice_get_within}
use Rattle.gv_base.specs.Files.{is_before}
use Rattle.export_text.specs.Faces.{IsFaceText}
use Rattle.export_text.specs.Mentions.{IsMentioned}
use Rattle.face_table.specs.Fitting.{AreFit}
use Rattle.package_faces.specs.Faces.{Face}
use Rattle.action_graph.specs.declared.kit.LoadInput.{LoadInput}
use Rattle.action_graph.specs.Nodes.{Named}
use Rattle.action_graph.specs.Judging.{Env, ImportsPath, IsLawful}
use Rattle.action_graph.specs.Judging.Judged.{Accepts}
use Rattle.gv_driver.specs.declared.tree.PackageTexts.{PackageTexts}
use Rattle.gv_driver.specs.Trees.{IsTree}
use Rattle.gv_driver.specs.Whole.{Shows, IsEnv, Checked}
use Rattle.gv_driver.specs.Loads.{IsExport, IsLoadOf}
use Rattle.gv_driver.proofs.Places.{at-contained, contains-at, contains-tail, element}
use Rattle.action_graph.proofs.MeetLaws.{type-cases}
use Rattle.gv_driver.proofs.FitLaws.{accepted-fit, placed-face, Nest, are-fit}
use Rattle.gv_driver.proofs.WholeLaws.{are-read, face-path, no-circle, one-env, one-row, Opened, opened, same-number, same_pack, shown, unique-face}

-- what is seen of a package of a tree
pub record IsSeen (tree : List PackageTexts) (q : ℕ) (f : Face) : Type 0 where
  pub other : PackageTexts
  pub at : slice_get tree q ≡ Some other
  pub good : Checked tree q (Accepts f)
  pub path_is : f.path ≡ other.path

pub is-seen : (tree : List PackageTexts) (q : ℕ) (f : Face) → Checked tree q (Accepts f) → IsSeen tree q f
is-seen tree q f good =
    let o = opened tree q (Accepts f) good in
    record { other = o.pack; at = o.at; good = good; path_is = face-path tree q f o.pack good o.at }

-- of an environment, what a face of it stands for
pub seen-of : (tree : List PackageTexts) (p : ℕ) (numbers : List ℕ) (env : Env) (f : Face) → IsEnv tree p numbers env → Contains env f → (q : ℕ) × Shows numbers env q f × IsSeen tree q f
seen-of tree p numbers env f is c =
    let low : c.0 < length env = c.1 in
    let size : length env ≡ length numbers = is.around.size in
    let q = element numbers c.0 (omega (arith, low, size)) in
    let shows : Shows numbers env q.0 f = (c.0, q.1, at-contained env f c) in
    (q.0, shows, is-seen tree q.0 f (is.good q.0 f shows))

-- what a face of the tree mentions is a package of the tree, accepted, and one of the face's own environment
pub record Mentioned (tree : List PackageTexts) (q : ℕ) (path : List ℕ) : Type 0 where
  pub r : ℕ
  pub face : Face
  pub seen : IsSeen tree r face
  pub path_is : face.path ≡ path
  pub inside : (numbers : List ℕ) (env : Env) → IsEnv tree q numbers env → Shows numbers env r face

pub mentions-of : (tree : List PackageTexts) (q : ℕ) (f : Face) (path : List ℕ) → Checked tree q (Accepts f) → IsMentioned f path → Mentioned tree q path
mentions-of tree q f path good mention =
    let o = opened tree q (Accepts f) good in
    let fit = accepted-fit o.pack.path o.pack.files o.faces f o.judges in
    let g = placed-face o.faces path (fit.known path mention) in
    let s = seen-of tree q o.numbers o.faces g.0 o.are g.1 in
    record {
      r = s.0;
      face = g.0;
      seen = s.2;
      path_is = g.2;
      inside = λ numbers env is.
          subst (λ (e : Env). Shows numbers e s.0 g.0) (one-env tree q o.numbers numbers o.faces env o.are is)
          (subst (λ (l : List ℕ). Shows l o.faces s.0 g.0) (one-row tree q o.numbers numbers o.faces env o.are is) s.1);
    }

module _ (tree : List PackageTexts) (formed : IsTree tree) where
  -- faces of one path are one
  pub one-face : (q r : ℕ) (f g : Face) → IsSeen tree q f → IsSeen tree r g → f.path ≡ g.path → (q ≡ r) × (f ≡ g)
  one-face q r f g a b e =
      let same : q ≡ r = same-number tree q r a.other b.other formed a.at b.at (sym a.path_is ∙ (e ∙ b.path_is)) in
      (same, unique-face tree r f g (subst (λ (n : ℕ). Checked tree n (Accepts f)) same a.good) b.good)

  -- what a package of an environment mentions is in the environment
  pub holds-mention : (p : ℕ) (numbers : List ℕ) (env : Env) (q : ℕ) (f : Face) (path : List ℕ) → IsEnv tree p numbers env → Shows numbers env q f → IsMentioned f path
      → (m : Mentioned tree q path) → Shows numbers env m.r m.face
  holds-mention p numbers env q f path is shows mention m =
      let at_path : m.seen.other.path ≡ path = sym m.seen.path_is ∙ m.path_is in
      let c = is.around.mentions q m.r f m.seen.other shows (subst (λ (y : List ℕ). IsMentioned f y) (sym at_path) mention) m.seen.at in
      let h = shown numbers env m.r is.around.size c in
      let same : h.0 ≡ m.face = unique-face tree m.r h.0 m.face (is.good m.r h.0 h.1) m.seen.good in
      subst (λ (x : Face). Shows numbers env m.r x) same h.1

  shows-face : (numbers : List ℕ) (env : Env) (q : ℕ) (f : Face) → Shows numbers env q f → Contains env f
  shows-face numbers env q f (k, at, there) = contains-at env k f there

  has-path : (q : ℕ) (f : Face) → IsSeen tree q f → f.path ≡ [] → ⊥
  has-path q f seen none =
      let o = opened tree q (Accepts f) seen.good in
      (formed.source q o.pack o.at o.sound).has_path (ap (λ (x : PackageTexts). x.path) (same_pack tree q o.pack seen.other o.at seen.at) ∙ (sym seen.path_is ∙ none))

  module _ (p : ℕ) (pack : PackageTexts) (numbers : List ℕ) (faces : Env) (at : slice_get tree p ≡ Some pack) (is : IsEnv tree p numbers faces) where
    -- no package of the environment is the package itself
    pub other-path : (q : ℕ) (f : Face) → Shows numbers faces q f → pack.path ≡ f.path → ⊥
    other-path q f shows e =
        let seen = is-seen tree q f (is.good q f shows) in
        let same : p ≡ q = same-number tree p q pack seen.other formed at seen.at (e ∙ seen.path_is) in
        let good : Checked tree p (Accepts f) = subst (λ (n : ℕ). Checked tree n (Accepts f)) (sym same) seen.good in
        no-circle tree p (Accepts f) good numbers faces is (contains-at numbers shows.0 p (subst (λ (n : ℕ). slice_get numbers shows.0 ≡ Some n) (sym same) shows.1))

    -- one face with its own environment
    nest-of : (q : ℕ) (f : Face) (o : Opened tree q (Accepts f)) → Shows numbers faces q f → Nest pack.path (f ∷ o.faces) faces
    nest-of q f o shows = record {
      path_small = λ g c. (let s = in-small g c in has-path s.0 g s.1);
      path_big = λ g c. (let s = seen-of tree p numbers faces g is c in has-path s.0 g s.2);
      other = λ g c. (let s = seen-of tree p numbers faces g is c in other-path s.0 g s.1);
      one_small = λ g h c d e. (let s = in-small g c in let t = in-small h d in (one-face t.0 s.0 h g t.1 s.1 e).1);
      one_big = λ g h c d e. (let s = seen-of tree p numbers faces g is c in let t = seen-of tree p numbers faces h is d in (one-face t.0 s.0 h g t.2 s.2 e).1);
      closed = λ g path c b mention. closed g path c b mention;
    }
      where
        in-small : (g : Face) → Contains (f ∷ o.faces) g → (r : ℕ) × IsSeen tree r g
        in-small g c = elim (type-cases f g o.faces c) [
          | inl e ↦ subst (λ (x : Face). (r : ℕ) × IsSeen tree r x) e (q, is-seen tree q f (is.good q f shows))
          | inr h ↦ (let s = seen-of tree q o.numbers o.faces g o.are h in (s.0, s.2))
        ]

        tail-in : (g : Face) → Contains o.faces g → Contains (f ∷ o.faces) g
        tail-in g h = contains-tail f g o.faces h

        both : (path : List ℕ) (r : ℕ) (m : Mentioned tree r path) → Shows o.numbers o.faces m.r m.face → Shows numbers faces m.r m.face
            → (h : Face) × Contains (f ∷ o.faces) h × Contains faces h × (h.path ≡ path)
        both path r m small big = (m.face, tail-in m.face (shows-face o.numbers o.faces m.r m.face small), shows-face numbers faces m.r m.face big, m.path_is)

        -- what the face itself mentions, and what one of its environment does
        of-itself : (path : List ℕ) → IsMentioned f path → (h : Face) × Contains (f ∷ o.faces) h × Contains faces h × (h.path ≡ path)
        of-itself path mention =
            let m = mentions-of tree q f path (is.good q f shows) mention in
            both path q m (m.inside o.numbers o.faces o.are) (holds-mention p numbers faces q f path is shows mention m)

        of-other : (g : Face) (path : List ℕ) → Contains o.faces g → Contains faces g → IsMentioned g path → (h : Face) × Contains (f ∷ o.faces) h × Contains faces h × (h.path ≡ path)
        of-other g path c b mention =
            let s = seen-of tree q o.numbers o.faces g o.are c in
            let t = seen-of tree p numbers faces g is b in
            let same : t.0 ≡ s.0 = (one-face t.0 s.0 g g t.2 s.2 refl).0 in
            let big : Shows numbers faces s.0 g = subst (λ (n : ℕ). Shows numbers faces n g) same t.1 in
            let m = mentions-of tree s.0 g path s.2.good mention in
            both path s.0 m (holds-mention q o.numbers o.faces s.0 g path o.are s.1 mention m) (holds-mention p numbers faces s.0 g path is big mention m)

        closed : (g : Face) (path : List ℕ) → Contains (f ∷ o.faces) g → Contains faces g → IsMentioned g path → (h : Face) × Contains (f ∷ o.faces) h × Contains faces h × (h.path ≡ path)
        closed g path c b mention = elim (type-cases f g o.faces c) [
          | inl e ↦ of-itself path (subst (λ (x : Face). IsMentioned x path) (sym e) mention)
          | inr h ↦ of-other g path h b mention
        ]

    -- the faces of an environment can be declared together
    pub env-fit : AreFit pack.path faces
    env-fit = are-fit pack.path faces (λ f c.
        let s = seen-of tree p numbers faces f is c in
        let o = opened tree s.0 (Accepts f) s.2.good in
        record { env = o.faces; fit = accepted-fit o.pack.path o.pack.files o.faces f o.judges; nest = nest-of s.0 f o s.1 })

-- the input of a load is lawful
pub load-lawful : (tree : List PackageTexts) (p : ℕ) (load : LoadInput) → IsTree tree → IsLoadOf tree p load → IsLawful load
load-lawful tree p load formed is =
    let made : LoadInput = record { path = is.pack.path; files = is.pack.files; env = load.env } in
    let same : made ≡ load =
    ap (λ (l : List ℕ). record { path = l; files = is.pack.files; env = load.env }) (sym is.path) ∙ ap (λ (l : List Named). record { path = load.path; files = l; env = load.env }) (sym is.files) in
    let source = formed.source p is.pack is.at is.sound in
    subst IsLawful same (record {
      read = record {
        few = source.few;
        short = source.short;
        pack = source.pack;
        of = source.of;
        env = is.faces;
        faces = are-read load.env is.faces (is.are.around.size ∙ sym is.env.size) (λ k x f a b. spelled-at k x f a b);
        fit = env-fit tree formed p is.pack is.numbers is.faces is.at is.are;
      };
      source = source;
      ordered = λ j k x y l a b. in-order j k x y l a b;
      others = λ x has. (has-path-of x has, apart x has);
      imports = λ path imported. has-text path imported;
    })
  where
    -- whose text stands at a place
    whose : (k : ℕ) (x : Named) → slice_get load.env k ≡ Some x → (q : ℕ) × (f : Face) × Shows is.numbers is.faces q f × (slice_get is.numbers k ≡ Some q) × IsExport tree q f x
    whose k x e =
        let l : k < length load.env = slice_get_within load.env k x e in
        let size : length load.env ≡ length is.numbers = is.env.size in
        let size2 : length is.faces ≡ length is.numbers = is.are.around.size in
        let q = element is.numbers k (omega (arith, l, size)) in
        let f = element is.faces k (omega (arith, l, size, size2)) in
        (q.0, f.0, (k, q.1, f.1), q.1, is.env.each k q.0 f.0 x q.1 f.1 e)

    spelled-at : (k : ℕ) (x : Named) (f : Face) → slice_get load.env k ≡ Some x → slice_get is.faces k ≡ Some f → IsFaceText f x.1 × (f.path ≡ x.0)
    spelled-at k x f a b =
        let w = whose k x a in
        let ex = is.env.each k w.0 f x w.3 b a in
        let good = is.are.good w.0 f (k, w.3, b) in
        (ex.spelled, face-path tree w.0 f ex.other good ex.at ∙ sym ex.path)

    in-order : (j k : ℕ) (x y : Named) → j < k → slice_get load.env j ≡ Some x → slice_get load.env k ≡ Some y → is_before x.0 y.0 ≡ true
    in-order j k x y l a b =
        let v = whose j x a in
        let w = whose k y b in
        let ex = v.4 in
        let ey = w.4 in
        let less : v.0 < w.0 = is.are.around.rising j k v.0 w.0 l v.3 w.3 in
        subst (λ (z : List ℕ). is_before z y.0 ≡ true) (sym ex.path)
        (subst (λ (z : List ℕ). is_before ex.other.path z ≡ true) (sym ey.path) (formed.ordered v.0 w.0 ex.other ey.other less ex.at ey.at))

    text-of : (x : Named) (has : Contains load.env x) → (q : ℕ) × (f : Face) × Shows is.numbers is.faces q f × (slice_get is.numbers has.0 ≡ Some q) × IsExport tree q f x
    text-of x has = whose has.0 x (at-contained load.env x has)

    -- it is the path of its face
    named-so : (x : Named) (q : ℕ) (f : Face) → Shows is.numbers is.faces q f → IsExport tree q f x → f.path ≡ x.0
    named-so x q f shows ex = face-path tree q f ex.other (is.are.good q f shows) ex.at ∙ sym ex.path

    has-path-of : (x : Named) → Contains load.env x → x.0 ≡ [] → ⊥
    has-path-of x has e =
        let t = text-of x has in
        has-path tree formed t.0 t.1 (is-seen tree t.0 t.1 (is.are.good t.0 t.1 t.2)) (named-so x t.0 t.1 t.2 t.4 ∙ e)

    apart : (x : Named) → Contains load.env x → x.0 ≡ is.pack.path → ⊥
    apart x has e =
        let t = text-of x has in
        other-path tree formed p is.pack is.numbers is.faces is.at is.are t.0 t.1 t.2 (sym (named-so x t.0 t.1 t.2 t.4 ∙ e))

    has-text : (path : List ℕ) → ImportsPath (formed.source p is.pack is.at is.sound).pack path → (x : Named) × Contains load.env x × (x.0 ≡ path)
    has-text path imported =
        let source = formed.source p is.pack is.at is.sound in
        let found = formed.imports p is.pack source.pack path is.at is.sound source.of imported in
        let c = is.are.around.imports found.0 (is.pack, is.at, found.2) in
        let low : c.0 < length is.numbers = c.1 in
        let size : length load.env ≡ length is.numbers = is.env.size in
        let size2 : length is.faces ≡ length is.numbers = is.are.around.size in
        let x = element load.env c.0 (omega (arith, size, low)) in
        let f = element is.faces c.0 (omega (arith, size2, low)) in
        let ex = is.env.each c.0 found.0 f.0 x.0 (at-contained is.numbers found.0 c) f.1 x.1 in
        (x.0, contains-at load.env c.0 x.0 x.1, ex.path ∙ (ap (λ (z : PackageTexts). z.path) (same_pack tree found.0 ex.other found.1 ex.at found.3) ∙ found.4))
