-- A package has one environment and one finding, and a load one input.
use Rattle.std.proofs.Common.{◌≡◌, ℕ, ◌<◌, ◌+◌, ◌⊎◌, inl, inr, true, false, Option, Some, List, [], ◌∷◌, ◌++◌, length, slice_get, refl, sym, ap, ◌∙◌, subst, arith, zero, suc}
use Rattle.std.specs.List.{Contains}
use Rattle.std.proofs.lemmas.Option.{same_Some, slice_get_within}
use Rattle.gv_base.specs.Files.{is_before}
use Rattle.gv_base.proofs.FileLemmas.{before-flip}
use Rattle.export_text.specs.Faces.{IsFaceText, face_text}
use Rattle.export_text.specs.Mentions.{IsMentioned}
use Rattle.package_faces.specs.Faces.{Face}
use Rattle.action_graph.specs.declared.kit.LoadInput.{LoadInput}
use Rattle.action_graph.specs.Nodes.{Named}
use Rattle.action_graph.specs.Judging.{Judged, Env, Judges, AreInterfaces, IsOutcome, Tells}
use Rattle.action_graph.specs.Judging.Judged.{Accepts}
use Rattle.action_graph.proofs.JudgingLaws.{judges_once, same_accepts, accepts_path, one_face}
use Rattle.action_graph.proofs.NodeLemmas.{same_load}
use Rattle.fact_cache.specs.declared.texts.Input.{Input}
use Rattle.gv_driver.specs.declared.tree.PackageTexts.{PackageTexts}
use Rattle.gv_driver.specs.Trees.{Imports, IsTree}
use Rattle.gv_driver.specs.Whole.{Shows, IsNear, IsAround, IsEnv, HasEnv, Checked}
use Rattle.gv_driver.specs.Whole.IsNear.{imported, mentioned}
use Rattle.gv_driver.specs.Whole.Checked.{checked}
use Rattle.gv_driver.specs.Loads.{AreExports, IsExport, IsLoadOf, IsInput, load_input}
use Rattle.gv_driver.proofs.Places.{at-contained, contains-at, element, same-list}
use Rattle.gv_driver.proofs.RowLemmas.{same-rising}

pub same_pack : (tree : List PackageTexts) (p : ℕ) (a b : PackageTexts) → slice_get tree p ≡ Some a → slice_get tree p ≡ Some b → a ≡ b
same_pack tree p a b e f = same_Some a b (sym e ∙ f)

-- ---- one environment

-- what is seen of a package of a list
pub shown : (numbers : List ℕ) (env : Env) (q : ℕ) → length env ≡ length numbers → Contains numbers q → (f : Face) × Shows numbers env q f
shown numbers env q size c =
    let low : c.0 < length numbers = c.1 in
    let f = element env c.0 (omega (arith, low, size)) in
    (f.0, (c.0, at-contained numbers q c, f.1))

-- what is seen of it, of a place
pub shown-at : (numbers : List ℕ) (env : Env) (k q : ℕ) → length env ≡ length numbers → slice_get numbers k ≡ Some q → (f : Face) × (slice_get env k ≡ Some f)
shown-at numbers env k q size at = element env k (let low : k < length numbers = slice_get_within numbers k q at in omega (arith, low, size))

pub shows-number : (numbers : List ℕ) (env : Env) (q : ℕ) (f : Face) → Shows numbers env q f → Contains numbers q
shows-number numbers env q f (k, at, there) = contains-at numbers k q at

module _ (tree : List PackageTexts) (p : ℕ) where
  -- what is near over one environment is in another, where the same is seen of packages
  near-in : (n m : List ℕ) (e d : Env) (q : ℕ) → IsAround tree p m d → ((s : ℕ) (f g : Face) → Shows n e s f → Shows m d s g → f ≡ g) → IsNear tree n e p q → Contains m q
  near-in n m e d _ around same (imported q i) = around.imports q i
  near-in n m e d _ around same (mentioned q r f other near shows m_in at) =
      let g = shown m d q around.size (near-in n m e d q around same near) in
      let one : f ≡ g.0 = same q f g.0 shows g.1 in
      around.mentions q r g.0 other g.1 (subst (λ (x : Face). IsMentioned x other.path) one m_in) at

  same-numbers : (n m : List ℕ) (e d : Env) → IsAround tree p n e → IsAround tree p m d → ((s : ℕ) (f g : Face) → Shows n e s f → Shows m d s g → f ≡ g) → n ≡ m
  same-numbers n m e d one two same =
      same-rising n m one.rising two.rising
      (λ q c. near-in n m e d q two same (one.near q c))
      (λ q c. near-in m n d e q one (λ s f g a b. sym (same s g f b a)) (two.near q c))

  same-faces : (n m : List ℕ) (e d : Env) → n ≡ m → length e ≡ length n → length d ≡ length m → ((s : ℕ) (f g : Face) → Shows n e s f → Shows m d s g → f ≡ g) → e ≡ d
  same-faces n m e d is size other same =
      let long : length n ≡ length m = ap (λ (l : List ℕ). length l) is in
      same-list e d (size ∙ (long ∙ sym other)) (λ k low.
      let q = element n k (omega (arith, low, size)) in
      let f = element e k low in
      let g = element d k (omega (arith, low, size, long, other)) in
      let there : slice_get m k ≡ Some q.0 = subst (λ (l : List ℕ). slice_get l k ≡ Some q.0) is q.1 in
      f.1 ∙ (ap (λ (x : Face). Some x) (same q.0 f.0 g.0 (k, q.1, f.1) (k, there, g.1)) ∙ sym g.1))

unique-with : (tree : List PackageTexts) (p : ℕ) (pack : PackageTexts) (numbers : List ℕ) (env : Env) (judged : Judged) → slice_get tree p ≡ Some pack → IsAround tree p numbers env
    → ((q : ℕ) (f : Face) → Shows numbers env q f → (l : Judged) → Checked tree q l → Accepts f ≡ l)
    → Judges pack.path pack.files env judged → (w : Judged) → Checked tree p w → judged ≡ w
unique-with tree _ pack numbers env judged at around same judges _ (checked p pack2 numbers2 env2 w at2 sound2 around2 good2 judges2) =
    let is : pack ≡ pack2 = same_pack tree p pack pack2 at at2 in
    let alike : (q : ℕ) (f g : Face) → Shows numbers env q f → Shows numbers2 env2 q g → f ≡ g = λ q f g a b. same_accepts f g (same q f a (Accepts g) (good2 q g b)) in
    let row : numbers ≡ numbers2 = same-numbers tree p numbers numbers2 env env2 around around2 alike in
    let faces : env ≡ env2 = same-faces tree p numbers numbers2 env env2 row around.size around2.size alike in
    judges_once pack2.path pack2.files env2 judged w
    (subst (λ (x : PackageTexts). Judges x.path x.files env2 judged) is (subst (λ (e : Env). Judges pack.path pack.files e judged) faces judges)) judges2

-- a package has one finding
pub unique : (tree : List PackageTexts) (p : ℕ) (v w : Judged) → Checked tree p v → Checked tree p w → v ≡ w
unique tree _ _ w (checked p pack numbers env v at sound around good judges) other =
    unique-with tree p pack numbers env v at around (λ q f h l c. unique tree q (Accepts f) l (good q f h) c) judges w other

pub unique-face : (tree : List PackageTexts) (p : ℕ) (i k : Face) → Checked tree p (Accepts i) → Checked tree p (Accepts k) → i ≡ k
unique-face tree p i k a b = same_accepts i k (unique tree p (Accepts i) (Accepts k) a b)

-- a package has one environment
pub one-row : (tree : List PackageTexts) (p : ℕ) (n m : List ℕ) (e d : Env) → IsEnv tree p n e → IsEnv tree p m d → n ≡ m
one-row tree p n m e d a b = same-numbers tree p n m e d a.around b.around (λ q f g x y. unique-face tree q f g (a.good q f x) (b.good q g y))

pub one-env : (tree : List PackageTexts) (p : ℕ) (n m : List ℕ) (e d : Env) → IsEnv tree p n e → IsEnv tree p m d → e ≡ d
one-env tree p n m e d a b =
    same-faces tree p n m e d (one-row tree p n m e d a b) a.around.size b.around.size (λ q f g x y. unique-face tree q f g (a.good q f x) (b.good q g y))

-- a finding, opened
pub record Opened (tree : List PackageTexts) (p : ℕ) (v : Judged) : Type 0 where
  pub pack : PackageTexts
  pub numbers : List ℕ
  pub faces : Env
  pub at : slice_get tree p ≡ Some pack
  pub sound : pack.sound ≡ true
  pub are : IsEnv tree p numbers faces
  pub judges : Judges pack.path pack.files faces v

pub opened : (tree : List PackageTexts) (p : ℕ) (v : Judged) → Checked tree p v → Opened tree p v
opened tree _ _ (checked p pack numbers env v at sound around good judges) =
    record { pack = pack; numbers = numbers; faces = env; at = at; sound = sound; are = record { around = around; good = good }; judges = judges }

-- what is seen of a package has the package's path
pub face-path : (tree : List PackageTexts) (q : ℕ) (i : Face) (other : PackageTexts) → Checked tree q (Accepts i) → slice_get tree q ≡ Some other → i.path ≡ other.path
face-path tree q i other good at =
    let o = opened tree q (Accepts i) good in
    accepts_path o.pack.path o.pack.files o.faces i o.judges ∙ ap (λ (x : PackageTexts). x.path) (same_pack tree q o.pack other o.at at)

-- a package isn't one of its environment
pub no-circle : (tree : List PackageTexts) (p : ℕ) (v : Judged) → Checked tree p v → (numbers : List ℕ) (env : Env) → IsEnv tree p numbers env → Contains numbers p → ⊥
no-circle tree _ _ (checked p pack n e v at sound around good judges) numbers env is c =
    let row : numbers ≡ n = one-row tree p numbers n env e is (record { around = around; good = good }) in
    let f = shown n e p around.size (subst (λ (l : List ℕ). Contains l p) row c) in
    no-circle tree p (Accepts f.0) (good p f.0 f.1) numbers env is c

-- ---- what is read back

pub faces-length : (xs : List Named) (env : Env) → AreInterfaces xs env → length env ≡ length xs
faces-length [] [] h = refl
faces-length [] (i ∷ env) h = absurd h
faces-length (x ∷ xs) [] h = absurd h
faces-length (x ∷ xs) (i ∷ env) h = ap (λ n. suc n) (faces-length xs env h.2)

pub face-at : (xs : List Named) (env : Env) (k : ℕ) (x : Named) (i : Face) → AreInterfaces xs env → slice_get xs k ≡ Some x → slice_get env k ≡ Some i → IsFaceText i x.1
face-at [] env k x i h a b = cc
face-at (y ∷ ys) [] k x i h a b = absurd h
face-at (y ∷ ys) (j ∷ env) zero x i h a b =
    subst (λ (z : Face). IsFaceText z x.1) (same_Some j i b) (subst (λ (z : Named). IsFaceText j z.1) (same_Some y x a) h.0)
face-at (y ∷ ys) (j ∷ env) (suc k) x i h a b = face-at ys env k x i h.2 a b

pub are-read : (xs : List Named) (env : Env) → length env ≡ length xs → ((k : ℕ) (x : Named) (f : Face) → slice_get xs k ≡ Some x → slice_get env k ≡ Some f → IsFaceText f x.1 × (f.path ≡ x.0)) → AreInterfaces xs env
are-read [] [] size h = tt
are-read [] (f ∷ env) size h = absurd (omega (arith, size))
are-read (x ∷ xs) [] size h = absurd (omega (arith, size))
are-read (x ∷ xs) (f ∷ env) size h =
    let one = h 0 x f refl refl in
    (one.0, one.1, are-read xs env (omega (arith, size)) (λ k y g a b. h (suc k) y g a b))

-- what the texts of a load spell is its environment
pub read-back : (tree : List PackageTexts) (p : ℕ) (load : LoadInput) (env : Env) (is : IsLoadOf tree p load) → AreInterfaces load.env env → is.faces ≡ env
read-back tree p load env is read =
    let long : length env ≡ length load.env = faces-length load.env env read in
    let size : length load.env ≡ length is.numbers = is.env.size in
    let size2 : length is.faces ≡ length is.numbers = is.are.around.size in
    same-list is.faces env (size2 ∙ (sym size ∙ sym long)) (λ k low.
    let f = element is.faces k low in
    let i = element env k (omega (arith, low, long, size, size2)) in
    let q = element is.numbers k (omega (arith, low, size2)) in
    let x = element load.env k (omega (arith, low, size, size2)) in
    let ex = is.env.each k q.0 f.0 x.0 q.1 f.1 x.1 in
    f.1 ∙ (ap (λ (z : Face). Some z) (one_face f.0 i.0 x.0.1 ex.spelled (face-at load.env env k x.0 i.0 read x.1 i.1)) ∙ sym i.1))

-- the faces that the texts of a load spell come of the tree
pub env-of : (tree : List PackageTexts) (p : ℕ) (load : LoadInput) (env : Env) → IsLoadOf tree p load → AreInterfaces load.env env → HasEnv tree p env
env-of tree p load env is read = (is.numbers, subst (λ (e : Env). IsEnv tree p is.numbers e) (read-back tree p load env is read) is.are)

-- what comes of a package's load is what comes of the package
pub judged-of : (tree : List PackageTexts) (p : ℕ) (load : LoadInput) (text : List ℕ) → IsLoadOf tree p load → IsOutcome load text → (v : Judged) × Checked tree p v × Tells v text
judged-of tree p load text is out =
    let judges : Judges is.pack.path is.pack.files out.env out.judged =
    subst (λ (l : List Named). Judges is.pack.path l out.env out.judged) is.files
    (subst (λ (l : List ℕ). Judges l load.files out.env out.judged) is.path out.judges) in
    let found = env-of tree p load out.env is out.faces in
    (out.judged, checked p is.pack found.0 out.env out.judged is.at is.sound found.1.around found.1.good judges, out.tells)

-- ---- one input

same-named : (x y : Named) → x.0 ≡ y.0 → x.1 ≡ y.1 → x ≡ y
same-named x y a b = ap (λ (p : List ℕ). (p, x.1)) a ∙ ap (λ (t : List ℕ). (y.0, t)) b

exports-alike : (tree : List PackageTexts) (numbers : List ℕ) (faces : Env) (a b : List Named) → length faces ≡ length numbers → AreExports tree numbers faces a → AreExports tree numbers faces b
    → (k : ℕ) → k < length a → slice_get a k ≡ slice_get b k
exports-alike tree numbers faces a b long one two k l =
    let size_a : length a ≡ length numbers = one.size in
    let size_b : length b ≡ length numbers = two.size in
    let x = element a k l in
    let y = element b k (omega (arith, l, size_a, size_b)) in
    let q = element numbers k (omega (arith, l, size_a)) in
    let f = element faces k (omega (arith, l, size_a, long)) in
    let ex = one.each k q.0 f.0 x.0 q.1 f.1 x.1 in
    let ey = two.each k q.0 f.0 y.0 q.1 f.1 y.1 in
    let path : x.0.0 ≡ y.0.0 = ex.path ∙ (ap (λ (z : PackageTexts). z.path) (same_pack tree q.0 ex.other ey.other ex.at ey.at) ∙ sym ey.path) in
    let text : x.0.1 ≡ y.0.1 = ex.spelled.whole ∙ sym ey.spelled.whole in
    x.1 ∙ (ap (λ (z : Named). Some z) (same-named x.0 y.0 path text) ∙ sym y.1)

-- a package has one load
pub unique-load : (tree : List PackageTexts) (p : ℕ) (a b : LoadInput) → IsLoadOf tree p a → IsLoadOf tree p b → a ≡ b
unique-load tree p a b one two =
    let is : one.pack ≡ two.pack = same_pack tree p one.pack two.pack one.at two.at in
    let path : a.path ≡ b.path = one.path ∙ (ap (λ (x : PackageTexts). x.path) is ∙ sym two.path) in
    let files : a.files ≡ b.files = one.files ∙ (ap (λ (x : PackageTexts). x.files) is ∙ sym two.files) in
    let row : one.numbers ≡ two.numbers = one-row tree p one.numbers two.numbers one.faces two.faces one.are two.are in
    let faces : one.faces ≡ two.faces = one-env tree p one.numbers two.numbers one.faces two.faces one.are two.are in
    let other : AreExports tree two.numbers two.faces a.env =
    subst (λ (e : Env). AreExports tree two.numbers e a.env) faces (subst (λ (l : List ℕ). AreExports tree l one.faces a.env) row one.env) in
    let env : a.env ≡ b.env =
    same-list a.env b.env (other.size ∙ sym two.env.size) (exports-alike tree two.numbers two.faces a.env b.env two.are.around.size other two.env) in
    same_load a b path files env

-- and that one input
pub unique-input : (tree : List PackageTexts) (p : ℕ) (s t : Input) → IsInput tree p s → IsInput tree p t → s ≡ t
unique-input tree p s t a b = a.is ∙ (ap load_input (unique-load tree p a.load b.load a.of b.of) ∙ sym b.is)

-- ---- packages by their paths

not-before-itself : (p q : List ℕ) → p ≡ q → is_before p q ≡ true → ⊥
not-before-itself p q e h =
    let here : is_before q q ≡ true = subst (λ (x : List ℕ). is_before x q ≡ true) e h in
    let flipped : is_before q q ≡ false = before-flip q q here in cc

less-or : (p q : ℕ) → (p < q) ⊎ (q < p + 1)
less-or p q = grind arith

below-or : (q p : ℕ) → q < p + 1 → (q < p) ⊎ (q ≡ p)
below-or q p h = grind arith

-- packages of one path are one
pub same-number : (tree : List PackageTexts) (p q : ℕ) (a b : PackageTexts) → IsTree tree → slice_get tree p ≡ Some a → slice_get tree q ≡ Some b → a.path ≡ b.path → p ≡ q
same-number tree p q a b formed at_a at_b e = elim (less-or p q) [
  | inl l ↦ absurd (not-before-itself a.path b.path e (formed.ordered p q a b l at_a at_b))
  | inr h ↦ elim (below-or q p h) [
    | inl l ↦ absurd (not-before-itself b.path a.path (sym e) (formed.ordered q p b a l at_b at_a))
    | inr s ↦ sym s
  ]
]
