-- There is one unit of a package over an environment, but for which names are cyclic and whose methods are declared.
use Rattle.std.proofs.Common.{Option, None, ◌≡◌, ℕ, zero, suc, Bool, false, List, [], ◌∷◌, length, slice_get, Some, refl, sym, ap, ◌∙◌, subst, inl, inr, arith}
use Rattle.std.proofs.Math.Path.{fun_ext}
use Rattle.go_tree.specs.Bindings.{AreInOrder, IsBefore}
use Rattle.go_tree.specs.declared.bindings.Object.{Object}
use Rattle.go_tree.specs.declared.tree.FileTree.{FileTree}
use Rattle.go_tree.specs.declared.tree.NodeRef.{NodeRef}
use Rattle.package_faces.specs.Faces.{Face}
use Rattle.std.proofs.lemmas.Option.{slice_get_within}
use Rattle.bind.specs.Answers.{AreSpelled}
use Rattle.bind.specs.Denoting.{AreBindings}
use Rattle.bind.specs.Sources.{Source, Sources, AreFiles}
use Rattle.unit_read.specs.Units.{Unit}
use Rattle.unit_rows.proofs.ListLemmas.{got}
use Rattle.unit_blocks.specs.Blocks.{HaveForests, AreAgain}
use Rattle.unit_blocks.proofs.OneLemmas.{one_again}
use Rattle.check_pkg.specs.Packages.{Package, Env, known_of, IsUnit}
use Rattle.check_pkg.proofs.Lists.{stands_in, contains_at}

abbrev Use : Type 0
Use = NodeRef × Object

-- ---- lists of uses in order

before_itself : (a : NodeRef) → IsBefore a a → ⊥
before_itself a (inl low) = omega arith
before_itself a (inr (same, low)) = omega arith

before_then : (a b c : NodeRef) → IsBefore a b → IsBefore b c → IsBefore a c
before_then a b c (inl x) (inl y) = inl (omega arith)
before_then a b c (inl x) (inr (e, y)) = inl (omega arith)
before_then a b c (inr (d, x)) (inl y) = inl (omega arith)
before_then a b c (inr (d, x)) (inr (e, y)) = inr (omega arith, omega arith)

abbrev Has : List Use → Use → Type 0
Has xs z = (k : ℕ) × (slice_get xs k ≡ Some z)

tail : (x : Use) (xs : List Use) → AreInOrder (x ∷ xs) → AreInOrder xs
tail x xs ordered j k a b less first second = ordered (suc j) (suc k) a b (omega arith) first second

-- the first comes before all others
head_first : (x : Use) (xs : List Use) (k : ℕ) (y : Use) → AreInOrder (x ∷ xs) → slice_get xs k ≡ Some y → IsBefore x.0 y.0
head_first x xs k y ordered read = ordered 0 (suc k) x y (omega arith) refl read

some_is : (a b : Use) → Some a ≡ Some b → a ≡ b
some_is a b e = cc

-- two such lists with the same members begin alike
same_head : (x y : Use) (xs ys : List Use) → AreInOrder (x ∷ xs) → AreInOrder (y ∷ ys) → Has (y ∷ ys) x → Has (x ∷ xs) y → x ≡ y
same_head x y xs ys one other (zero, at) there = sym (some_is y x at)
same_head x y xs ys one other (suc k, at) (zero, found) = some_is x y found
same_head x y xs ys one other (suc k, at) (suc j, found) =
    absurd (before_itself x.0 (before_then x.0 y.0 x.0 (head_first x xs j y one found) (head_first y ys k x other at)))

-- and have the same members behind the first
same_tail : (x : Use) (xs ys : List Use) → AreInOrder (x ∷ xs) → ((z : Use) → Has (x ∷ xs) z → Has (x ∷ ys) z) → (z : Use) → Has xs z → Has ys z
same_tail x xs ys ordered into z (k, at) = behind (into z (suc k, at)) where
  behind : Has (x ∷ ys) z → Has ys z
  behind (suc j, found) = (j, found)
  behind (zero, found) = absurd (before_itself x.0 (subst (λ (y : Use). IsBefore x.0 y.0) (sym (some_is x z found)) (head_first x xs k z ordered at)))

one_list : (xs ys : List Use) → AreInOrder xs → AreInOrder ys → ((z : Use) → Has xs z → Has ys z) → ((z : Use) → Has ys z → Has xs z) → xs ≡ ys
one_list [] [] one other to back = refl
one_list [] (y ∷ ys) one other to back = absurd (none (back y (0, refl))) where
  none : Has [] y → ⊥
  none (k, at) = cc
one_list (x ∷ xs) [] one other to back = absurd (none (to x (0, refl))) where
  none : Has [] x → ⊥
  none (k, at) = cc
one_list (x ∷ xs) (y ∷ ys) one other to back =
    let e : x ≡ y = same_head x y xs ys one other (to x (0, refl)) (back y (0, refl)) in
    let into : (z : Use) → Has (x ∷ xs) z → Has (x ∷ ys) z = subst (λ (f : Use). (z : Use) → Has (x ∷ xs) z → Has (f ∷ ys) z) (sym e) to in
    let from : (z : Use) → Has (x ∷ ys) z → Has (x ∷ xs) z = subst (λ (f : Use). (z : Use) → Has (f ∷ ys) z → Has (x ∷ xs) z) (sym e) back in
    let rising : AreInOrder (x ∷ ys) = subst (λ (f : Use). AreInOrder (f ∷ ys)) (sym e) other in
    let rest = one_list xs ys (tail x xs one) (tail y ys other) (same_tail x xs ys one into) (same_tail x ys xs rising from) in
    ap (λ (f : Use). f ∷ xs) e ∙ ap (λ (zs : List Use). y ∷ zs) rest

-- ---- the files of a package

-- files whose trees are spelled have their forests
sources : (trees : List FileTree) (files : List (List ℕ × List ℕ)) → AreSpelled trees files → (ss : List Source) × AreFiles trees files ss
sources [] [] spelled = ([], tt)
sources [] (e ∷ es) spelled = absurd (let size = spelled.size in cc)
sources (t ∷ ts) [] spelled = absurd (let size = spelled.size in cc)
sources (t ∷ ts) (e ∷ es) spelled =
    let here = spelled.spelled 0 t e refl refl in
    let size : suc (length ts) ≡ suc (length es) = spelled.size in
    let rest = sources ts es (record { size = omega arith; spelled = λ i u f tree file. spelled.spelled (suc i) u f tree file }) in
    (record { path = e.0; bytes = e.1; tree = t; forest = here.forest } ∷ rest.0, (refl, refl, refl, here.arena, rest.1))

pub spelled_forests : (trees : List FileTree) (files : List (List ℕ × List ℕ)) → AreSpelled trees files → HaveForests trees
spelled_forests trees files spelled f tree there =
    let (file, at) = got files f (let low = slice_get_within trees f tree there in let size = spelled.size in omega (arith, low, size)) in
    let here = spelled.spelled f tree file there at in
    (here.forest, here.arena)

-- both have the uses of the package, and no others
same_uses : (s : Sources) (one other : List Use) → AreBindings s one → AreBindings s other → (z : Use) → Has one z → Has other z
same_uses s one other a b z (k, at) = stands_in other z ((b z.0 z.1).1 ((a z.0 z.1).0 (contains_at one k z at)))

abbrev pub unit_with : List ℕ → List (List ℕ) → List FileTree → List Use → List Face → (NodeRef → Bool) → (NodeRef → Bool) → (NodeRef → Bool) → (NodeRef → Option NodeRef) → Unit
unit_with path texts trees uses env redeclared cyclic circular owner =
    record { path = path; texts = texts; trees = trees; uses = uses; env = env; redeclared = redeclared; cyclic = cyclic; circular = circular; owner = owner }

-- what two units of one package share
pub record Shares (a b : Unit) : Type 0 where
  pub path : a.path ≡ b.path
  pub texts : a.texts ≡ b.texts
  pub trees : a.trees ≡ b.trees
  pub uses : a.uses ≡ b.uses
  pub env : a.env ≡ b.env

pub with_flags : (a b : Unit) (redeclared cyclic circular : NodeRef → Bool) (owner : NodeRef → Option NodeRef) → Shares a b
    → unit_with a.path a.texts a.trees a.uses a.env redeclared cyclic circular owner ≡ unit_with b.path b.texts b.trees b.uses b.env redeclared cyclic circular owner
with_flags a b redeclared cyclic circular owner shares =
    ap (λ (x : List ℕ). unit_with x a.texts a.trees a.uses a.env redeclared cyclic circular owner) shares.path
    ∙ (ap (λ (x : List (List ℕ)). unit_with b.path x a.trees a.uses a.env redeclared cyclic circular owner) shares.texts
    ∙ (ap (λ (x : List FileTree). unit_with b.path b.texts x a.uses a.env redeclared cyclic circular owner) shares.trees
    ∙ (ap (λ (x : List Use). unit_with b.path b.texts b.trees x a.env redeclared cyclic circular owner) shares.uses
    ∙ ap (λ (x : List Face). unit_with b.path b.texts b.trees b.uses x redeclared cyclic circular owner) shares.env)))

pub shared : (p : Package) (env : Env) (a b : Unit) → IsUnit p env a → IsUnit p env b → AreSpelled p.trees p.files → Shares a b
shared p env a b one other spelled =
    let found = sources p.trees p.files spelled in
    let s : Sources = record { files = found.0; named = known_of env } in
    let first = one.uses.bound s refl found.1 in
    let second = other.uses.bound s refl found.1 in
    record {
      path = one.path ∙ sym other.path;
      texts = one.texts ∙ sym other.texts;
      trees = one.trees ∙ sym other.trees;
      uses = one_list a.uses b.uses one.uses.ordered other.uses.ordered (same_uses s a.uses b.uses first second) (same_uses s b.uses a.uses second first);
      env = one.env ∙ sym other.env;
    }

-- two units of a package in which the same nodes are cyclic and circular, and the same methods declared, are one
pub one_unit : (p : Package) (env : Env) (a b : Unit) → IsUnit p env a → IsUnit p env b → AreSpelled p.trees p.files → ((at : NodeRef) → a.cyclic at ≡ b.cyclic at)
    → ((at : NodeRef) → a.circular at ≡ b.circular at) → ((at : NodeRef) → a.owner at ≡ b.owner at) → a ≡ b
one_unit p env a b one other spelled same turned owned = whole where
  shares : Shares a b
  shares = shared p env a b one other spelled

  plain : unit_with a.path a.texts a.trees a.uses a.env (λ at. false) (λ at. false) (λ at. false) (λ at. None) ≡ unit_with b.path b.texts b.trees b.uses b.env (λ at. false) (λ at. false) (λ at. false) (λ at. None)
  plain = with_flags a b (λ at. false) (λ at. false) (λ at. false) (λ at. None) shares

  bare : Unit → Unit
  bare u = unit_with u.path u.texts u.trees u.uses u.env (λ at. false) (λ at. false) (λ at. false) (λ at. None)

  turned_over : AreAgain (bare a) b.redeclared
  turned_over = subst (λ (u : Unit). AreAgain u b.redeclared) (sym plain) (record { rows = other.redeclared.rows; names = other.redeclared.names; each = other.redeclared.each })

  forests : HaveForests a.trees
  forests = subst (λ (trees : List FileTree). HaveForests trees) (sym one.trees) (spelled_forests p.trees p.files spelled)

  again : (at : NodeRef) → a.redeclared at ≡ b.redeclared at
  again at = one_again (bare a) a.redeclared b.redeclared forests (record { rows = one.redeclared.rows; names = one.redeclared.names; each = one.redeclared.each }) turned_over at

  whole : a ≡ b
  whole =
      ap (λ (f : NodeRef → Bool). unit_with a.path a.texts a.trees a.uses a.env f a.cyclic a.circular a.owner) (fun_ext again)
      ∙ (ap (λ (f : NodeRef → Bool). unit_with a.path a.texts a.trees a.uses a.env b.redeclared f a.circular a.owner) (fun_ext same)
      ∙ (ap (λ (f : NodeRef → Bool). unit_with a.path a.texts a.trees a.uses a.env b.redeclared b.cyclic f a.owner) (fun_ext turned)
      ∙ (ap (λ (f : NodeRef → Option NodeRef). unit_with a.path a.texts a.trees a.uses a.env b.redeclared b.cyclic b.circular f) (fun_ext owned)
      ∙ with_flags a b b.redeclared b.cyclic b.circular b.owner shares)))
