-- The names that files declare outside functions, as a list and as the definition has them.
use Rattle.std.proofs.Common.{◌≡◌, ◌==◌, ℕ, zero, suc, ◌+◌, ◌<◌, ◌⊎◌, List, [], ◌∷◌, ◌++◌, Bool, true, false, cond, get_or, take, Option, Some, None, length, slice_get, refl, sym, ap, ◌∙◌, subst, inl, inr, arith, append_assoc, eqb→eq, eq-eqb, T}
use Rattle.std.specs.Prelude.{codes}
use Rattle.std.specs.List.{Contains}
use Rattle.std.specs.Str.{bytes_eq}
use Rattle.std.proofs.lemmas.List.{take_more, append-nil}
use Rattle.std.proofs.lemmas.List.Elements.{Contains-push, Contains-push_cases, Contains-append_left, Contains-append_right, Contains-append_cases}
use Rattle.std.proofs.lemmas.Option.{slice_get_within}
use Rattle.go_tree.specs.declared.tree.FileTree.{FileTree}
use Rattle.go_tree.specs.declared.tree.NodeRef.{NodeRef}
use Rattle.scopes.specs.declared.scope.Named.{Named}
use Rattle.gv_base.proofs.Lists.{same_some}
use Rattle.file_uses.specs.Numbers.{name_in}
use Rattle.bind.specs.Answers.{IsRead, AreRead}
use Rattle.bind.specs.Package.{narrow, ref, unless_init, top_name, listed, top_of, tops_of, tops_at, tops_before}
use Rattle.bind.specs.Sources.{Source, Sources, IsTop, IsPackageName, name_of}
use Rattle.bind.specs.declared.file.File.{File}
use Rattle.bind.proofs.AnswerLemmas.{narrow_low, names_are, name_low}
use Rattle.bind.proofs.Orders.{ref_same}

abbrev Pair : Type 0
Pair = List ℕ × NodeRef

-- ---- lists that are made one after another

pub tops_join : (f : File) (number : ℕ) (xs ys : List Named) → tops_of f number (xs ++ ys) ≡ tops_of f number xs ++ tops_of f number ys
tops_join f number [] ys = refl
tops_join f number (x ∷ xs) ys = ap (λ r. top_of f number x ++ r) (tops_join f number xs ys) ∙ sym (append_assoc (top_of f number x) (tops_of f number xs) (tops_of f number ys))

pub tops_more : (f : File) (number : ℕ) (ds : List Named) (i : ℕ) (d : Named) (was now new : List Pair) → i < length ds → now ≡ was ++ tops_of f number (take i ds) → new ≡ now ++ top_of f number (get_or ds i d)
    → new ≡ was ++ tops_of f number (take (i + 1) ds)
tops_more f number ds i d was now new low so_far this =
    this ∙ (ap (λ r. r ++ top_of f number (get_or ds i d)) so_far ∙ (append_assoc was (tops_of f number (take i ds)) (top_of f number (get_or ds i d))
    ∙ ap (λ r. was ++ r) (ap (λ r. tops_of f number (take i ds) ++ r) (sym (append-nil (top_of f number (get_or ds i d))))
    ∙ (sym (tops_join f number (take i ds) (get_or ds i d ∷ [])) ∙ ap (λ r. tops_of f number r) (sym (take_more ds i d low))))))

-- ---- what the lists have

same_pair : (a b : Pair) → a ≡ b → (Some a.0 ≡ Some b.0) × (a.1 ≡ b.1)
same_pair a b e = (ap (λ (x : Pair). Some x.0) e, ap (λ (x : Pair). x.1) e)

none_in : (b : Pair) → Contains [] b → ⊥
none_in b (k, low, e) = omega arith

in_listed : (o : Option (List ℕ)) (at : NodeRef) (q : List ℕ) (m : NodeRef) → Contains (listed o at) (q, m) → (o ≡ Some q) × (at ≡ m)
in_listed None at q m there = absurd (none_in (q, m) there)
in_listed (Some name) at q m there = elim (Contains-push_cases {X = Pair} [] (name, at) (q, m) there) [
  | inl none ↦ absurd (none_in (q, m) none)
  | inr same ↦ same_pair (name, at) (q, m) same
]

pub to_listed : (o : Option (List ℕ)) (at : NodeRef) (q : List ℕ) → o ≡ Some q → Contains (listed o at) (q, at)
to_listed o at q e = subst (λ (x : Option (List ℕ)). Contains (listed x at) (q, at)) (sym e) (Contains-push [] (q, at))

pub from_listed : (o : Option (List ℕ)) (at : NodeRef) (q : List ℕ) (m : NodeRef) → Contains (listed o at) (q, m) → (o ≡ Some q) × (at ≡ m)
from_listed o at q m there = in_listed o at q m there

-- a name of the list is that of a declaration
pub record IsListed (f : File) (number : ℕ) (ds : List Named) (q : List ℕ) (m : NodeRef) : Type 0 where
  pub k : ℕ
  pub d : Named
  pub there : slice_get ds k ≡ Some d
  pub named : top_name f d ≡ Some q
  pub is : ref number d.node ≡ m

from_tops : (f : File) (number : ℕ) (ds : List Named) (q : List ℕ) (m : NodeRef) → Contains (tops_of f number ds) (q, m) → IsListed f number ds q m
from_tops f number [] q m (k, low, e) = absurd (omega arith)
from_tops f number (d ∷ ds) q m there = cases (Contains-append_cases (top_of f number d) (tops_of f number ds) (q, m) there) (λ later. from_tops f number ds q m later) where
  cases : Contains (top_of f number d) (q, m) ⊎ Contains (tops_of f number ds) (q, m) → (Contains (tops_of f number ds) (q, m) → IsListed f number ds q m) → IsListed f number (d ∷ ds) q m
  cases (inl here) others = let e = from_listed (top_name f d) (ref number d.node) q m here in record { k = 0; d = d; there = refl; named = e.0; is = e.1 }
  cases (inr later) others = let r = others later in record { k = suc r.k; d = r.d; there = r.there; named = r.named; is = r.is }

to_tops : (f : File) (number : ℕ) (ds : List Named) (k : ℕ) (d : Named) (q : List ℕ) → slice_get ds k ≡ Some d → top_name f d ≡ Some q → Contains (tops_of f number ds) (q, ref number d.node)
to_tops f number [] k d q there named = absurd (cc)
to_tops f number (x ∷ ds) zero d q there named = Contains-append_left (top_of f number x) (tops_of f number ds) (q, ref number d.node) (subst (λ (y : Named). Contains (top_of f number y) (q, ref number d.node)) (sym (it x d there)) (to_listed (top_name f d) (ref number d.node) q named)) where
  it : (x d : Named) → Some x ≡ Some d → x ≡ d
  it x d e = cc
to_tops f number (x ∷ ds) (suc k) d q there named = Contains-append_right (top_of f number x) (tops_of f number ds) (q, ref number d.node) (to_tops f number ds k d q there named)

-- a name of the list of the first few files is that of one of them
pub record IsListedAt (fs : List File) (n : ℕ) (q : List ℕ) (m : NodeRef) : Type 0 where
  pub i : ℕ
  pub f : File
  pub low : i < n
  pub file : slice_get fs i ≡ Some f
  pub it : Contains (tops_of f (narrow i) f.locals.names.items) (q, m)

at_file : (o : Option File) (number : ℕ) (q : List ℕ) (m : NodeRef) → Contains (tops_at o number) (q, m) → (f : File) × (o ≡ Some f) × Contains (tops_of f number f.locals.names.items) (q, m)
at_file None number q m (k, low, e) = absurd (omega arith)
at_file (Some f) number q m there = (f, refl, there)

from_before : (fs : List File) (n : ℕ) (q : List ℕ) (m : NodeRef) → Contains (tops_before fs n) (q, m) → IsListedAt fs n q m
from_before fs zero q m (k, low, e) = absurd (omega arith)
from_before fs (suc n) q m there = cases (Contains-append_cases (tops_before fs n) (tops_at (slice_get fs n) (narrow n)) (q, m) there) (λ earlier. from_before fs n q m earlier) where
  cases : Contains (tops_before fs n) (q, m) ⊎ Contains (tops_at (slice_get fs n) (narrow n)) (q, m) → (Contains (tops_before fs n) (q, m) → IsListedAt fs n q m) → IsListedAt fs (suc n) q m
  cases (inl earlier) others = let r = others earlier in record { i = r.i; f = r.f; low = (let l = r.low in omega arith); file = r.file; it = r.it }
  cases (inr here) others = let r = at_file (slice_get fs n) (narrow n) q m here in record { i = n; f = r.0; low = omega arith; file = r.1; it = r.2 }

to_before : (fs : List File) (n i : ℕ) (f : File) (q : List ℕ) (m : NodeRef) → i < n → slice_get fs i ≡ Some f → Contains (tops_of f (narrow i) f.locals.names.items) (q, m) → Contains (tops_before fs n) (q, m)
to_before fs zero i f q m low file there = absurd (omega arith)
to_before fs (suc n) i f q m low file there = elim (below i n low) [
  | inl before ↦ Contains-append_left (tops_before fs n) (tops_at (slice_get fs n) (narrow n)) (q, m) (to_before fs n i f q m before file there)
  | inr here ↦ Contains-append_right (tops_before fs n) (tops_at (slice_get fs n) (narrow n)) (q, m)
      (subst (λ (x : ℕ). Contains (tops_at (slice_get fs x) (narrow x)) (q, m)) here (subst (λ (o : Option File). Contains (tops_at o (narrow i)) (q, m)) (sym file) there))
] where
  below : (k i : ℕ) → k < suc i → (k < i) ⊎ (k ≡ i)
  below k i h = grind arith

-- ---- what they say of a package

init_cases : (o : Option (List ℕ)) (q : List ℕ) → unless_init o ≡ Some q → (o ≡ Some q) × (bytes_eq q (codes "init") ≡ false)
init_cases None q e = absurd (cc)
init_cases (Some name) q e = at (bytes_eq name (codes "init")) refl where
  some_same : (a b : List ℕ) → Some a ≡ Some b → a ≡ b
  some_same a b e = cc

  at : (b : Bool) → bytes_eq name (codes "init") ≡ b → (Some name ≡ Some q) × (bytes_eq q (codes "init") ≡ false)
  at true is = absurd (let f : None ≡ Some q = sym (ap (λ b. cond b None (Some name)) is) ∙ e in cc)
  at false is =
      let same : name ≡ q = some_same name q (sym (ap (λ b. cond b None (Some name)) is) ∙ e) in
      (ap (λ x. Some x) same, ap (λ x. bytes_eq x (codes "init")) (sym same) ∙ is)

from_init : (o : Option (List ℕ)) (q : List ℕ) → o ≡ Some q → bytes_eq q (codes "init") ≡ false → unless_init o ≡ Some q
from_init o q e f = ap unless_init e ∙ ap (λ b. cond b None (Some q)) f

count_is : (f : File) (s : Source) → IsRead f s → length f.tree.now.nodes ≡ length s.tree.nodes
count_is f s is = ap (λ (t : FileTree). length t.nodes) is.tree

-- a declaration of the list is a package-level one
is_top : (f : File) (s : Source) (number : ℕ) (q : List ℕ) (m : NodeRef) → IsRead f s → IsListed f number f.locals.names.items q m → (m.file ≡ number) × IsTop s m.node q
is_top f s number q m is l = at (l.d.end == length f.tree.now.nodes) refl where
  at : (b : Bool) → (l.d.end == length f.tree.now.nodes) ≡ b → (m.file ≡ number) × IsTop s m.node q
  at false e = absurd (let x : None ≡ Some q = sym (ap (λ b. cond b (unless_init (name_in f.bytes.now f.tree.now l.d.node)) None) e) ∙ l.named in cc)
  at true e =
      let o : unless_init (name_in f.bytes.now f.tree.now l.d.node) ≡ Some q = sym (ap (λ b. cond b (unless_init (name_in f.bytes.now f.tree.now l.d.node)) None) e) ∙ l.named in
      let c = init_cases (name_in f.bytes.now f.tree.now l.d.node) q o in
      let named : name_of s l.d.node ≡ Some q = sym (names_are f s is l.d.node) ∙ c.0 in
      let within : l.d.node < length s.tree.nodes = name_low s l.d.node q named in
      let fit = is.fit in
      let node : l.d.node ≡ m.node = sym (narrow_low l.d.node (omega arith)) ∙ ap (λ (x : NodeRef). x.node) l.is in
      let end : l.d.end ≡ length f.tree.now.nodes = eqb→eq l.d.end (length f.tree.now.nodes) (subst (λ (x : Bool). T x) (sym e) tt) in (
        sym (ap (λ (x : NodeRef). x.file) l.is),
        (l.k, l.d, ap (λ x. slice_get x l.k) (sym is.locals.names) ∙ l.there, node, end ∙ count_is f s is, ap (λ n. name_of s n) (sym node) ∙ named, c.1),
      )

-- a package-level declaration is one of the list
top_is : (f : File) (s : Source) (number : ℕ) (q : List ℕ) (n : ℕ) → IsRead f s → IsTop s n q → Contains (tops_of f number f.locals.names.items) (q, ref number n)
top_is f s number q n is (k, d, there, node, end, named, not_init) =
    let e : (d.end == length f.tree.now.nodes) ≡ true = eq-eqb d.end (length f.tree.now.nodes) (end ∙ sym (count_is f s is)) in
    let o : unless_init (name_in f.bytes.now f.tree.now d.node) ≡ Some q = from_init (name_in f.bytes.now f.tree.now d.node) q (names_are f s is d.node ∙ (ap (λ x. name_of s x) node ∙ named)) not_init in
    let t : top_name f d ≡ Some q = ap (λ b. cond b (unless_init (name_in f.bytes.now f.tree.now d.node)) None) e ∙ o in
    subst (λ (x : ℕ). Contains (tops_of f number f.locals.names.items) (q, ref number x)) node
    (to_tops f number f.locals.names.items k d q (ap (λ x. slice_get x k) is.locals.names ∙ there) t)

-- the list of all files has the names of the package
pub package_has : (p : Sources) (fs : List File) → AreRead fs p.files → length fs < 4294967296 → (q : List ℕ) (m : NodeRef) → Contains (tops_before fs (length fs)) (q, m) → IsPackageName p m q
package_has p fs are few q m there = of_file (from_before fs (length fs) q m there) where
  source_at : (xs : List Source) (i : ℕ) → i < length xs → (s : Source) × (slice_get xs i ≡ Some s)
  source_at [] i low = absurd (omega arith)
  source_at (x ∷ xs) zero low = (x, refl)
  source_at (x ∷ xs) (suc i) low = source_at xs i (omega arith)

  of_file : IsListedAt fs (length fs) q m → IsPackageName p m q
  of_file l =
      let low = l.low in
      let (s, there_s) = source_at p.files l.i (let n = are.size in omega arith) in
      let (g, there_g, read) = are.each l.i s there_s in
      let same : g ≡ l.f = same_some (slice_get fs l.i) g l.f there_g l.file in
      let is : IsRead l.f s = subst (λ (x : File). IsRead x s) same read in
      let r = is_top l.f s (narrow l.i) q m is (from_tops l.f (narrow l.i) l.f.locals.names.items q m l.it) in
      let file : l.i ≡ m.file = sym (narrow_low l.i (omega arith)) ∙ sym r.0 in
      (s, ap (λ x. slice_get p.files x) (sym file) ∙ there_s, r.1)

pub has_package : (p : Sources) (fs : List File) → AreRead fs p.files → length fs < 4294967296 → (q : List ℕ) (m : NodeRef) → IsPackageName p m q → Contains (tops_before fs (length fs)) (q, m)
has_package p fs are few q m (s, there, top) =
    let (f, there_f, is) = are.each m.file s there in
    let low : m.file < length fs = slice_get_within fs m.file f there_f in
    let file : narrow m.file ≡ m.file = narrow_low m.file (omega arith) in
    let (k, d, there_d, node, end, named, not_init) = top in
    let within : m.node < length s.tree.nodes = name_low s m.node q named in
    let fit = is.fit in
    let same : ref (narrow m.file) m.node ≡ m = ref_same (ref (narrow m.file) m.node) m file (narrow_low m.node (omega arith)) in
    to_before fs (length fs) m.file f q m low there_f (subst (λ (x : NodeRef). Contains (tops_of f (narrow m.file) f.locals.names.items) (q, x)) same (top_is f s (narrow m.file) q m.node is top))
