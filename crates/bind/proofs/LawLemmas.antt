-- A use denotes at most one object.
use Rattle.std.proofs.Common.{◌≡◌, ℕ, zero, suc, ◌≤◌, ◌&&◌, ◌||◌, List, [], ◌∷◌, Bool, true, false, not, Option, Some, length, slice_get, refl, sym, ap, ◌∙◌, subst, inl, inr, arith}
use Rattle.std.specs.List.{list_any}
use Rattle.std.specs.Str.{bytes_eq}
use Rattle.std.proofs.lemmas.Slice.Eq.{bytes_eq-Decides}
use Rattle.go_tree.specs.declared.bindings.Object.{Object}
use Rattle.go_tree.specs.declared.bindings.Object.TheVariants.{Universe, Import, Local, Package}
use Rattle.go_tree.specs.declared.tree.NodeRef.{NodeRef}
use Rattle.scopes.specs.declared.scope.Named.{Named}
use Rattle.gv_base.proofs.Lists.{same_some}
use Rattle.file_uses.specs.Locals.{IsLocal}
use Rattle.bind.specs.Denoting.{IsInnermost, IsUndeclared, DenotesBy, Denotes}
use Rattle.bind.specs.Regions.{Region, Everywhere, OfFile, Nodes, Within, HasRegion, IsLocalName, IsFirstOfPackage, IsFirstImport}
use Rattle.bind.specs.Sources.{Source, Sources, name_of, names_in, path_at}
use Rattle.bind.specs.Universe.{predeclared}
use Rattle.bind.proofs.Orders.{nat_order, ref_same, ref_order}

-- ---- two declarations with one region

pub one_local : (name : ℕ → Option (List ℕ)) (total : ℕ) (ds : List Named) (j k : ℕ) (d e : Named) → IsLocal name total ds j d → IsLocal name total ds k e
    → d.end ≡ e.end → name d.node ≡ name e.node → d ≡ e
one_local name total ds j k d e a b end same = elim (nat_order j k) [
  | inl low ↦ absurd (b.1 (j, d, low, a.0, end, same))
  | inr other ↦ elim other [
    | inl is ↦ same_some (slice_get ds j) d e a.0 (ap (λ x. slice_get ds x) is ∙ b.0)
    | inr high ↦ absurd (a.1 (k, e, high, b.0, sym end, sym same))
  ]
]

within_is : (r s a b : Region) → r ≡ a → s ≡ b → Within r s → Within a b
within_is r s a b e f w = subst (λ (x : Region). Within x b) e (subst (λ (x : Region). Within r x) f w)

two_locals : (p : Sources) (m n : NodeRef) (name : List ℕ) (r s : Region) → IsLocalName p m name r → IsLocalName p n name s → Within r s → Within s r → m ≡ n
two_locals p m n name r s a b v w =
    let one : (m.file ≡ n.file) × (b.d.start ≤ a.d.start) × (a.d.end ≤ b.d.end) = within_is r s (Nodes m.file a.d.start a.d.end) (Nodes n.file b.d.start b.d.end) a.region b.region v in
    let two : (n.file ≡ m.file) × (a.d.start ≤ b.d.start) × (b.d.end ≤ a.d.end) = within_is s r (Nodes n.file b.d.start b.d.end) (Nodes m.file a.d.start a.d.end) b.region a.region w in
    let src : a.src ≡ b.src = same_some (slice_get p.files m.file) a.src b.src a.file (ap (λ x. slice_get p.files x) one.0 ∙ b.file) in
    let local : IsLocal (name_of a.src) (length a.src.tree.nodes) (names_in a.src) b.k b.d = subst (λ (x : Source). IsLocal (name_of x) (length x.tree.nodes) (names_in x) b.k b.d) (sym src) b.local in
    let named : name_of a.src b.d.node ≡ Some name = ap (λ (x : Source). name_of x b.d.node) src ∙ b.named in
    let end : a.d.end ≡ b.d.end = (let x = one.2 in let y = two.2 in omega arith) in
    let it : a.d ≡ b.d = one_local (name_of a.src) (length a.src.tree.nodes) (names_in a.src) a.k b.k a.d b.d a.local local end (a.named ∙ sym named) in
    ref_same m n one.0 (sym a.node ∙ (ap (λ (x : Named). x.node) it ∙ b.node))

two_packages : (p : Sources) (m n : NodeRef) (name : List ℕ) (r s : Region) → IsFirstOfPackage p m name r → IsFirstOfPackage p n name s → m ≡ n
two_packages p m n name r s a b = elim (ref_order (path_at p) m n) [
  | inl earlier ↦ absurd (b.first m a.named earlier)
  | inr other ↦ elim other [ inl same ↦ same | inr later ↦ absurd (a.first n b.named later) ]
]

two_imports : (p : Sources) (m n : NodeRef) (name : List ℕ) (r s : Region) → IsFirstImport p m name r → IsFirstImport p n name s → Within r s → m ≡ n
two_imports p m n name r s a b w =
    let file : m.file ≡ n.file = within_is r s (OfFile m.file) (OfFile n.file) a.region b.region w in
    elim (nat_order m.node n.node) [
      | inl low ↦ absurd (b.first m file a.named low)
      | inr other ↦ elim other [ inl node ↦ ref_same m n file node | inr high ↦ absurd (a.first n (sym file) b.named high) ]
    ]

one_region : (p : Sources) (name : List ℕ) (o other : Object) (r s : Region) → HasRegion p o name r → HasRegion p other name s → Within r s → Within s r → o ≡ other
one_region p name (Universe i) other r s a b v w = absurd a
one_region p name (Local m) (Universe j) r s a b v w = absurd b
one_region p name (Local m) (Local n) r s a b v w = ap (λ x. Local x) (two_locals p m n name r s a b v w)
one_region p name (Local m) (Package n) r s a b v w = absurd (within_is s r Everywhere (Nodes m.file a.d.start a.d.end) b.region a.region w)
one_region p name (Local m) (Import n) r s a b v w = absurd (within_is s r (OfFile n.file) (Nodes m.file a.d.start a.d.end) b.region a.region w)
one_region p name (Package m) (Universe j) r s a b v w = absurd b
one_region p name (Package m) (Local n) r s a b v w = absurd (within_is r s Everywhere (Nodes n.file b.d.start b.d.end) a.region b.region v)
one_region p name (Package m) (Package n) r s a b v w = ap (λ x. Package x) (two_packages p m n name r s a b)
one_region p name (Package m) (Import n) r s a b v w = absurd (b.own m a.named)
one_region p name (Import m) (Universe j) r s a b v w = absurd b
one_region p name (Import m) (Local n) r s a b v w = absurd (within_is r s (OfFile m.file) (Nodes n.file b.d.start b.d.end) a.region b.region v)
one_region p name (Import m) (Package n) r s a b v w = absurd (a.own n b.named)
one_region p name (Import m) (Import n) r s a b v w = ap (λ x. Import x) (two_imports p m n name r s a b v)

two_inner : (p : Sources) (at : NodeRef) (name : List ℕ) (o other : Object) → IsInnermost p at name o → IsInnermost p at name other → o ≡ other
two_inner p at name o other a b = one_region p name o other a.region b.region a.has b.has (a.smallest other b.region b.has b.holds) (b.smallest o a.region a.has a.holds)

not_both : (p : Sources) (at : NodeRef) (name : List ℕ) (o : Object) → IsUndeclared p at name → IsInnermost p at name o → ⊥
not_both p at name o none a = none o a.region a.has a.holds

-- ---- the predeclared names

abbrev pub distinct : List (List ℕ) → Bool
distinct [] = true
distinct (x ∷ xs) = not (list_any (λ y. bytes_eq x y) xs) && distinct xs

all_distinct : distinct predeclared ≡ true
all_distinct = refl

some_same : (a b : List ℕ) → Some a ≡ Some b → a ≡ b
some_same a b e = cc

or_true : (b : Bool) → (b || true) ≡ true
or_true true = refl
or_true false = refl

and_right : (a b : Bool) → (a && b) ≡ true → b ≡ true
and_right true b e = e
and_right false b e = absurd (cc)

among : (xs : List (List ℕ)) (x : List ℕ) (i : ℕ) → slice_get xs i ≡ Some x → list_any (λ y. bytes_eq x y) xs ≡ true
among [] x i e = absurd (cc)
among (y ∷ xs) x zero e = ap (λ b. b || list_any (λ z. bytes_eq x z) xs) ((bytes_eq-Decides x y).1 (sym (some_same y x e)))
among (y ∷ xs) x (suc i) e = ap (λ b. bytes_eq x y || b) (among xs x i e) ∙ or_true (bytes_eq x y)

apart : (xs : List (List ℕ)) (y : List ℕ) → distinct (y ∷ xs) ≡ true → list_any (λ z. bytes_eq y z) xs ≡ true → ⊥
apart xs y d e = let f : false ≡ true = sym (ap (λ b. not b && distinct xs) e) ∙ d in cc

one_place : (xs : List (List ℕ)) (i j : ℕ) (x : List ℕ) → distinct xs ≡ true → slice_get xs i ≡ Some x → slice_get xs j ≡ Some x → i ≡ j
one_place [] i j x d e f = absurd (cc)
one_place (y ∷ xs) zero zero x d e f = refl
one_place (y ∷ xs) zero (suc j) x d e f = absurd (apart xs y d (among xs y j (f ∙ sym e)))
one_place (y ∷ xs) (suc i) zero x d e f = absurd (apart xs y d (among xs y i (e ∙ sym f)))
one_place (y ∷ xs) (suc i) (suc j) x d e f = ap (λ n. suc n) (one_place xs i j x (and_right (not (list_any (λ z. bytes_eq y z) xs)) (distinct xs) d) e f)

-- ---- one object

pub one_object : (p : Sources) (at : NodeRef) (name : List ℕ) (o other : Object) → DenotesBy p at name o → DenotesBy p at name other → o ≡ other
one_object p at name (Universe i) (Universe j) a b = ap (λ x. Universe x) (one_place predeclared i j name all_distinct a.0 b.0)
one_object p at name (Universe i) (Local n) a b = absurd (not_both p at name (Local n) a.1 b)
one_object p at name (Universe i) (Package n) a b = absurd (not_both p at name (Package n) a.1 b)
one_object p at name (Universe i) (Import n) a b = absurd (not_both p at name (Import n) a.1 b)
one_object p at name (Local m) (Universe j) a b = absurd (not_both p at name (Local m) b.1 a)
one_object p at name (Local m) (Local n) a b = two_inner p at name (Local m) (Local n) a b
one_object p at name (Local m) (Package n) a b = two_inner p at name (Local m) (Package n) a b
one_object p at name (Local m) (Import n) a b = two_inner p at name (Local m) (Import n) a b
one_object p at name (Package m) (Universe j) a b = absurd (not_both p at name (Package m) b.1 a)
one_object p at name (Package m) (Local n) a b = two_inner p at name (Package m) (Local n) a b
one_object p at name (Package m) (Package n) a b = two_inner p at name (Package m) (Package n) a b
one_object p at name (Package m) (Import n) a b = two_inner p at name (Package m) (Import n) a b
one_object p at name (Import m) (Universe j) a b = absurd (not_both p at name (Import m) b.1 a)
one_object p at name (Import m) (Local n) a b = two_inner p at name (Import m) (Local n) a b
one_object p at name (Import m) (Package n) a b = two_inner p at name (Import m) (Package n) a b
one_object p at name (Import m) (Import n) a b = two_inner p at name (Import m) (Import n) a b

pub one_denoted : (p : Sources) (at : NodeRef) (o other : Object) → Denotes p at o → Denotes p at other → o ≡ other
one_denoted p at o other a b =
    let src : a.src ≡ b.src = same_some (slice_get p.files at.file) a.src b.src a.file b.file in
    let name : b.name ≡ a.name = some_same b.name a.name (sym b.used.0 ∙ (ap (λ (x : Source). name_of x at.node) (sym src) ∙ a.used.0)) in
    one_object p at a.name o other a.denotes (subst (λ (x : List ℕ). DenotesBy p at x other) name b.denotes)
