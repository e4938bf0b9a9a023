-- Two answers for the same files and heads are one.
use Rattle.std.proofs.Common.{◌≡◌, ℕ, suc, ◌<◌, inl, inr, true, false, Option, Some, List, [], ◌∷◌, length, map, slice_get, slice_index_or, refl, ap, sym, ◌∙◌, subst, arith}
use Rattle.std.specs.List.{AllPairs, Contains}
use Rattle.std.proofs.lemmas.List.{length-map}
use Rattle.std.proofs.lemmas.List.Kept.{AllPairs-from_increasing}
use Rattle.std.proofs.lemmas.Option.{slice_get-get_or, slice_get_within, get_or_from_slice_get}
use Rattle.gv_base.specs.Files.{Entry, is_before}
use Rattle.gv_base.proofs.FileLemmas.{before-flip}
use Rattle.go_tree.specs.declared.head.Head.{Head}
use Rattle.import_graph.specs.Packages.{files_of, is_stub_path, is_broken, imports_path, paths_of, Imports, IsCyclic, IsStateOf, IsImport, IsPackage, ArePackages}
use Rattle.import_graph.specs.declared.pack.Package.{Package}
use Rattle.import_graph.specs.declared.pack.PackState.{PackState}
use Rattle.import_graph.specs.declared.pack.PackState.TheVariants.{Broken, NameClash, MissingImport, ImportCycle, Sound}
use Rattle.import_graph.proofs.ListLemmas.{same-list, get-map, map-get}
use Rattle.import_graph.proofs.OrderLemmas.{path-as, contains-cases, contains-head, contains-tail}
use Rattle.import_graph.proofs.PackageLemmas.{state-as}

get-contains : {A : Type 0} (xs : List A) (k : ℕ) (x : A) → slice_get xs k ≡ Some x → Contains xs x
get-contains xs k x e = (k, slice_get_within xs k x e, get_or_from_slice_get xs k x x e)

contains-get : {A : Type 0} (xs : List A) (x : A) → Contains xs x → (k : ℕ) × (slice_get xs k ≡ Some x)
contains-get xs x (k, l, e) = (k, slice_get-get_or xs k x l ∙ ap Some e)

head-first : {A : Type 0} (R : A → A → Type 0) (x : A) (xs : List A) (z : A) → AllPairs R (x ∷ xs) → Contains xs z → R x z
head-first R x xs z order (k, l, e) = subst (R x) e (order 0 (suc k) z (omega arith) (omega (arith, l)))

tail-order : {A : Type 0} (R : A → A → Type 0) (x : A) (xs : List A) → AllPairs R (x ∷ xs) → AllPairs R xs
tail-order R x xs order i j d lt within = order (suc i) (suc j) d (omega (arith, lt)) (omega (arith, within))

first-same : {A : Type 0} (R : A → A → Type 0) → ((x y : A) → R x y → R y x → ⊥) → (x y : A) (xs ys : List A) → AllPairs R (x ∷ xs) → AllPairs R (y ∷ ys) → Contains (y ∷ ys) x → Contains (x ∷ xs) y → x ≡ y
first-same R asym x y xs ys one two a b = elim (contains-cases y ys x a) [
  | inl e ↦ sym e
  | inr c ↦ elim (contains-cases x xs y b) [ inl e ↦ e | inr d ↦ absurd (asym x y (head-first R x xs y one d) (head-first R y ys x two c)) ]
]

rest-same : {A : Type 0} (R : A → A → Type 0) → ((x y : A) → R x y → R y x → ⊥) → (x y : A) (xs ys : List A) → x ≡ y → AllPairs R (x ∷ xs) → ((z : A) → Contains (x ∷ xs) z → Contains (y ∷ ys) z) → (z : A) → Contains xs z → Contains ys z
rest-same R asym x y xs ys e one into z c = elim (contains-cases y ys z (into z (contains-tail x xs z c))) [
  | inl f ↦ absurd (let r : R x x = subst (R x) (sym (e ∙ f)) (head-first R x xs z one c) in asym x x r r)
  | inr d ↦ d
]

-- two lists in order with the same members are one
one-list : {A : Type 0} (R : A → A → Type 0) → ((x y : A) → R x y → R y x → ⊥) → (xs ys : List A) → AllPairs R xs → AllPairs R ys → ((z : A) → Contains xs z → Contains ys z) → ((z : A) → Contains ys z → Contains xs z) → xs ≡ ys
one-list R asym [] [] one two to back = refl
one-list R asym [] (y ∷ ys) one two to back = absurd (let l = (back y (contains-head y ys)).1 in omega (arith, l))
one-list R asym (x ∷ xs) [] one two to back = absurd (let l = (to x (contains-head x xs)).1 in omega (arith, l))
one-list R asym (x ∷ xs) (y ∷ ys) one two to back =
    let e : x ≡ y = first-same R asym x y xs ys one two (to x (contains-head x xs)) (back y (contains-head y ys)) in
    ap (λ t. t ∷ xs) e ∙ ap (λ t. y ∷ t)
    (one-list R asym xs ys (tail-order R x xs one) (tail-order R y ys two) (rest-same R asym x y xs ys e one to) (rest-same R asym y x ys xs (sym e) two back))

order-map : {A B : Type 0} (R : B → B → Type 0) (f : A → B) (xs : List A) → AllPairs (λ x y. R (f x) (f y)) xs → AllPairs R (map f xs)
order-map R f xs order i j d lt within =
    let low : i < length (map f xs) = omega (arith, lt, within) in
    let p = map-get f xs i (slice_index_or (map f xs) i d) (slice_get-get_or (map f xs) i d low) in
    let q = map-get f xs j (slice_index_or (map f xs) j d) (slice_get-get_or (map f xs) j d within) in
    let l = slice_get_within xs j q.0 q.1 in
    let r : R (f (slice_index_or xs i p.0)) (f (slice_index_or xs j p.0)) = order i j p.0 lt l in
    subst (λ t. R t (slice_index_or (map f xs) j d)) (ap f (get_or_from_slice_get xs i p.0 p.0 p.1) ∙ p.2)
    (subst (λ t. R (f (slice_index_or xs i p.0)) t) (ap f (get_or_from_slice_get xs j q.0 p.0 q.1) ∙ q.2) r)

before-asym : (p q : List ℕ) → is_before p q ≡ true → is_before q p ≡ true → ⊥
before-asym p q h g = let e : true ≡ false = sym g ∙ before-flip p q h in cc

less-asym : (m n : ℕ) → m < n → n < m → ⊥
less-asym m n l h = omega (arith, l, h)

clashing : true ≡ false → ⊥
clashing e = cc

-- a state is determined
same-state : (C : Type 0) (heads : List (Option Head)) (paths : List (List ℕ)) (files : List ℕ) (s t : PackState) → IsStateOf C heads paths files s → IsStateOf C heads paths files t → s ≡ t
same-state C heads paths files Broken Broken h i = refl
same-state C heads paths files Broken (NameClash q) h i = absurd (clashing (sym h ∙ i.0))
same-state C heads paths files Broken (MissingImport q) h i = absurd (clashing (sym h ∙ i.0))
same-state C heads paths files Broken ImportCycle h i = absurd (clashing (sym h ∙ i.0.parsed))
same-state C heads paths files Broken Sound h i = absurd (clashing (sym h ∙ i.0.parsed))
same-state C heads paths files (NameClash p) Broken h i = absurd (clashing (sym i ∙ h.0))
same-state C heads paths files (NameClash p) (NameClash q) h i = ap NameClash (h.1 ∙ sym i.1)
same-state C heads paths files (NameClash p) (MissingImport q) h i = absurd (h.2 (h.1 ∙ i.1))
same-state C heads paths files (NameClash p) ImportCycle h i = absurd (h.2 (h.1 ∙ i.0.agree))
same-state C heads paths files (NameClash p) Sound h i = absurd (h.2 (h.1 ∙ i.0.agree))
same-state C heads paths files (MissingImport p) Broken h i = absurd (clashing (sym i ∙ h.0))
same-state C heads paths files (MissingImport p) (NameClash q) h i = absurd (i.2 (i.1 ∙ h.1))
same-state C heads paths files (MissingImport p) (MissingImport q) h i = ap MissingImport (h.2 ∙ sym i.2)
same-state C heads paths files (MissingImport p) ImportCycle h i = absurd (h.3 (h.2 ∙ i.0.found))
same-state C heads paths files (MissingImport p) Sound h i = absurd (h.3 (h.2 ∙ i.0.found))
same-state C heads paths files ImportCycle Broken h i = absurd (clashing (sym i ∙ h.0.parsed))
same-state C heads paths files ImportCycle (NameClash q) h i = absurd (i.2 (i.1 ∙ h.0.agree))
same-state C heads paths files ImportCycle (MissingImport q) h i = absurd (i.3 (i.2 ∙ h.0.found))
same-state C heads paths files ImportCycle ImportCycle h i = refl
same-state C heads paths files ImportCycle Sound h i = absurd (i.1 h.1)
same-state C heads paths files Sound Broken h i = absurd (clashing (sym i ∙ h.0.parsed))
same-state C heads paths files Sound (NameClash q) h i = absurd (i.2 (i.1 ∙ h.0.agree))
same-state C heads paths files Sound (MissingImport q) h i = absurd (i.3 (i.2 ∙ h.0.found))
same-state C heads paths files Sound ImportCycle h i = absurd (h.1 i.1)
same-state C heads paths files Sound Sound h i = refl

same-package : (p q : Package) → p.path ≡ q.path → p.stub ≡ q.stub → p.files ≡ q.files → p.imports ≡ q.imports → p.state ≡ q.state → p ≡ q
same-package p q a b c d e =
    ap (λ t. record { path = t; stub = p.stub; files = p.files; imports = p.imports; state = p.state }) a
    ∙ ap (λ t. record { path = q.path; stub = t; files = p.files; imports = p.imports; state = p.state }) b
    ∙ ap (λ t. record { path = q.path; stub = q.stub; files = t; imports = p.imports; state = p.state }) c
    ∙ ap (λ t. record { path = q.path; stub = q.stub; files = q.files; imports = t; state = p.state }) d
    ∙ ap (λ t. record { path = q.path; stub = q.stub; files = q.files; imports = q.imports; state = t }) e

paths-in : (tree : List Entry) (heads : List (Option Head)) (one two : List Package) → ArePackages tree heads one → ArePackages tree heads two → (path : List ℕ) → Contains (paths_of one) path → Contains (paths_of two) path
paths-in tree heads one two a b path has =
    let g = contains-get (paths_of one) path has in
    let p = map-get (λ (p : Package). p.path) one g.0 path g.1 in
    let is = a.each g.0 p.0 p.1 in
    b.every path (λ none. is.some (is.files ∙ ap (files_of tree) p.2 ∙ none))

same-paths : (tree : List Entry) (heads : List (Option Head)) (one two : List Package) → ArePackages tree heads one → ArePackages tree heads two → paths_of one ≡ paths_of two
same-paths tree heads one two a b =
    one-list (λ p q. is_before p q ≡ true) before-asym (paths_of one) (paths_of two)
    (order-map (λ p q. is_before p q ≡ true) (λ p. p.path) one a.order) (order-map (λ p q. is_before p q ≡ true) (λ p. p.path) two b.order)
    (paths-in tree heads one two a b) (paths-in tree heads two one b a)

-- the package of the same place in the other answer
other-at : (one two : List Package) → paths_of one ≡ paths_of two → (k : ℕ) (p : Package) → slice_get one k ≡ Some p → (q : Package) × (slice_get two k ≡ Some q) × (q.path ≡ p.path)
other-at one two same k p at = map-get (λ (p : Package). p.path) two k p.path (ap (λ t. slice_get t k) (sym same) ∙ get-map (λ (p : Package). p.path) one k p at)

same-files : (tree : List Entry) (heads : List (Option Head)) (one two : List Package) (k : ℕ) (p q : Package) → IsPackage tree heads one k p → IsPackage tree heads two k q → q.path ≡ p.path → p.files ≡ q.files
same-files tree heads one two k p q a b e = a.files ∙ ap (files_of tree) (sym e) ∙ sym b.files

import-in : (heads : List (Option Head)) (one two : List Package) (files more : List ℕ) → paths_of one ≡ paths_of two → files ≡ more → (n : ℕ) → IsImport heads one files n → IsImport heads two more n
import-in heads one two files more same e n (whole, (q, at, told)) =
    let r = other-at one two same n q at in
    (subst (λ f. is_broken heads f ≡ false) e whole, (r.0, r.1, subst (λ f. imports_path heads f r.0.path ≡ true) e (ap (imports_path heads files) r.2 ∙ told)))

same-imports : (tree : List Entry) (heads : List (Option Head)) (one two : List Package) (k : ℕ) (p q : Package) → paths_of one ≡ paths_of two → IsPackage tree heads one k p → IsPackage tree heads two k q → q.path ≡ p.path → p.imports ≡ q.imports
same-imports tree heads one two k p q same a b e =
    let f : p.files ≡ q.files = same-files tree heads one two k p q a b e in
    one-list (λ m n. m < n) less-asym p.imports q.imports (AllPairs-from_increasing p.imports a.rising) (AllPairs-from_increasing q.imports b.rising)
    (λ n has. (b.imports n).1 (import-in heads one two p.files q.files same f n ((a.imports n).0 has)))
    (λ n has. (a.imports n).1 (import-in heads two one q.files p.files (sym same) (sym f) n ((b.imports n).0 has)))

imports-in : (tree : List Entry) (heads : List (Option Head)) (one two : List Package) → ArePackages tree heads one → ArePackages tree heads two → paths_of one ≡ paths_of two → (m n : ℕ) → Imports one m n → Imports two m n
imports-in tree heads one two a b same m n (p, at, has) =
    let r = other-at one two same m p at in
    (r.0, r.1, subst (λ t. Contains t n) (same-imports tree heads one two m p r.0 same (a.each m p at) (b.each m r.0 r.1) r.2) has)

cyclic-in : (tree : List Entry) (heads : List (Option Head)) (one two : List Package) → ArePackages tree heads one → ArePackages tree heads two → paths_of one ≡ paths_of two → (k : ℕ) → IsCyclic one k → IsCyclic two k
cyclic-in tree heads one two a b same k l = (l.0, path-as (Imports one) (Imports two) (imports-in tree heads one two a b same) l.0 k k l.1)

same-at : (tree : List Entry) (heads : List (Option Head)) (one two : List Package) → ArePackages tree heads one → ArePackages tree heads two → (k : ℕ) (p : Package) → slice_get one k ≡ Some p → slice_get two k ≡ Some p
same-at tree heads one two a b k p at =
    let same = same-paths tree heads one two a b in
    let r = other-at one two same k p at in
    let q = r.0 in
    let x = a.each k p at in
    let y = b.each k q r.1 in
    let f : q.files ≡ p.files = sym (same-files tree heads one two k p q x y r.2) in
    let s : IsStateOf (IsCyclic one k) heads (paths_of one) p.files q.state =
    subst (λ t. IsStateOf (IsCyclic one k) heads t p.files q.state) (sym same) (subst (λ t. IsStateOf (IsCyclic one k) heads (paths_of two) t q.state) f
    (state-as (IsCyclic two k) (IsCyclic one k) (cyclic-in tree heads two one b a (sym same) k) (cyclic-in tree heads one two a b same k) heads (paths_of two) q.files q.state y.state)) in
    r.1 ∙ ap Some (same-package q p r.2 (y.stub ∙ ap (is_stub_path tree) r.2 ∙ sym x.stub) f (sym (same-imports tree heads one two k p q same x y r.2))
    (same-state (IsCyclic one k) heads (paths_of one) p.files q.state p.state s x.state))

pub one-answer : (tree : List Entry) (heads : List (Option Head)) (one two : List Package) → ArePackages tree heads one → ArePackages tree heads two → one ≡ two
one-answer tree heads one two a b =
    same-list one two (sym (length-map one (λ (p : Package). p.path)) ∙ ap length (same-paths tree heads one two a b) ∙ length-map two (λ (p : Package). p.path)) (same-at tree heads one two a b)
