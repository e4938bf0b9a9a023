-- The uses in the files of a package, each with what it denotes.
use Rattle.std.proofs.Common.{◌≡◌, ℕ, zero, suc, ◌<◌, ◌≤◌, ◌⊎◌, List, [], ◌∷◌, ◌++◌, Option, Some, None, length, slice_get, refl, sym, ap, ◌∙◌, subst, inl, inr, arith, append_assoc}
use Rattle.std.specs.List.{Contains}
use Rattle.std.proofs.lemmas.List.{append-nil}
use Rattle.std.proofs.lemmas.List.Elements.{Contains-push, Contains-push_cases, Contains-append_left}
use Rattle.std.proofs.lemmas.Option.{slice_get_within}
use Rattle.gv_base.specs.Files.{is_before}
use Rattle.go_tree.specs.Bindings.{IsBefore, AreInOrder}
use Rattle.go_tree.specs.Head.{import_line}
use Rattle.go_tree.specs.declared.bindings.Object.{Object}
use Rattle.go_tree.specs.declared.tree.FileTree.{FileTree}
use Rattle.go_tree.specs.declared.tree.NodeRef.{NodeRef}
use Rattle.gv_base.proofs.Lists.{same_some}
use Rattle.bind.specs.Answers.{IsRead, AreRead, AreFit, Tables, answer_of, entry, uses_before}
use Rattle.bind.specs.Collected.{imports_of, AreUsesAt, AreUsesTo}
use Rattle.bind.specs.Denoting.{IsAnswer, Denotes, AreBindings}
use Rattle.bind.specs.Imports.{specs_in, line_name, IsImportName}
use Rattle.bind.specs.Package.{narrow, ref, tops_before}
use Rattle.bind.specs.Places.{place_from}
use Rattle.bind.specs.Sources.{Source, Sources, path_at}
use Rattle.bind.specs.Sources as sources
use Rattle.bind.specs.Tables.{path_of, path_in, IsEarlierBy, IsEarliestOf, IsEarliest}
use Rattle.bind.specs.Universe.{predeclared}
use Rattle.bind.specs.declared.file.File.{File}
use Rattle.bind.proofs.AnswerLemmas.{IsTopOf, IsImportOf, AreTables, answered, narrow_low, name_low}
use Rattle.bind.proofs.ImportLemmas.{from_imported, to_imported}
use Rattle.bind.proofs.LawLemmas.{one_denoted}
use Rattle.bind.proofs.Orders.{nat_order, ref_same}
use Rattle.bind.proofs.PackageLemmas.{package_has, has_package}

abbrev Use : Type 0
Use = NodeRef × Object

-- ---- the order of uses

-- the uses are in order, and all stand before the node
pub record StandBefore (f n : ℕ) (uses : List Use) : Type 0 where
  pub ordered : AreInOrder uses
  pub low : (k : ℕ) (a : Use) → slice_get uses k ≡ Some a → (a.0.file < f) ⊎ ((a.0.file ≡ f) × (a.0.node < n))

pub none_stand : (f n : ℕ) → StandBefore f n []
none_stand f n = record { ordered = λ j k a b low is_a is_b. absurd (cc); low = λ k a is. absurd (cc) }

last_or_before : (uses : List Use) (x u : Use) (k : ℕ) → slice_get (uses ++ x ∷ []) k ≡ Some u → (slice_get uses k ≡ Some u) ⊎ ((k ≡ length uses) × (x ≡ u))
last_or_before [] x u zero e = inr (refl, it x u e) where
  it : (x u : Use) → Some x ≡ Some u → x ≡ u
  it x u e = cc
last_or_before [] x u (suc k) e = absurd (cc)
last_or_before (y ∷ uses) x u zero e = inl e
last_or_before (y ∷ uses) x u (suc k) e = elim (last_or_before uses x u k e) [ inl before ↦ inl before | inr last ↦ inr (ap (λ n. suc n) last.0, last.1) ]

-- one more node, that of the number n
one_stands : (f n : ℕ) (uses : List Use) (x : Use) → StandBefore f n uses → x.0.file ≡ f → x.0.node ≡ n → StandBefore f (suc n) (uses ++ x ∷ [])
one_stands f n uses x was file node = record {
  ordered = λ j k a b low is_a is_b. in_order j k a b low (last_or_before uses x a j is_a) (last_or_before uses x b k is_b);
  low = λ k a is. is_low k a (last_or_before uses x a k is);
} where
  is_low : (k : ℕ) (a : Use) → (slice_get uses k ≡ Some a) ⊎ ((k ≡ length uses) × (x ≡ a)) → (a.0.file < f) ⊎ ((a.0.file ≡ f) × (a.0.node < suc n))
  is_low k a (inl before) = elim (was.low k a before) [ inl low ↦ inl low | inr here ↦ inr (here.0, let l = here.1 in omega arith) ]
  is_low k a (inr (at, same)) =
      inr (ap (λ (y : Use). y.0.file) (sym same) ∙ file, let e : a.0.node ≡ n = ap (λ (y : Use). y.0.node) (sym same) ∙ node in omega arith)

  before_x : (k : ℕ) (a b : Use) → slice_get uses k ≡ Some a → x ≡ b → IsBefore a.0 b.0
  before_x k a b is same =
      let e : b.0.file ≡ f = ap (λ (y : Use). y.0.file) (sym same) ∙ file in
      let g : b.0.node ≡ n = ap (λ (y : Use). y.0.node) (sym same) ∙ node in
      elim (was.low k a is) [ inl low ↦ inl (omega arith) | inr here ↦ inr (here.0 ∙ sym e, let l = here.1 in omega arith) ]

  in_order : (j k : ℕ) (a b : Use) → j < k → (slice_get uses j ≡ Some a) ⊎ ((j ≡ length uses) × (x ≡ a)) → (slice_get uses k ≡ Some b) ⊎ ((k ≡ length uses) × (x ≡ b)) → IsBefore a.0 b.0
  in_order j k a b low (inl one) (inl two) = was.ordered j k a b low one two
  in_order j k a b low (inl one) (inr two) = before_x j a b one two.1
  in_order j k a b low (inr one) (inl two) = absurd (let h = slice_get_within uses k b two in let e = one.0 in omega arith)
  in_order j k a b low (inr one) (inr two) = absurd (let d = one.0 in let e = two.0 in omega arith)

entry_stands : (f n : ℕ) (uses : List Use) (at : NodeRef) (o : Option Object) → StandBefore f n uses → at.file ≡ f → at.node ≡ n → StandBefore f (suc n) (uses ++ entry at o)
entry_stands f n uses at None was file node = subst (λ (x : List Use). StandBefore f (suc n) x) (sym (append-nil uses)) (record {
  ordered = was.ordered;
  low = λ k a is. elim (was.low k a is) [ inl low ↦ inl low | inr here ↦ inr (here.0, let l = here.1 in omega arith) ];
})
entry_stands f n uses at (Some o) was file node = one_stands f n uses (at, o) was file node

-- the uses of a file, behind those of the files before
file_stands : (f : File) (number : ℕ) (t : Tables) (was : List Use) (n : ℕ) → n ≤ 4294967296 → StandBefore number 0 was → StandBefore number n (was ++ uses_before f number t n)
file_stands f number t was zero low before = subst (λ (x : List Use). StandBefore number 0 x) (sym (append-nil was)) before
file_stands f number t was (suc n) low before =
    subst (λ (x : List Use). StandBefore number (suc n) x) (append_assoc was (uses_before f number t n) (entry (ref number n) (answer_of f number t n)))
    (entry_stands number n (was ++ uses_before f number t n) (ref number n) (answer_of f number t n) (file_stands f number t was n (omega arith) before) refl (narrow_low n (omega arith)))

next_file : (f n : ℕ) (uses : List Use) → StandBefore f n uses → StandBefore (suc f) 0 uses
next_file f n uses was = record {
  ordered = was.ordered;
  low = λ k a is. elim (was.low k a is) [ inl low ↦ inl (omega arith) | inr here ↦ inl (let e = here.0 in omega arith) ];
}

pub all_stand : (fs : List File) (named : List (List ℕ × List ℕ)) (top_names : List ℕ → Option NodeRef) (universe : List ℕ → Option ℕ) (n : ℕ) (uses : List Use)
    → n < 4294967296 → AreFit fs → AreUsesTo fs named top_names universe n uses → StandBefore n 0 uses
all_stand fs named top_names universe zero uses few fit is = subst (λ (x : List Use). StandBefore 0 0 x) (sym is) (none_stand 0 0)
all_stand fs named top_names universe (suc n) uses few fit (front, before, here) = one (slice_get fs n) refl (all_stand fs named top_names universe n front (omega arith) fit before) here where
  one : (o : Option File) → slice_get fs n ≡ o → StandBefore n 0 front → AreUsesAt fs named top_names universe (narrow n) o front uses → StandBefore (suc n) 0 uses
  one None e was same = next_file n 0 uses (subst (λ (x : List Use). StandBefore n 0 x) same was)
  one (Some f) e was adds =
      let number : narrow n ≡ n = narrow_low n (omega arith) in
      let t : Tables = record { top_names = top_names; imports = adds.uses.imports; universe = universe } in
      let stands : StandBefore (narrow n) (length f.tree.now.nodes) (front ++ uses_before f (narrow n) t (length f.tree.now.nodes)) =
      file_stands f (narrow n) t front (length f.tree.now.nodes) (let h = fit n f e in omega arith) (subst (λ (x : ℕ). StandBefore x 0 front) (sym number) was) in
      let same : uses ≡ front ++ uses_before f (narrow n) t (length f.tree.now.nodes) = adds.added ∙ ap (λ x. front ++ x) adds.uses.are in
      next_file n (length f.tree.now.nodes) uses (subst (λ (x : ℕ). StandBefore x (length f.tree.now.nodes) uses) number (subst (λ (x : List Use). StandBefore (narrow n) (length f.tree.now.nodes) x) (sym same) stands))

-- ---- what the uses denote

abbrev Stands : ℕ → ℕ → NodeRef → Type 0
Stands f n at = (at.file < f) ⊎ ((at.file ≡ f) × (at.node < n))

-- the list has the uses that stand before the node, and nothing else
pub record Told (p : Sources) (f n : ℕ) (uses : List Use) : Type 0 where
  pub right : (at : NodeRef) (o : Object) → Contains uses (at, o) → Denotes p at o
  pub all : (at : NodeRef) (o : Object) → Stands f n at → Denotes p at o → Contains uses (at, o)

pub none_told : (p : Sources) → Told p 0 0 []
none_told p = record { right = λ at o there. absurd (let low = there.1 in omega arith); all = λ at o stands d. absurd (never at stands) } where
  never : (at : NodeRef) → Stands 0 0 at → ⊥
  never at (inl low) = omega arith
  never at (inr (file, low)) = omega arith

stands_cases : (f n : ℕ) (at : NodeRef) → Stands f (suc n) at → Stands f n at ⊎ ((at.file ≡ f) × (at.node ≡ n))
stands_cases f n at (inl low) = inl (inl low)
stands_cases f n at (inr (file, low)) = elim (nat_order at.node n) [
  | inl before ↦ inl (inr (file, before))
  | inr other ↦ elim other [ inl node ↦ inr (file, node) | inr high ↦ absurd (omega arith) ]
]

entry_told : (p : Sources) (f n : ℕ) (uses : List Use) (m : NodeRef) (answer : Option Object) → Told p f n uses → m.file ≡ f → m.node ≡ n → IsAnswer p m answer → Told p f (suc n) (uses ++ entry m answer)
entry_told p f n uses m None was file node is = subst (λ (x : List Use). Told p f (suc n) x) (sym (append-nil uses)) (record {
  right = was.right;
  all = λ at o stands d. elim (stands_cases f n at stands) [
    | inl before ↦ was.all at o before d
    | inr here ↦ absurd (is o (subst (λ (x : NodeRef). Denotes p x o) (ref_same at m (here.0 ∙ sym file) (here.1 ∙ sym node)) d))
  ];
})
entry_told p f n uses m (Some answer) was file node is = record {
  right = λ at o there. elim (Contains-push_cases uses (m, answer) (at, o) there) [
    | inl old ↦ was.right at o old
    | inr same ↦ subst (λ (x : Use). Denotes p x.0 x.1) same is
  ];
  all = λ at o stands d. elim (stands_cases f n at stands) [
    | inl before ↦ Contains-append_left uses ((m, answer) ∷ []) (at, o) (was.all at o before d)
    | inr here ↦
        let at_is : at ≡ m = ref_same at m (here.0 ∙ sym file) (here.1 ∙ sym node) in
        let o_is : answer ≡ o = one_denoted p m answer o is (subst (λ (x : NodeRef). Denotes p x o) at_is d) in
        subst (λ (x : NodeRef). Contains (uses ++ (m, answer) ∷ []) (x, o)) (sym at_is) (subst (λ (x : Object). Contains (uses ++ (m, answer) ∷ []) (m, x)) o_is (Contains-push uses (m, answer)))
  ];
}

file_told : (p : Sources) (s : Source) (f : File) (number : ℕ) (t : Tables) (was : List Use) (n : ℕ) → slice_get p.files number ≡ Some s → IsRead f s → AreTables p number t
    → n ≤ length s.tree.nodes → Told p number 0 was → Told p number n (was ++ uses_before f number t n)
file_told p s f number t was zero there is tables low before = subst (λ (x : List Use). Told p number 0 x) (sym (append-nil was)) before
file_told p s f number t was (suc n) there is tables low before =
    subst (λ (x : List Use). Told p number (suc n) x) (append_assoc was (uses_before f number t n) (entry (ref number n) (answer_of f number t n)))
    (entry_told p number n (was ++ uses_before f number t n) (ref number n) (answer_of f number t n) (file_told p s f number t was n there is tables (omega arith) before) refl node
    (subst (λ (x : ℕ). IsAnswer p (ref number n) (answer_of f number t x)) node (answered p s f t (ref number n) there is tables (let e = node in omega arith)))) where
      node : narrow n ≡ n
      node = narrow_low n (let fit = is.fit in omega arith)

next_told : (p : Sources) (s : Source) (f : ℕ) (uses : List Use) → slice_get p.files f ≡ Some s → Told p f (length s.tree.nodes) uses → Told p (suc f) 0 uses
next_told p s f uses there was = record {
  right = was.right;
  all = λ at o stands d. was.all at o (in_file at o d (cases at stands)) d;
} where
  cases : (at : NodeRef) → Stands (suc f) 0 at → (at.file < f) ⊎ (at.file ≡ f)
  cases at (inr (file, low)) = absurd (omega arith)
  cases at (inl low) = elim (nat_order at.file f) [ inl before ↦ inl before | inr other ↦ elim other [ inl same ↦ inr same | inr high ↦ absurd (omega arith) ] ]

  in_file : (at : NodeRef) (o : Object) → Denotes p at o → (at.file < f) ⊎ (at.file ≡ f) → Stands f (length s.tree.nodes) at
  in_file at o d (inl low) = inl low
  in_file at o d (inr file) =
      let src : d.src ≡ s = same_some (slice_get p.files at.file) d.src s d.file (ap (λ x. slice_get p.files x) file ∙ there) in
      let low : at.node < length d.src.tree.nodes = name_low d.src at.node d.name d.used.0 in
      inr (file, subst (λ (x : Source). at.node < length x.tree.nodes) src low)

-- ---- the tables of a file

path_same : (p : Sources) (fs : List File) → AreRead fs p.files → (i : ℕ) → path_of fs i ≡ path_at p i
path_same p fs are i = at (slice_get p.files i) refl where
  get_none : (xs : List Source) (i : ℕ) → slice_get xs i ≡ None → length xs ≤ i
  get_none [] i e = omega arith
  get_none (x ∷ xs) zero e = absurd (cc)
  get_none (x ∷ xs) (suc i) e = let h = get_none xs i e in omega arith

  none_there : (xs : List File) (i : ℕ) → length xs ≤ i → slice_get xs i ≡ None
  none_there [] i h = refl
  none_there (x ∷ xs) zero h = absurd (omega arith)
  none_there (x ∷ xs) (suc i) h = none_there xs i (omega arith)

  at : (o : Option Source) → slice_get p.files i ≡ o → path_of fs i ≡ path_at p i
  at (Some s) e =
      let (f, there, is) = are.each i s e in
      ap path_in there ∙ (is.path ∙ ap sources.path_in (sym e))
  at None e =
      let h = get_none p.files i e in
      ap path_in (none_there fs i (let n = are.size in omega arith)) ∙ ap sources.path_in (sym e)

earlier_same : (path other : ℕ → List ℕ) (a b : NodeRef) → ((i : ℕ) → path i ≡ other i) → IsEarlierBy path a b → IsEarlierBy other a b
earlier_same path other a b same (inl before) = inl (sym (ap (λ x. is_before x (other b.file)) (same a.file)) ∙ (sym (ap (λ x. is_before (path a.file) x) (same b.file)) ∙ before))
earlier_same path other a b same (inr (is, order)) = inr (sym (same a.file) ∙ (is ∙ same b.file), order)

pub top_of : (p : Sources) (fs : List File) (top_names : List ℕ → Option NodeRef) → AreRead fs p.files → length fs < 4294967296 → IsEarliest (path_of fs) (tops_before fs (length fs)) top_names
    → (q : List ℕ) → IsTopOf p q (top_names q)
top_of p fs top_names are few earliest q = at (top_names q) (earliest q) where
  at : (o : Option NodeRef) → IsEarliestOf (path_of fs) (tops_before fs (length fs)) q o → IsTopOf p q o
  at (Some m) is = (
    package_has p fs are few q m is.0,
    λ other named earlier. is.1 other (has_package p fs are few q other named) (earlier_same (path_at p) (path_of fs) other m (λ i. sym (path_same p fs are i)) earlier),
  )
  at None is = λ other named. is other (has_package p fs are few q other named)

pub import_of : (p : Sources) (fs : List File) (s : Source) (f : File) (number : ℕ) (imports : List ℕ → Option NodeRef) → slice_get p.files number ≡ Some s → IsRead f s
    → IsEarliest (path_of fs) (imports_of p.named number f) imports → (q : List ℕ) → IsImportOf p number q (imports q)
import_of p fs s f number imports there is earliest q = at (imports q) (earliest q) where
  named_from : (m : NodeRef) → Contains (imports_of p.named number f) (q, m) → (m.file ≡ number) × IsImportName p m q
  named_from m c =
      let r = from_imported p.named number (import_line f.tree.now f.bytes.now) (specs_in f.tree.now f.tree.now.tops) q m c in (
        r.0,
        (
          s,
          ap (λ x. slice_get p.files x) r.0 ∙ there,
          subst (λ (t : FileTree). Contains (specs_in t t.tops) m.node) is.tree r.1,
          subst (λ (t : FileTree). line_name p.named (import_line t s.bytes m.node) ≡ Some q) is.tree (subst (λ (b : List ℕ). line_name p.named (import_line f.tree.now b m.node) ≡ Some q) is.bytes r.2),
        ),
      )

  to_named : (m : NodeRef) → m.file ≡ number → IsImportName p m q → Contains (imports_of p.named number f) (q, m)
  to_named m file (src, at, among, named) =
      let same : src ≡ s = same_some (slice_get p.files m.file) src s at (ap (λ x. slice_get p.files x) file ∙ there) in
      let among_s : Contains (specs_in s.tree s.tree.tops) m.node = subst (λ (x : Source). Contains (specs_in x.tree x.tree.tops) m.node) same among in
      let named_s : line_name p.named (import_line s.tree s.bytes m.node) ≡ Some q = subst (λ (x : Source). line_name p.named (import_line x.tree x.bytes m.node) ≡ Some q) same named in
      let among_f : Contains (specs_in f.tree.now f.tree.now.tops) m.node = subst (λ (t : FileTree). Contains (specs_in t t.tops) m.node) (sym is.tree) among_s in
      let named_f : line_name p.named (import_line f.tree.now f.bytes.now m.node) ≡ Some q =
      subst (λ (b : List ℕ). line_name p.named (import_line f.tree.now b m.node) ≡ Some q) (sym is.bytes) (subst (λ (t : FileTree). line_name p.named (import_line t s.bytes m.node) ≡ Some q) (sym is.tree) named_s) in
      subst (λ (x : NodeRef). Contains (imports_of p.named number f) (q, x)) (ref_same (record { file = number; node = m.node }) m (sym file) refl)
      (to_imported p.named number (import_line f.tree.now f.bytes.now) (specs_in f.tree.now f.tree.now.tops) q m.node among_f named_f)

  at : (o : Option NodeRef) → IsEarliestOf (path_of fs) (imports_of p.named number f) q o → IsImportOf p number q o
  at (Some m) e =
      let r = named_from m e.0 in (
        r.1,
        r.0,
        λ other file named low. e.1 other (to_named other (file ∙ r.0) named) (inr (ap (λ x. path_of fs x) file, inr (file, low))),
      )
  at None e = λ other file named. e other (to_named other file named)

-- ---- all files

pub all_told : (p : Sources) (fs : List File) (top_names : List ℕ → Option NodeRef) (universe : List ℕ → Option ℕ) (n : ℕ) (uses : List Use)
    → AreRead fs p.files → length fs < 4294967296 → n ≤ length fs → IsEarliest (path_of fs) (tops_before fs (length fs)) top_names → ((q : List ℕ) → universe q ≡ place_from 0 predeclared q)
    → AreUsesTo fs p.named top_names universe n uses → Told p n 0 uses
all_told p fs top_names universe zero uses are few low earliest places is = subst (λ (x : List Use). Told p 0 0 x) (sym is) (none_told p)
all_told p fs top_names universe (suc n) uses are few low earliest places (front, before, here) =
    one (slice_get fs n) refl (all_told p fs top_names universe n front are few (omega arith) earliest places before) here where
      source_at : (xs : List Source) (i : ℕ) → i < length xs → (s : Source) × (slice_get xs i ≡ Some s)
      source_at [] i low = absurd (omega arith)
      source_at (x ∷ xs) zero low = (x, refl)
      source_at (x ∷ xs) (suc i) low = source_at xs i (omega arith)

      there : (s : Source) × (slice_get p.files n ≡ Some s)
      there = source_at p.files n (let e = are.size in omega arith)

      read : (f : File) × (slice_get fs n ≡ Some f) × IsRead f there.0
      read = are.each n there.0 there.1

      one : (o : Option File) → slice_get fs n ≡ o → Told p n 0 front → AreUsesAt fs p.named top_names universe (narrow n) o front uses → Told p (suc n) 0 uses
      one None e was same = absurd (let f : Some read.0 ≡ None = sym read.1 ∙ e in cc)
      one (Some f) e was adds =
          let s = there.0 in
          let is : IsRead f s = subst (λ (x : File). IsRead x s) (same_some (slice_get fs n) read.0 f read.1 e) read.2 in
          let number : narrow n ≡ n = narrow_low n (omega arith) in
          let t : Tables = record { top_names = top_names; imports = adds.uses.imports; universe = universe } in
          let file : slice_get p.files (narrow n) ≡ Some s = ap (λ x. slice_get p.files x) number ∙ there.1 in
          let tables : AreTables p (narrow n) t = record {
            top_names = top_of p fs top_names are few earliest;
            imports = import_of p fs s f (narrow n) adds.uses.imports file is adds.uses.earliest;
            universe = places;
          } in
          let count : length f.tree.now.nodes ≡ length s.tree.nodes = ap (λ (x : FileTree). length x.nodes) is.tree in
          let told : Told p (narrow n) (length f.tree.now.nodes) (front ++ uses_before f (narrow n) t (length f.tree.now.nodes)) =
          file_told p s f (narrow n) t front (length f.tree.now.nodes) file is tables (omega arith) (subst (λ (x : ℕ). Told p x 0 front) (sym number) was) in
          let same : uses ≡ front ++ uses_before f (narrow n) t (length f.tree.now.nodes) = adds.added ∙ ap (λ x. front ++ x) adds.uses.are in
          let here : Told p (narrow n) (length f.tree.now.nodes) uses = subst (λ (x : List Use). Told p (narrow n) (length f.tree.now.nodes) x) (sym same) told in
          next_told p s n uses there.1 (subst (λ (x : ℕ). Told p n x uses) count (subst (λ (x : ℕ). Told p x (length f.tree.now.nodes) uses) number here))

pub bound : (p : Sources) (fs : List File) (uses : List Use) → AreRead fs p.files → Told p (length fs) 0 uses → AreBindings p uses
bound p fs uses are told at o = (
  (λ there. told.right at o there),
  (λ d. told.all at o (inl (let low = slice_get_within p.files at.file d.src d.file in let n = are.size in omega arith)) d),
)

pub all_bound : (p : Sources) (fs : List File) (named : List (List ℕ × List ℕ)) (top_names : List ℕ → Option NodeRef) (universe : List ℕ → Option ℕ) (uses : List Use) → p.named ≡ named → AreRead fs p.files
    → length fs < 4294967296 → IsEarliest (path_of fs) (tops_before fs (length fs)) top_names → ((q : List ℕ) → universe q ≡ place_from 0 predeclared q) → AreUsesTo fs named top_names universe (length fs) uses
    → AreBindings p uses
all_bound p fs named top_names universe uses same are few earliest places is =
    bound p fs uses are (all_told p fs top_names universe (length fs) uses are few (omega arith) earliest places
    (subst (λ (l : List (List ℕ × List ℕ)). AreUsesTo fs l top_names universe (length fs) uses) (sym same) is))
