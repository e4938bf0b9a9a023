-- The files of a sound package: their trees and heads, their one name, and what they import.
use Rattle.std.proofs.Common.{◌≡◌, ℕ, zero, suc, ◌<◌, ◌≤◌, ◌^◌, Bool, true, false, cond, ◌||◌, Option, Some, None, List, [], ◌∷◌, ◌++◌, length, map, slice_get, get_or, bytes_eq, refl, sym, ap, ◌∙◌, subst, arith}
use Rattle.std.specs.List.{Contains, filter, flat_map, list_any}
use Rattle.std.proofs.lemmas.Option.{same_Some, slice_get_within, get_or_from_slice_get}
use Rattle.std.proofs.lemmas.List.Concat.{flat_map-cons}
use Rattle.std.proofs.lemmas.List.Folds.{list_any-append}
use Rattle.std.proofs.lemmas.Slice.Eq.{bytes_eq-Decides}
use Rattle.gv_base.specs.Files.{Entry}
use Rattle.gv_base.proofs.Lists.{same_some}
use Rattle.gv_base.specs.declared.place.Place.{Place}
use Rattle.go_tree.specs.Head.{head_of}
use Rattle.go_tree.specs.declared.head.Head.{Head}
use Rattle.go_tree.specs.declared.head.ImportLine.{ImportLine}
use Rattle.go_tree.specs.declared.tree.FileTree.{FileTree}
use Rattle.parse_file.specs.Verdict.{IsParsed}
use Rattle.parse_file.specs.declared.verdict.FileVerdict.{FileVerdict}
use Rattle.parse_file.specs.declared.verdict.FileVerdict.TheVariants as verdict
use Rattle.parse_file.proofs.Counts.{tokens_length}
use Rattle.gv_driver.specs.Packages.{Package as Sources, package_of as sources_of}
use Rattle.import_graph.specs.Sources.{is_source}
use Rattle.import_graph.specs.declared.pack.Package.{Package}
use Rattle.import_graph.specs.Packages.{paths_of, is_broken, head_at, is_missing, first_name, clash_in, clashes, counts, lines_in, lines_of, imports_path, missing_at, missing}
use Rattle.import_graph.proofs.ListLemmas.{any-get, get-any, map-get, get-map}
use Rattle.import_graph.proofs.OrderLemmas.{keep-filter}
use Rattle.gv_driver.proofs.Places.{element, at-contained, contains-at}
use Rattle.analysis_core.specs.Replies.{file_numbered}
use Rattle.gv_driver.specs.Judging.{text_of, AreParsed, IsFileAt, ImportsPath, IsPackageOf, NamesAgree}
use Rattle.tree_report.specs.Reading.{AreRead, AreHeads, head_in, IsRead}
use Rattle.tree_report.proofs.NodeLemmas.{nodes_few}

differ : (b : Bool) → b ≡ true → b ≡ false → ⊥
differ true h k = cc
differ false h k = cc

-- the source files are short
abbrev pub AreShort : List Entry → Type 0
AreShort tree = (n : ℕ) (e : Entry) → slice_get tree n ≡ Some e → is_source e.0 ≡ true → length e.1 ≤ 4194304

-- so that their nodes are few
parsed-few : (text : List ℕ) (t : FileTree) → IsParsed text t → length text ≤ 4194304 → length t.nodes ≤ 2 ^ 32
parsed-few text t is short =
    let nodes = nodes_few is.tokens text t is.spelled in
    let tokens = tokens_length text is.tokens is.lexed in
    omega (arith, nodes, tokens, short)

-- the tree of a file that is parsed
abbrev no_tree : FileTree
no_tree = record { tokens = []; nodes = []; tops = [] }

abbrev tree_by : FileVerdict → FileTree
tree_by (verdict.Parsed t) = t
tree_by (verdict.Lexical offset why) = no_tree
tree_by (verdict.Syntax offset) = no_tree
tree_by (verdict.TooDeep offset) = no_tree

abbrev pub tree_in : Option FileVerdict → FileTree
tree_in None = no_tree
tree_in (Some v) = tree_by v

-- what a sound package's file is
pub record IsFine (text : List ℕ) (t : FileTree) (h : Head) : Type 0 where
  pub parsed : IsParsed text t
  pub few : length t.nodes ≤ 2 ^ 32
  pub head : h ≡ head_of t text

fine-by : (e : Entry) (v : FileVerdict) (h : Head) → Some h ≡ head_in e (Some v) → IsRead e (Some v) → (is_source e.0 ≡ true → length e.1 ≤ 4194304) → IsFine e.1 (tree_by v) h
fine-by e (verdict.Parsed t) h is read short = record { parsed = read.1; few = parsed-few e.1 t read.1 (short read.0); head = same_Some h (head_of t e.1) is }
fine-by e (verdict.Lexical offset why) h is read short = cc
fine-by e (verdict.Syntax offset) h is read short = cc
fine-by e (verdict.TooDeep offset) h is read short = cc

fine-in : (e : Entry) (v : Option FileVerdict) (h : Head) → Some h ≡ head_in e v → IsRead e v → (is_source e.0 ≡ true → length e.1 ≤ 4194304) → IsFine e.1 (tree_in v) h
fine-in e None h is read short = cc
fine-in e (Some v) h is read short = fine-by e v h is read short

some-head : (o : Option Head) → (is_missing o ≡ true → ⊥) → (h : Head) × (o ≡ Some h)
some-head None there = absurd (there refl)
some-head (Some h) there = (h, refl)

head-within : (heads : List (Option Head)) (n : ℕ) (h : Head) → get_or heads n None ≡ Some h → slice_get heads n ≡ Some (Some h)
head-within [] n h is = cc
head-within (x ∷ xs) zero h is = ap Some is
head-within (x ∷ xs) (suc n) h is = head-within xs n h is

-- the file of a number has a head, and is fine
pub record IsFineAt (tree : List Entry) (verdicts : List (Option FileVerdict)) (heads : List (Option Head)) (n : ℕ) : Type 0 where
  pub has : Head
  pub at : head_at heads n ≡ Some has
  pub fine : IsFine (file_numbered tree n).1 (tree_in (get_or verdicts n None)) has

-- so is a file of a package none of whose files is broken
pub fine-at : (tree : List Entry) (verdicts : List (Option FileVerdict)) (heads : List (Option Head)) (files : List ℕ) (n : ℕ) → AreRead tree verdicts → AreHeads tree verdicts heads → AreShort tree
    → is_broken heads files ≡ false → Contains files n → IsFineAt tree verdicts heads n
fine-at tree verdicts heads files n read headed short whole has =
    let some = some-head (head_at heads n) (λ missing. differ (is_broken heads files) (any-get (λ m. is_missing (head_at heads m)) files has.0 n (at-contained files n has) missing) whole) in
    let here : slice_get heads n ≡ Some (Some some.0) = head-within heads n some.0 some.1 in
    let l : n < length heads = slice_get_within heads n (Some some.0) here in
    let size_h : length heads ≡ length tree = headed.size in
    let size_v : length verdicts ≡ length tree = read.size in
    let e = element tree n (omega (arith, l, size_h)) in
    let v = element verdicts n (omega (arith, l, size_h, size_v)) in
    let fine : IsFine e.0.1 (tree_in v.0) some.0 = fine-in e.0 v.0 some.0 (headed.each n e.0 v.0 (Some some.0) e.1 v.1 here) (read.each n e.0 v.0 e.1 v.1) (short n e.0 e.1) in
    record {
      has = some.0;
      at = some.1;
      fine = subst (λ o. IsFine (file_numbered tree n).1 (tree_in o) some.0) (sym (get_or_from_slice_get verdicts n v.0 None v.1))
          (subst (λ (x : Entry). IsFine x.1 (tree_in v.0) some.0) (sym (get_or_from_slice_get tree n e.0 ([], []) e.1)) fine);
    }

all-parsed : (text : ℕ → List ℕ) (t : ℕ → FileTree) (ns : List ℕ) → ((n : ℕ) → Contains ns n → IsParsed (text n) (t n)) → AreParsed (map text ns) (map t ns)
all-parsed text t [] fine = tt
all-parsed text t (n ∷ ns) fine = (fine n (contains-at (n ∷ ns) 0 n refl), all-parsed text t ns (λ m has. fine m (contains-at (n ∷ ns) (suc has.0) m (at-contained ns m has))))

map-twice : {X Y Z : Type 0} (f : X → Y) (g : Y → Z) (xs : List X) → map g (map f xs) ≡ map (λ x. g (f x)) xs
map-twice f g [] = refl
map-twice f g (x ∷ xs) = ap (λ l. g (f x) ∷ l) (map-twice f g xs)

-- the trees of some files
abbrev pub trees-of : List (Option FileVerdict) → List ℕ → List FileTree
trees-of verdicts files = map (λ n. tree_in (get_or verdicts n None)) files

-- the package of a path and of the files of a package none of which is broken
pub package-of : (tree : List Entry) (verdicts : List (Option FileVerdict)) (heads : List (Option Head)) (path : List ℕ) (files : List ℕ) → AreRead tree verdicts → AreHeads tree verdicts heads → AreShort tree
    → is_broken heads files ≡ false → IsPackageOf path (map (file_numbered tree) files) (sources_of path (map (file_numbered tree) files) (trees-of verdicts files))
package-of tree verdicts heads path files read headed short whole =
    let text : ℕ → List ℕ = λ n. (file_numbered tree n).1 in
    let t : ℕ → FileTree = λ n. tree_in (get_or verdicts n None) in
    let fine : (n : ℕ) → Contains files n → IsFineAt tree verdicts heads n = (λ n has. fine-at tree verdicts heads files n read headed short whole has) in
    record {
      path_is = refl;
      files = refl;
      trees = subst (λ (x : List (List ℕ)). AreParsed x (map t files)) (sym (map-twice (file_numbered tree) text_of files)) (all-parsed text t files (λ n has. (fine n has).fine.parsed));
      small = λ f y there.
          let b = map-get t files f y there in
          subst (λ (x : FileTree). length x.nodes ≤ 2 ^ 32) b.2 (fine b.0 (contains-at files f b.0 b.1)).fine.few;
    }

-- ---- lists of lists

none-in : {X Y : Type 0} (f : X → List Y) (xs : List X) (k : ℕ) (x : X) → flat_map f xs ≡ [] → slice_get xs k ≡ Some x → f x ≡ []
none-in f [] k x none at = absurd (let l : k < 0 = slice_get_within [] k x at in omega (arith, l))
none-in f (y ∷ ys) zero x none at = subst (λ z. f z ≡ []) (same_Some y x at) (first (f y) (flat_map f ys) (sym (flat_map-cons f y ys) ∙ none))
  where
    first : {A : Type 0} (a b : List A) → a ++ b ≡ [] → a ≡ []
    first [] b e = refl
    first (z ∷ zs) b e = cc
none-in f (y ∷ ys) (suc k) x none at = none-in f ys k x (last (f y) (flat_map f ys) (sym (flat_map-cons f y ys) ∙ none)) at
  where
    last : {A : Type 0} (a b : List A) → a ++ b ≡ [] → b ≡ []
    last [] b e = e
    last (z ∷ zs) b e = cc

or-right : (a b : Bool) → b ≡ true → (a || b) ≡ true
or-right true b e = refl
or-right false b e = e

or-left : (a b : Bool) → a ≡ true → (a || b) ≡ true
or-left a b e = ap (λ (x : Bool). x || b) e

any-in : {X Y : Type 0} (test : Y → Bool) (f : X → List Y) (xs : List X) (k : ℕ) (x : X) → slice_get xs k ≡ Some x → list_any test (f x) ≡ true → list_any test (flat_map f xs) ≡ true
any-in test f [] k x at told = absurd (let l : k < 0 = slice_get_within [] k x at in omega (arith, l))
any-in test f (y ∷ ys) zero x at told =
    ap (list_any test) (flat_map-cons f y ys) ∙ (list_any-append test (f y) (flat_map f ys)
    ∙ or-left (list_any test (f y)) (list_any test (flat_map f ys)) (ap (λ z. list_any test (f z)) (same_Some y x at) ∙ told))
any-in test f (y ∷ ys) (suc k) x at told =
    ap (list_any test) (flat_map-cons f y ys) ∙ (list_any-append test (f y) (flat_map f ys)
    ∙ or-right (list_any test (f y)) (list_any test (flat_map f ys)) (any-in test f ys k x at told))

-- ---- a file of the package

abbrev place-at : ℕ → ℕ → Place
place-at file offset = record { file = file; offset = offset }

-- the number of a file, by its place in the package
record IsNumbered (tree : List Entry) (verdicts : List (Option FileVerdict)) (files : List ℕ) (n : ℕ) (t : FileTree) (text : List ℕ) : Type 0 where
  number : ℕ
  at : slice_get files n ≡ Some number
  tree_is : tree_in (get_or verdicts number None) ≡ t
  text_is : (file_numbered tree number).1 ≡ text

numbered-at : (tree : List Entry) (verdicts : List (Option FileVerdict)) (path : List ℕ) (files : List ℕ) (n : ℕ) (t : FileTree) (text : List ℕ)
    → IsFileAt (sources_of path (map (file_numbered tree) files) (trees-of verdicts files)) n t text → IsNumbered tree verdicts files n t text
numbered-at tree verdicts path files n t text file =
    let a = map-get (λ m. tree_in (get_or verdicts m None)) files n t file.tree in
    let b = map-get text_of (map (file_numbered tree) files) n text file.text in
    let c = map-get (file_numbered tree) files n b.0 b.1 in
    let same : c.0 ≡ a.0 = same_some (slice_get files n) c.0 a.0 c.1 a.1 in
    record {
      number = a.0;
      at = a.1;
      tree_is = a.2;
      text_is = ap (λ m. (file_numbered tree m).1) (sym same) ∙ (ap text_of c.2 ∙ b.2);
    }

-- the package of a path, which these files import
pub record IsFound (heads : List (Option Head)) (files : List ℕ) (packages : List Package) (path : List ℕ) : Type 0 where
  pub q : ℕ
  pub other : Package
  pub at : slice_get packages q ≡ Some other
  pub of : other.path ≡ path
  pub imported : imports_path heads files other.path ≡ true

module _ (tree : List Entry) (verdicts : List (Option FileVerdict)) (heads : List (Option Head)) (files : List ℕ) (read : AreRead tree verdicts) (headed : AreHeads tree verdicts heads)
    (short : AreShort tree) (whole : is_broken heads files ≡ false) where
  abbrev mine : List ℕ → Sources
  mine path = sources_of path (map (file_numbered tree) files) (trees-of verdicts files)

  -- the head of a file of the package
  head-is : (n : ℕ) (t : FileTree) (text : List ℕ) (file : IsNumbered tree verdicts files n t text) → head_at heads file.number ≡ Some (head_of t text)
  head-is n t text file =
      let f = fine-at tree verdicts heads files file.number read headed short whole (contains-at files n file.number file.at) in
      f.at ∙ ap Some (f.fine.head ∙ (ap (λ (x : FileTree). head_of x (file_numbered tree file.number).1) file.tree_is ∙ ap (head_of t) file.text_is))

  -- its name is that of the first
  name-is : clashes heads files ≡ [] → (n : ℕ) (t : FileTree) (text : List ℕ) → IsNumbered tree verdicts files n t text → (head_of t text).name ≡ first_name heads files
  name-is agree n t text file =
      by (bytes_eq (head_of t text).name (first_name heads files)) refl
      (ap (clash_in (first_name heads files) file.number) (sym (head-is n t text file)) ∙ none-in (λ m. clash_in (first_name heads files) m (head_at heads m)) files n file.number agree file.at)
    where
      by : (b : Bool) → bytes_eq (head_of t text).name (first_name heads files) ≡ b → cond b [] (place-at file.number (head_of t text).name_at ∷ []) ≡ []
          → (head_of t text).name ≡ first_name heads files
      by true told none = (bytes_eq-Decides (head_of t text).name (first_name heads files)).0 told
      by false told none = cc

  pub names-agree : (path : List ℕ) → clashes heads files ≡ [] → NamesAgree (mine path)
  names-agree path agree n m one other a b first second =
      name-is agree n one a (numbered-at tree verdicts path files n one a first) ∙ sym (name-is agree m other b (numbered-at tree verdicts path files m other b second))

  pub import-found : (packages : List Package) (own path : List ℕ) → missing heads (paths_of packages) files ≡ [] → ImportsPath (mine own) path → IsFound heads files packages path
  import-found packages own path found i =
      let file = numbered-at tree verdicts own files i.n i.tree i.text i.at in
      let lines : head_at heads file.number ≡ Some (head_of i.tree i.text) = head-is i.n i.tree i.text file in
      let kept : Contains (filter counts (head_of i.tree i.text).imports) i.line = keep-filter counts (head_of i.tree i.text).imports i.line i.leads i.has in
      let there : slice_get (lines_in (head_at heads file.number)) kept.0 ≡ Some i.line =
      ap (λ (o : Option Head). slice_get (lines_in o) kept.0) lines ∙ at-contained (filter counts (head_of i.tree i.text).imports) i.line kept in
      let none : missing_at (paths_of packages) file.number i.line ≡ [] =
      none-in (missing_at (paths_of packages) file.number) (lines_in (head_at heads file.number)) kept.0 i.line
      (none-in (λ n. flat_map (missing_at (paths_of packages) n) (lines_in (head_at heads n))) files i.n file.number found file.at) there in
      let passed = get-any (λ p. bytes_eq p i.line.path) (paths_of packages) (by (list_any (λ p. bytes_eq p i.line.path) (paths_of packages)) refl file.number none) in
      let one = map-get (λ (p : Package). p.path) packages passed.place passed.item passed.stands in
      let same : one.0.path ≡ i.line.path = one.2 ∙ (bytes_eq-Decides passed.item i.line.path).0 passed.told in
      record {
        q = passed.place;
        other = one.0;
        at = one.1;
        of = same ∙ i.of;
        imported = any-in (λ (l : ImportLine). bytes_eq l.path one.0.path) (λ n. lines_in (head_at heads n)) files i.n file.number file.at
            (any-get (λ (l : ImportLine). bytes_eq l.path one.0.path) (lines_in (head_at heads file.number)) kept.0 i.line there ((bytes_eq-Decides i.line.path one.0.path).1 (sym same)));
      }
    where
      by : (b : Bool) → list_any (λ p. bytes_eq p i.line.path) (paths_of packages) ≡ b → (n : ℕ) → cond b [] (place-at n i.line.at ∷ []) ≡ [] → list_any (λ p. bytes_eq p i.line.path) (paths_of packages) ≡ true
      by true told n none = told
      by false told n none = cc
