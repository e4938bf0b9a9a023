-- What a package of a tree imports has a path that packages may have.
use Rattle.std.proofs.Common.{◌≡◌, ◌⊎◌, inl, inr, ℕ, Bool, true, false, not, ◌||◌, Option, Some, None, List, [], ◌∷◌, map, slice_get, refl, sym, ap, ◌∙◌, subst}
use Rattle.std.specs.List.{Contains, filter, list_any}
use Rattle.std.specs.Prelude.{codes}
use Rattle.std.specs.Str.{bytes_eq}
use Rattle.std.proofs.lemmas.Option.{slice_get_within, get_or_from_slice_get}
use Rattle.std.proofs.lemmas.List.Concat.{flat_map-cons}
use Rattle.std.proofs.lemmas.List.Elements.{filter_passes}
use Rattle.std.proofs.lemmas.List.Folds.{list_any-append}
use Rattle.std.proofs.lemmas.Slice.Eq.{bytes_eq-Decides}
use Rattle.gv_base.specs.Files.{Entry}
use Rattle.go_tree.specs.declared.head.Head.{Head}
use Rattle.go_tree.specs.declared.head.ImportLine.{ImportLine}
use Rattle.import_graph.specs.declared.pack.Package.{Package}
use Rattle.import_graph.specs.Packages.{ArePackages, IsPackage, counts, head_at, is_dot, lines_in, lines_of}
use Rattle.import_graph.proofs.ListLemmas.{get-any, map-get}
use Rattle.gv_driver.specs.Closed.{is_reserved}
use Rattle.gv_driver.specs.declared.tree.PackageTexts.{PackageTexts}
use Rattle.gv_driver.specs.Trees.{Imports}
use Rattle.tree_report.specs.Reports.{texts_of}
use Rattle.tree_report.proofs.SourceLemmas.{has-path}

either : (a b : Bool) → (a || b) ≡ true → (a ≡ true) ⊎ (b ≡ true)
either true b h = inl refl
either false b h = inr h

-- an import that leads to a package, and passes the test
abbrev Found : (ImportLine → Bool) → Type 0
Found test = (line : ImportLine) × (counts line ≡ true) × (test line ≡ true)

kept-found : (test : ImportLine → Bool) (lines : List ImportLine) → list_any test (filter counts lines) ≡ true → Found test
kept-found test lines any =
    let some = get-any test (filter counts lines) any in (
      some.item,
      subst (λ (l : ImportLine). counts l ≡ true) (get_or_from_slice_get (filter counts lines) some.place some.item some.item some.stands)
          (filter_passes counts lines some.place some.item (slice_get_within (filter counts lines) some.place some.item some.stands)),
      some.told,
    )

head-found : (test : ImportLine → Bool) (o : Option Head) → list_any test (lines_in o) ≡ true → Found test
head-found test None any = absurd cc
head-found test (Some h) any = kept-found test h.imports any

line-found : (test : ImportLine → Bool) (heads : List (Option Head)) (files : List ℕ) → list_any test (lines_of heads files) ≡ true → Found test
line-found test heads [] any = absurd cc
line-found test heads (n ∷ files) any =
    let parts : (list_any test (lines_in (head_at heads n)) || list_any test (lines_of heads files)) ≡ true =
    sym (list_any-append test (lines_in (head_at heads n)) (lines_of heads files)) ∙ (sym (ap (list_any test) (flat_map-cons (λ m. lines_in (head_at heads m)) n files)) ∙ any) in
    elim (either (list_any test (lines_in (head_at heads n))) (list_any test (lines_of heads files)) parts) [
      | inl here ↦ head-found test (head_at heads n) here
      | inr later ↦ line-found test heads files later
    ]

-- what counts is neither `unsafe` nor `C`, and what has a path isn't empty
free-path : (dot a b c : Bool) → not (dot || (a || b)) ≡ true → c ≡ false → (a || (b || c)) ≡ false
free-path true a b c h e = absurd cc
free-path false true b c h e = absurd cc
free-path false false true c h e = absurd cc
free-path false false false c h e = e

not-empty : (path : List ℕ) → (path ≡ [] → ⊥) → bytes_eq path [] ≡ false
not-empty path some = by (bytes_eq path []) refl where
  by : (b : Bool) → bytes_eq path [] ≡ b → b ≡ false
  by true is = absurd (some ((bytes_eq-Decides path []).0 is))
  by false is = refl

pub import-apart : (tree : List Entry) (heads : List (Option Head)) (packages : List Package) → ArePackages tree heads packages → (p q : ℕ) (other : PackageTexts) → Imports (map (texts_of tree) packages) p q
    → slice_get (map (texts_of tree) packages) q ≡ Some other → is_reserved other.path ≡ false
import-apart tree heads packages are p q other (pack, at, has) there =
    let one = map-get (texts_of tree) packages p pack at in
    let two = map-get (texts_of tree) packages q other there in
    let mine : IsPackage tree heads packages p one.0 = are.each p one.0 one.1 in
    let import = (mine.imports q).0 (subst (λ (x : PackageTexts). Contains x.imports q) (sym one.2) has) in
    let same : import.1.0 ≡ two.0 = same_package (slice_get packages q) import.1.0 two.0 import.1.1 two.1 in
    let line = line-found (λ (l : ImportLine). bytes_eq l.path import.1.0.path) heads one.0.files import.1.2 in
    let path_is : line.0.path ≡ two.0.path = (bytes_eq-Decides line.0.path import.1.0.path).0 line.2 ∙ ap (λ (x : Package). x.path) same in
    let theirs : IsPackage tree heads packages q two.0 = are.each q two.0 two.1 in
    let free : is_reserved line.0.path ≡ false =
    free-path (is_dot line.0.local) (bytes_eq line.0.path (codes "unsafe")) (bytes_eq line.0.path (codes "C")) (bytes_eq line.0.path []) line.1
    (not-empty line.0.path (λ none. has-path tree two.0.path two.0.files theirs.files theirs.some (sym path_is ∙ none))) in
    subst (λ (x : PackageTexts). is_reserved x.path ≡ false) two.2 (subst (λ (r : List ℕ). is_reserved r ≡ false) path_is free)
  where
    same_package : (o : Option Package) (x y : Package) → o ≡ Some x → o ≡ Some y → x ≡ y
    same_package o x y a b = cc
