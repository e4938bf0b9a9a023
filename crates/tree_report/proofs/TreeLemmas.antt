-- The packages of a tree of the form are a tree as a run takes it.
use Rattle.std.proofs.Common.{◌≡◌, ℕ, ◌<◌, ◌≤◌, ◌^◌, true, Option, Some, List, length, map, filter, slice_get, get_or, sym, ap, ◌∙◌, subst, arith}
use Rattle.std.specs.List.{All, AllPairs, Contains}
use Rattle.std.proofs.lemmas.Option.{slice_get_within, get_or_from_slice_get}
use Rattle.std.proofs.lemmas.List.{length-map}
use Rattle.std.proofs.lemmas.List.Kept.{AllPairs-from_increasing}
use Rattle.gv_base.specs.Files.{Entry, AreInOrder, is_before}
use Rattle.go_tree.specs.declared.head.Head.{Head}
use Rattle.parse_file.specs.declared.verdict.FileVerdict.{FileVerdict}
use Rattle.gv_driver.specs.Packages.{Package as Sources, package_of as sources_of}
use Rattle.import_graph.specs.declared.pack.PackState.{PackState}
use Rattle.import_graph.specs.declared.pack.PackState.TheVariants.{Broken, NameClash, MissingImport, ImportCycle, Sound}
use Rattle.import_graph.specs.declared.pack.Package.{Package}
use Rattle.import_graph.specs.Orders.{is_sound}
use Rattle.import_graph.specs.Packages.{paths_of, IsStateOf, IsWhole, IsPackage, ArePackages}
use Rattle.import_graph.proofs.ListLemmas.{map-get, get-map}
use Rattle.import_graph.proofs.LawLemmas.{numbered}
use Rattle.gv_driver.proofs.Places.{element}
use Rattle.analysis_core.specs.Replies.{file_numbered}
use Rattle.gv_driver.specs.Nodes.{Named, AreNamed}
use Rattle.gv_driver.specs.Judging.{text_of, ImportsPath, IsPackageOf, IsSource}
use Rattle.gv_driver.proofs.OneFinding.{one-package}
use Rattle.gv_driver.specs.declared.tree.PackageTexts.{PackageTexts}
use Rattle.gv_driver.specs.Trees.{IsAmong, IsTree}
use Rattle.tree_report.specs.Form.{IsForm}
use Rattle.tree_report.specs.Limits.{IsWithin}
use Rattle.tree_report.specs.Reports.{texts_of}
use Rattle.tree_report.proofs.ApartLemmas.{import-apart}
use Rattle.tree_report.proofs.LimitLemmas.{sizes-few, sizes-short}
use Rattle.tree_report.proofs.HeadLemmas.{AreShort, import-found, names-agree, package-of, trees-of}
use Rattle.tree_report.proofs.ReadLemmas.{source-size}
use Rattle.tree_report.proofs.SourceLemmas.{test_of, files-kept, files-named, files-ordered, files-few, texts-of-files, has-files, has-path}

files-short : (tree : List Entry) → IsWithin tree → AreShort tree
files-short tree within n e at source = source-size (λ size. size ≤ 4194304) tree n e.0 e.1 (sizes-short tree within) at source

sound-whole : (cyclic : Type 0) (heads : List (Option Head)) (paths : List (List ℕ)) (files : List ℕ) (state : PackState) → is_sound state ≡ true → IsStateOf cyclic heads paths files state → IsWhole heads paths files
sound-whole cyclic heads paths files Broken h is = cc
sound-whole cyclic heads paths files (NameClash places) h is = cc
sound-whole cyclic heads paths files (MissingImport places) h is = cc
sound-whole cyclic heads paths files ImportCycle h is = cc
sound-whole cyclic heads paths files Sound h is = is.0

source-of : (tree : List Entry) (verdicts : List (Option FileVerdict)) (heads : List (Option Head)) (packages : List Package) (k : ℕ) (p : Package) → AreInOrder tree → IsForm tree verdicts heads packages
    → slice_get packages k ≡ Some p → is_sound p.state ≡ true → IsSource p.path (map (file_numbered tree) p.files)
source-of tree verdicts heads packages k p ordered form at sound =
    let is : IsPackage tree heads packages k p = form.packed.each k p at in
    let kept : map (file_numbered tree) p.files ≡ filter (test_of tree p.path) tree = files-kept tree p.path p.files is.files in
    let whole : IsWhole heads (paths_of packages) p.files = sound-whole _ heads (paths_of packages) p.files p.state sound is.state in
    record {
      has_path = has-path tree p.path p.files is.files is.some;
      has_file = has-files tree p.files is.some;
      named = subst AreNamed (sym kept) (files-named tree p.path);
      ordered = subst AreInOrder (sym kept) (files-ordered tree (test_of tree p.path) ordered);
      few = subst (λ (l : List Named). length l < 2 ^ 32) (sym kept) (files-few tree p.path (sizes-few tree form.within));
      short = subst (λ (l : List Named). All (λ text. length text ≤ 2 ^ 24) (map text_of l)) (sym kept)
          (texts-of-files (λ size. size ≤ 2 ^ 24) tree p.path (λ n d lt. let small = sizes-short tree form.within n d lt in omega (arith, small)));
      pack = sources_of p.path (map (file_numbered tree) p.files) (trees-of verdicts p.files);
      of = package-of tree verdicts heads p.path p.files form.read form.headed (files-short tree form.within) whole.parsed;
      agree = names-agree tree verdicts heads p.files form.read form.headed (files-short tree form.within) whole.parsed p.path whole.agree;
    }

-- what a sound package's files import is among its imports
imports-of : (tree : List Entry) (verdicts : List (Option FileVerdict)) (heads : List (Option Head)) (packages : List Package) (k : ℕ) (p : Package) (of : Sources) (path : List ℕ) → IsForm tree verdicts heads packages
    → slice_get packages k ≡ Some p → is_sound p.state ≡ true → IsPackageOf p.path (map (file_numbered tree) p.files) of → ImportsPath of path → IsAmong (map (texts_of tree) packages) p.imports path
imports-of tree verdicts heads packages k p of path form at sound is_of imported =
    let is : IsPackage tree heads packages k p = form.packed.each k p at in
    let whole : IsWhole heads (paths_of packages) p.files = sound-whole _ heads (paths_of packages) p.files p.state sound is.state in
    let mine = package-of tree verdicts heads p.path p.files form.read form.headed (files-short tree form.within) whole.parsed in
    let same : of ≡ sources_of p.path (map (file_numbered tree) p.files) (trees-of verdicts p.files) = one-package p.path (map (file_numbered tree) p.files) of _ is_of mine in
    let found = import-found tree verdicts heads p.files form.read form.headed (files-short tree form.within) whole.parsed packages p.path path whole.found (subst (λ (s : Sources). ImportsPath s path) same imported) in (
      found.q,
      texts_of tree found.other,
      (is.imports found.q).1 (whole.parsed, (found.other, found.at, found.imported)),
      get-map (texts_of tree) packages found.q found.other found.at,
      found.of,
    )

pub is-tree : (tree : List Entry) (verdicts : List (Option FileVerdict)) (heads : List (Option Head)) (packages : List Package) → AreInOrder tree → IsForm tree verdicts heads packages → IsTree (map (texts_of tree) packages)
is-tree tree verdicts heads packages ordered form = record {
  within = λ p q imports.
      let found = map-get (texts_of tree) packages p imports.0 imports.1 in
      let size : length (map (texts_of tree) packages) ≡ length packages = length-map packages (texts_of tree) in
      let low : q < length packages = numbered tree heads packages form.packed p q found.0 found.1 (subst (λ (x : PackageTexts). Contains x.imports q) (sym found.2) imports.2) in
      omega (arith, size, low);
  ordered = λ p q a b lt at there.
      let one = map-get (texts_of tree) packages p a at in
      let two = map-get (texts_of tree) packages q b there in
      let l : q < length packages = slice_get_within packages q two.0 two.1 in
      let step : is_before one.0.path two.0.path ≡ true =
      ap (λ (x : Package). is_before x.path two.0.path) (sym (get_or_from_slice_get packages p one.0 one.0 one.1)) ∙ (ap (λ (x : Package). is_before (get_or packages p one.0).path x.path) (sym (get_or_from_slice_get packages q two.0 one.0 two.1)) ∙ form.packed.order p q one.0 lt l) in
      ap (λ (x : PackageTexts). is_before x.path b.path) (sym one.2) ∙ (ap (λ (x : PackageTexts). is_before one.0.path x.path) (sym two.2) ∙ step);
  rising = λ p j k q r pack at lt here there.
      let found = map-get (texts_of tree) packages p pack at in
      let imports : List ℕ = found.0.imports in
      let same : pack.imports ≡ imports = ap (λ (x : PackageTexts). x.imports) (sym found.2) in
      let a : slice_get imports j ≡ Some q = ap (λ (l : List ℕ). slice_get l j) (sym same) ∙ here in
      let b : slice_get imports k ≡ Some r = ap (λ (l : List ℕ). slice_get l k) (sym same) ∙ there in
      let m : k < length imports = slice_get_within imports k r b in
      let up : get_or imports j 0 < get_or imports k 0 = AllPairs-from_increasing imports (form.packed.each p found.0 found.1).rising j k 0 lt m in
      let e : get_or imports j 0 ≡ q = get_or_from_slice_get imports j q 0 a in
      let f : get_or imports k 0 ≡ r = get_or_from_slice_get imports k r 0 b in
      omega (arith, up, e, f);
  source = λ p pack at sound.
      let found = map-get (texts_of tree) packages p pack at in
      subst (λ (x : PackageTexts). IsSource x.path x.files) found.2
      (source-of tree verdicts heads packages p found.0 ordered form found.1 (ap (λ (x : PackageTexts). x.sound) found.2 ∙ sound));
  imports = λ p pack of path at sound is_of imported.
      let found = map-get (texts_of tree) packages p pack at in
      let here : IsPackageOf found.0.path (map (file_numbered tree) found.0.files) of = subst (λ (x : PackageTexts). IsPackageOf x.path x.files of) (sym found.2) is_of in
      subst (λ (x : PackageTexts). IsAmong (map (texts_of tree) packages) x.imports path) found.2
      (imports-of tree verdicts heads packages p found.0 of path form found.1 (ap (λ (x : PackageTexts). x.sound) found.2 ∙ sound) here imported);
  apart = λ p q other imports there. import-apart tree heads packages form.packed p q other imports there;
}

-- the paths of packages rise
pub paths-rise : (tree : List Entry) (heads : List (Option Head)) (packages : List Package) → ArePackages tree heads packages → AllPairs (λ p q. is_before p q ≡ true) (paths_of packages)
paths-rise tree heads packages are i j d lt within =
    let size : length (paths_of packages) ≡ length packages = length-map packages (λ p. p.path) in
    let l : j < length packages = (let w = within in omega (arith, size, w)) in
    let one = element packages i (omega (arith, lt, l)) in
    let two = element packages j l in
    ap (λ x. is_before x (get_or (paths_of packages) j d)) (get_or_from_slice_get (paths_of packages) i one.0.path d (get-map (λ (p : Package). p.path) packages i one.0 one.1))
    ∙ (ap (λ x. is_before one.0.path x) (get_or_from_slice_get (paths_of packages) j two.0.path d (get-map (λ (p : Package). p.path) packages j two.0 two.1))
    ∙ (ap (λ (x : Package). is_before x.path two.0.path) (sym (get_or_from_slice_get packages i one.0 one.0 one.1))
    ∙ (ap (λ (x : Package). is_before (get_or packages i one.0).path x.path) (sym (get_or_from_slice_get packages j two.0 one.0 two.1)) ∙ are.order i j one.0 lt l)))
