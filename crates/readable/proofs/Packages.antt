-- Each tree has packages, whatever the heads of its files are. Which of them are in a circle isn't decided here: what is denied is that there are none.
use Rattle.std.proofs.Common.{◌≡◌, ℕ, zero, suc, ◌+◌, ◌<◌, Bool, true, false, cond, Option, Some, None, List, [], ◌∷◌, length, map, slice_get, refl, ap, sym, ◌∙◌, subst, arith}
use Rattle.std.specs.List.{AllByRecursion, AllPairs, Contains}
use Rattle.std.specs.List.Sorted.{IsStrictlyIncreasing}
use Rattle.std.proofs.lemmas.List.Elements.{All-from_recursion}
use Rattle.std.proofs.lemmas.List.Kept.{AllPairs-cons}
use Rattle.std.proofs.lemmas.Option.{slice_get_within, get_or_from_slice_get}
use Rattle.gv_base.specs.Files.{Entry, is_before}
use Rattle.gv_base.specs.declared.place.Place.{Place}
use Rattle.go_tree.specs.declared.head.Head.{Head}
use Rattle.need_order.specs.Graphs.{Leads}
use Rattle.import_graph.specs.Modules.{module_path}
use Rattle.import_graph.specs.Packages.{ArePackages, Imports, IsCyclic, IsImport, IsPackage, IsStateOf, clashes, files_of, home_of, imports_path, is_broken, is_stub_path, missing, numbers_from, paths_of}
use Rattle.import_graph.specs.Tables.{source_paths}
use Rattle.import_graph.specs.declared.pack.Package.{Package}
use Rattle.import_graph.specs.declared.pack.PackState.{PackState}
use Rattle.import_graph.specs.declared.pack.PackState.TheVariants.{Broken, NameClash, MissingImport, ImportCycle, Sound}
use Rattle.import_graph.proofs.OrderLemmas.{path-as}
use Rattle.import_graph.proofs.PackageLemmas.{name-some, some-file, state-as}
use Rattle.readable.proofs.Names.{Rising, names_from, names_have, names_of, names_rising}
use Rattle.readable.proofs.Numbers.{Table, in_numbers, numbers_in, numbers_rise, table}

-- ---- the state

abbrev state_by : Bool → List Place → List Place → Bool → PackState
state_by true clashing lost cyclic = Broken
state_by false (p ∷ ps) lost cyclic = NameClash (p ∷ ps)
state_by false [] (p ∷ ps) cyclic = MissingImport (p ∷ ps)
state_by false [] [] true = ImportCycle
state_by false [] [] false = Sound

some_places : (p : Place) (ps : List Place) → p ∷ ps ≡ [] → ⊥
some_places p ps e = cc

state_is : (heads : List (Option Head)) (paths : List (List ℕ)) (files : List ℕ) (broken : Bool) (clashing lost : List Place) (cyclic : Bool)
    → is_broken heads files ≡ broken → clashes heads files ≡ clashing → missing heads paths files ≡ lost → IsStateOf (cyclic ≡ true) heads paths files (state_by broken clashing lost cyclic)
state_is heads paths files true clashing lost cyclic b c m = b
state_is heads paths files false (p ∷ ps) lost cyclic b c m = (b, sym c, some_places p ps)
state_is heads paths files false [] (p ∷ ps) cyclic b c m = (b, c, sym m, some_places p ps)
state_is heads paths files false [] [] true b c m = (record { parsed = b; agree = c; found = m }, refl)
state_is heads paths files false [] [] false b c m = (record { parsed = b; agree = c; found = m }, λ e. absurd (cc))

-- ---- the packages of these names

module _ (tree : List Entry) (heads : List (Option Head)) (names : List (List ℕ)) where
  abbrev imports_by : Bool → List ℕ → List ℕ
  imports_by broken files = cond broken [] (numbers_from (imports_path heads files) 0 names)

  abbrev imports_of : List ℕ → List ℕ
  imports_of name = imports_by (is_broken heads (files_of tree name)) (files_of tree name)

  abbrev state_of : List ℕ → Bool → PackState
  state_of files cyclic = state_by (is_broken heads files) (clashes heads files) (missing heads names files) cyclic

  abbrev package_of : List ℕ → Bool → Package
  package_of name cyclic = record { path = name; stub = is_stub_path tree name; files = files_of tree name; imports = imports_of name; state = state_of (files_of tree name) cyclic }

  abbrev packages_of : List (List ℕ) → (ℕ → Bool) → List Package
  packages_of [] cyclic = []
  packages_of (n ∷ ns) cyclic = package_of n (cyclic 0) ∷ packages_of ns (λ k. cyclic (suc k))

  get_package : (ns : List (List ℕ)) (cyclic : ℕ → Bool) (k : ℕ) (name : List ℕ) → slice_get ns k ≡ Some name → slice_get (packages_of ns cyclic) k ≡ Some (package_of name (cyclic k))
  get_package [] cyclic k name at = absurd (let e : None ≡ Some name = at in cc)
  get_package (n ∷ ns) cyclic zero name at = (let e : Some n ≡ Some name = at in let f : n ≡ name = cc in ap (λ (m : List ℕ). Some (package_of m (cyclic 0))) f)
  get_package (n ∷ ns) cyclic (suc k) name at = get_package ns (λ j. cyclic (suc j)) k name at

  package_got : (ns : List (List ℕ)) (cyclic : ℕ → Bool) (k : ℕ) (p : Package) → slice_get (packages_of ns cyclic) k ≡ Some p → (name : List ℕ) × (slice_get ns k ≡ Some name) × (package_of name (cyclic k) ≡ p)
  package_got [] cyclic k p at = absurd (let e : None ≡ Some p = at in cc)
  package_got (n ∷ ns) cyclic zero p at = (n, refl, let e : Some (package_of n (cyclic 0)) ≡ Some p = at in cc)
  package_got (n ∷ ns) cyclic (suc k) p at = package_got ns (λ j. cyclic (suc j)) k p at

  paths_are : (ns : List (List ℕ)) (cyclic : ℕ → Bool) → paths_of (packages_of ns cyclic) ≡ ns
  paths_are [] cyclic = refl
  paths_are (n ∷ ns) cyclic = ap (λ (ms : List (List ℕ)). n ∷ ms) (paths_are ns (λ k. cyclic (suc k)))

  all_after : (n : List ℕ) (ns : List (List ℕ)) (cyclic : ℕ → Bool) → AllByRecursion (λ (m : List ℕ). is_before n m ≡ true) ns → AllByRecursion (λ (p : Package). is_before n p.path ≡ true) (packages_of ns cyclic)
  all_after n [] cyclic all = tt
  all_after n (m ∷ ms) cyclic all = (all.0, all_after n ms (λ k. cyclic (suc k)) all.1)

  in_order : (ns : List (List ℕ)) (cyclic : ℕ → Bool) → Rising ns → AllPairs (λ (p q : Package). is_before p.path q.path ≡ true) (packages_of ns cyclic)
  in_order [] cyclic rising = λ i j d lt within. absurd (omega (arith, within))
  in_order (n ∷ ns) cyclic rising =
      AllPairs-cons (λ (p q : Package). is_before p.path q.path ≡ true) (package_of n (cyclic 0)) (packages_of ns (λ k. cyclic (suc k)))
      (All-from_recursion (λ (p : Package). is_before n p.path ≡ true) (packages_of ns (λ k. cyclic (suc k))) (all_after n ns (λ k. cyclic (suc k)) rising.0))
      (in_order ns (λ k. cyclic (suc k)) rising.1)

  -- ---- what they import

  abbrev NeedsOf : ℕ → ℕ → Type 0
  NeedsOf a b = (name : List ℕ) × (slice_get names a ≡ Some name) × Contains (imports_of name) b

  abbrev InCircle : ℕ → Type 0
  InCircle k = Leads NeedsOf k k

  needs_imports : (cyclic : ℕ → Bool) (a b : ℕ) → NeedsOf a b → Imports (packages_of names cyclic) a b
  needs_imports cyclic a b (name, at, has) = (package_of name (cyclic a), get_package names cyclic a name at, has)

  imports_needs : (cyclic : ℕ → Bool) (a b : ℕ) → Imports (packages_of names cyclic) a b → NeedsOf a b
  imports_needs cyclic a b (p, at, has) = let got = package_got names cyclic a p at in (got.0, got.1, subst (λ (q : Package). Contains q.imports b) (sym got.2) has)

  circle_cyclic : (cyclic : ℕ → Bool) (k : ℕ) → InCircle k → IsCyclic (packages_of names cyclic) k
  circle_cyclic cyclic k (via, path) = (via, path-as NeedsOf (Imports (packages_of names cyclic)) (needs_imports cyclic) via k k path)

  cyclic_circle : (cyclic : ℕ → Bool) (k : ℕ) → IsCyclic (packages_of names cyclic) k → InCircle k
  cyclic_circle cyclic k (via, path) = (via, path-as (Imports (packages_of names cyclic)) NeedsOf (imports_needs cyclic) via k k path)

  imports_into : (cyclic : ℕ → Bool) (files : List ℕ) (n : ℕ) (broken : Bool) → is_broken heads files ≡ broken → Contains (imports_by broken files) n → IsImport heads (packages_of names cyclic) files n
  imports_into cyclic files n true is (k, l, e) = absurd (omega (arith, l))
  imports_into cyclic files n false is has =
      let passed = numbers_in (imports_path heads files) 0 names n has in
      let number = passed.number in
      let same : passed.place ≡ n = omega (arith, number) in
      (is, (package_of passed.item (cyclic n), get_package names cyclic n passed.item (ap (slice_get names) (sym same) ∙ passed.stands), passed.told))

  imports_from : (cyclic : ℕ → Bool) (files : List ℕ) (n : ℕ) (broken : Bool) → is_broken heads files ≡ broken → IsImport heads (packages_of names cyclic) files n → Contains (imports_by broken files) n
  imports_from cyclic files n true is h = absurd (let e : true ≡ false = sym is ∙ h.0 in cc)
  imports_from cyclic files n false is h =
      let got = package_got names cyclic n h.1.0 h.1.1 in
      let path : got.0 ≡ h.1.0.path = ap (λ (p : Package). p.path) got.2 in
      in_numbers (imports_path heads files) 0 names n (record { place = n; item = got.0; number = omega arith; stands = got.1; told = ap (imports_path heads files) path ∙ h.1.2 })

  imports_rise : (files : List ℕ) (broken : Bool) → IsStrictlyIncreasing (imports_by broken files)
  imports_rise files true = λ k within. absurd (omega (arith, within))
  imports_rise files false = numbers_rise (imports_path heads files) 0 names

-- ---- the packages of a tree

module _ (tree : List Entry) (heads : List (Option Head)) where
  abbrev texts : List (List ℕ)
  texts = source_paths (map (home_of (module_path tree)) tree)

  abbrev names : List (List ℕ)
  names = names_of texts

  module _ (t : Table (InCircle tree heads names) (length names)) where
    abbrev packages : List Package
    packages = packages_of tree heads names names t.tells

    one_package : (k : ℕ) (name : List ℕ) → slice_get names k ≡ Some name → IsPackage tree heads packages k (package_of tree heads names name (t.tells k))
    one_package k name at =
        let within = slice_get_within names k name at in
        let files = files_of tree name in
        let here : Contains names name = (k, within, get_or_from_slice_get names k name name at) in
        let state = state_is heads names files (is_broken heads files) (clashes heads files) (missing heads names files) (t.tells k) refl refl refl in
        record {
          files = refl;
          some = name-some tree name (names_from texts name here);
          stub = refl;
          rising = imports_rise tree heads names files (is_broken heads files);
          imports = λ n. (imports_into tree heads names t.tells files n (is_broken heads files) refl, imports_from tree heads names t.tells files n (is_broken heads files) refl);
          state = subst (λ (paths : List (List ℕ)). IsStateOf (IsCyclic packages k) heads paths files (state_of tree heads names files (t.tells k))) (sym (paths_are tree heads names names t.tells))
              (state-as (t.tells k ≡ true) (IsCyclic packages k) (λ e. circle_cyclic tree heads names t.tells k (t.so k within e)) (λ c. t.told k within (cyclic_circle tree heads names t.tells k c)) heads names files (state_of tree heads names files (t.tells k)) state);
        }

    are_packages : ArePackages tree heads packages
    are_packages = record {
      order = in_order tree heads names names t.tells (names_rising texts);
      each = λ k p at. (let got = package_got tree heads names names t.tells k p at in subst (IsPackage tree heads packages k) got.2 (one_package k got.0 got.1));
      every = λ path some. subst (λ (paths : List (List ℕ)). Contains paths path) (sym (paths_are tree heads names names t.tells)) (names_have texts path (some-file tree path some));
    }

  pub has_packages : ((packages : List Package) → ArePackages tree heads packages → ⊥) → ⊥
  has_packages none = table (InCircle tree heads names) (length names) (λ t. none (packages t) (are_packages t))
