-- The packages of a tree from its tables.
use Rattle.std.proofs.Common.{◌≡◌, ℕ, ◌+◌, ◌<◌, ◌≤◌, Bool, true, false, IsTrue, cond, not, ◌&&◌, Option, Some, List, [], ◌∷◌, ◌++◌, length, map, get_or, slice_get, slice_index_or, refl, ap, sym, ◌∙◌, subst, arith}
use Rattle.std.specs.Global.{Vec}
use Rattle.std.specs.Str.{bytes_eq}
use Rattle.std.specs.List.{AllPairs, Contains}
use Rattle.std.specs.List.Sorted.{IsStrictlyIncreasing}
use Rattle.std.proofs.lemmas.List.{length-map}
use Rattle.std.proofs.lemmas.Option.{slice_get-get_or, slice_get_within, get_or_from_slice_get}
use Rattle.std.proofs.lemmas.Slice.Eq.{bytes_eq-Decides}
use Rattle.gv_base.specs.Files.{Entry, is_before}
use Rattle.go_tree.specs.declared.head.Head.{Head}
use Rattle.need_order.specs.Graphs.{Needs, IsClosed}
use Rattle.import_graph.specs.Modules.{module_path}
use Rattle.import_graph.specs.Packages.{home_of, is_of, files_in, is_empty, is_stub_path, files_of, is_broken, imports_path, paths_of, Imports, IsCyclic, IsStateOf, IsPackage, ArePackages}
use Rattle.import_graph.specs.Tables.{source_paths, AreSorted, row_at, AreRows, chosen, AreDrafts, imports_in, AreFlags, IsBuilt, AreBuilt}
use Rattle.import_graph.specs.declared.homes.Home.{Home}
use Rattle.import_graph.specs.declared.drafts.Draft.{Draft}
use Rattle.import_graph.specs.declared.pack.Package.{Package}
use Rattle.import_graph.specs.declared.pack.PackState.{PackState}
use Rattle.import_graph.specs.declared.pack.PackState.TheVariants.{Broken, NameClash, MissingImport, ImportCycle, Sound}
use Rattle.import_graph.proofs.ListLemmas.{each-more, length-more, same-list, get-map, map-get, numbers-map, numbers-some, some-numbers, not-empty, empty-is, in-mapped, mapped-in}
use Rattle.import_graph.proofs.OrderLemmas.{path-as}

pub state-as : (P Q : Type 0) → (P → Q) → (Q → P) → (heads : List (Option Head)) (paths : List (List ℕ)) (files : List ℕ) (s : PackState) → IsStateOf P heads paths files s → IsStateOf Q heads paths files s
state-as P Q f g heads paths files Broken h = h
state-as P Q f g heads paths files (NameClash places) h = h
state-as P Q f g heads paths files (MissingImport places) h = h
state-as P Q f g heads paths files ImportCycle h = (h.0, f h.1)
state-as P Q f g heads paths files Sound h = (h.0, λ q. h.1 (g q))

-- the row of the module's files, and which files are chosen
pub row-is : (stub : Bool) (tree : List Entry) (names : List (List ℕ)) (rows : List (Vec ℕ)) → AreRows stub (map (home_of (module_path tree)) tree) names rows
    → (k : ℕ) (name : List ℕ) → slice_get names k ≡ Some name → row_at rows k ≡ files_in tree stub name
row-is stub tree names rows are k name at = are.each k name at ∙ numbers-map (is_of stub name) (home_of (module_path tree)) 0 tree

choose : (f : Bool → List ℕ) (b : Bool) → cond b (f true) (f false) ≡ f b
choose f true = refl
choose f false = refl

pub chosen-is : (tree : List Entry) (name row other : List ℕ) → row ≡ files_in tree false name → other ≡ files_in tree true name → chosen row other ≡ files_of tree name
chosen-is tree name row other e f =
    ap (λ r. chosen r other) e ∙ ap (chosen (files_in tree false name)) f ∙ choose (λ b. files_in tree b name) (is_stub_path tree name)

pub and-left : (a b : Bool) → (a && b) ≡ true → a ≡ true
and-left true b e = refl
and-left false b e = cc

pub and-right : (a b : Bool) → (a && b) ≡ true → b ≡ true
and-right true b e = e
and-right false b e = cc

kind-of : (a s d : Bool) → a ≡ true → d ≡ true → (stub : Bool) × ((a && (cond stub s (not s) && d)) ≡ true)
kind-of true true true e f = (true, refl)
kind-of true false true e f = (false, refl)
kind-of true s false e f = absurd (let g : false ≡ true = f in cc)
kind-of false s d e f = absurd (let g : false ≡ true = e in cc)

some-of : (f : Bool → List ℕ) (stub : Bool) → (f stub ≡ [] → ⊥) → (b : Bool) → is_empty (f false) ≡ b → f b ≡ [] → ⊥
some-of f true lacks true e none = lacks none
some-of f false lacks true e none = lacks (empty-is (f false) e)
some-of f stub lacks false e none = not-empty (f false) e none

-- a source file's path has files
pub files-some : (tree : List Entry) (k : ℕ) (file : Entry) → slice_get tree k ≡ Some file → (home_of (module_path tree) file).source ≡ true
    → files_of tree (home_of (module_path tree) file).path ≡ [] → ⊥
files-some tree k file at source none =
    let home = home_of (module_path tree) file in
    let r = kind-of home.source home.stub (bytes_eq home.path home.path) source ((bytes_eq-Decides home.path home.path).1 refl) in
    some-of (λ b. files_in tree b home.path) r.0
    (numbers-some (λ f. is_of r.0 home.path (home_of (module_path tree) f)) 0 tree k file at r.1)
    (is_stub_path tree home.path) refl none

-- a path with files is that of a source file
pub some-file : (tree : List Entry) (path : List ℕ) → (files_of tree path ≡ [] → ⊥) → Contains (source_paths (map (home_of (module_path tree)) tree)) path
some-file tree path lacks =
    let stub = is_stub_path tree path in
    let homes = map (home_of (module_path tree)) tree in
    let r = some-numbers (λ f. is_of stub path (home_of (module_path tree) f)) 0 tree lacks in
    let home = home_of (module_path tree) r.item in
    let rest = and-right home.source (cond stub home.stub (not home.stub) && bytes_eq home.path path) r.told in
    let e : home.path ≡ path = (bytes_eq-Decides home.path path).0 (and-right (cond stub home.stub (not home.stub)) (bytes_eq home.path path) rest) in
    subst (Contains (source_paths homes)) e
    (mapped-in (λ h. h.path) (λ h. h.source) homes r.place home (get-map (home_of (module_path tree)) tree r.place r.item r.stands)
    (and-left home.source (cond stub home.stub (not home.stub) && bytes_eq home.path path) r.told))

pub name-some : (tree : List Entry) (name : List ℕ) → Contains (source_paths (map (home_of (module_path tree)) tree)) name → files_of tree name ≡ [] → ⊥
name-some tree name has none =
    let r = in-mapped (λ h. h.path) (λ h. h.source) (map (home_of (module_path tree)) tree) name has in
    let f = map-get (home_of (module_path tree)) tree r.0 r.1 r.2 in
    files-some tree r.0 f.0 f.1 (ap (λ h. h.source) f.2 ∙ r.3) (ap (files_of tree) (ap (λ h. h.path) f.2 ∙ r.4) ∙ none)

get-contains-text : (xs : List (List ℕ)) (k : ℕ) (x : List ℕ) → slice_get xs k ≡ Some x → Contains xs x
get-contains-text xs k x e = (k, slice_get_within xs k x e, get_or_from_slice_get xs k x x e)

-- one package more
pub built-more : (heads : List (Option Head)) (names : List (List ℕ)) (drafts : List Draft) (flags : List Bool) (k : ℕ) (packages more : List Package) (name text : List ℕ) (d : Draft) (p : Package) (b : Bool)
    → AreBuilt heads names drafts flags k packages → k < length names → length drafts ≡ length names → name ≡ get_or names k name → d ≡ get_or drafts k d → text ≡ name
    → IsBuilt heads names text d b p → b ≡ get_or flags k false → more ≡ packages ++ p ∷ [] → AreBuilt heads names drafts flags (k + 1) more
built-more heads names drafts flags k packages more name text d p b are l same is-name is-draft is-text built flag is =
    let m : k < length drafts = omega (arith, l, same) in
    record {
      size = length-more packages more p k are.size is;
      each = each-more (λ k p. (name : List ℕ) × (d : Draft) × (slice_get names k ≡ Some name) × (slice_get drafts k ≡ Some d) × IsBuilt heads names name d (get_or flags k false) p)
          packages more p k are.size are.each (
            name,
            d,
            slice_get-get_or names k name l ∙ ap Some (sym is-name),
            slice_get-get_or drafts k d m ∙ ap Some (sym is-draft),
            subst (λ t. IsBuilt heads names t d (get_or flags k false) p) is-text (subst (λ t. IsBuilt heads names text d t p) flag built),
          )
          is;
    }

-- there are no more names than files
pub few : (names given : List (List ℕ)) (homes places : List Home) → given ≡ names → places ≡ homes → length names ≤ length places → length homes < 4294967296 → length given < 4294967296
few names given homes places e f short l =
    let a : length given ≡ length names = ap length e in
    let b : length places ≡ length homes = ap length f in
    omega (arith, a, b, short, l)

pub few-drafts : (drafts given : List Draft) (names : List (List ℕ)) → given ≡ drafts → length drafts ≡ length names → length names < 4294967296 → length given < 4294967296
few-drafts drafts given names e size l = let a : length given ≡ length drafts = ap length e in omega (arith, a, size, l)

pub few-packages : (packages : List Package) (names : List (List ℕ)) → length packages ≡ length names → length names < 4294967296 → length packages < 4294967296
few-packages packages names size l = omega (arith, size, l)

-- each import is a package's number
pub drafts-closed : (heads : List (Option Head)) (names : List (List ℕ)) (modules stubs : List (Vec ℕ)) (drafts : List Draft) → AreDrafts heads names modules stubs (length names) drafts → IsClosed (imports_in drafts)
drafts-closed heads names modules stubs drafts are = record {
  within = λ a b t.
      let d = map-get (λ (d : Draft). d.imports) drafts a t.0 t.1 in
      let i = ((are.each a d.0 d.1).imports b).0 (subst (λ r. Contains r b) (sym d.2) t.2) in
      let l = slice_get_within names b i.1.0 i.1.1 in
      let e = length-map drafts (λ (d : Draft). d.imports) in
      let s = are.size in
      omega (arith, l, e, s);
}

module _ (tree : List Entry) (heads : List (Option Head)) (names : List (List ℕ)) (modules stubs : List (Vec ℕ)) (drafts : List Draft) (flags : List Bool) (packages : List Package)
    (sorted : AreSorted (source_paths (map (home_of (module_path tree)) tree)) names)
    (rows : AreRows false (map (home_of (module_path tree)) tree) names modules)
    (others : AreRows true (map (home_of (module_path tree)) tree) names stubs)
    (drafted : AreDrafts heads names modules stubs (length names) drafts)
    (flagged : AreFlags (imports_in drafts) flags)
    (built : AreBuilt heads names drafts flags (length names) packages) where
  paths-are : paths_of packages ≡ names
  paths-are = same-list (paths_of packages) names (length-map packages (λ p. p.path) ∙ built.size)
      (λ k path at. let p = map-get (λ (p : Package). p.path) packages k path at in
      let b = built.each k p.0 p.1 in b.2 ∙ ap Some (sym b.4.path ∙ p.2))

  order-is : AllPairs (λ p q. is_before p.path q.path ≡ true) packages
  order-is i j d lt within =
      let e = length-map packages (λ (p : Package). p.path) in
      let l : i < length packages = omega (arith, lt, within) in
      let n : j < length names = (let s = built.size in omega (arith, s, within)) in
      let p = slice_index_or packages i d in
      let q = slice_index_or packages j d in
      let f : slice_get names i ≡ Some p.path = ap (λ t. slice_get t i) (sym paths-are) ∙ get-map (λ (p : Package). p.path) packages i p (slice_get-get_or packages i d l) in
      let g : slice_get names j ≡ Some q.path = ap (λ t. slice_get t j) (sym paths-are) ∙ get-map (λ (p : Package). p.path) packages j q (slice_get-get_or packages j d within) in
      let a : slice_index_or names i [] ≡ p.path = get_or_from_slice_get names i p.path [] f in
      let b : slice_index_or names j [] ≡ q.path = get_or_from_slice_get names j q.path [] g in
      ap (λ t. is_before t q.path) (sym a) ∙ ap (is_before (slice_index_or names i [])) (sym b) ∙ sorted.order i j [] lt n

  needs-imports : (a b : ℕ) → Needs (imports_in drafts) a b → Imports packages a b
  needs-imports a b (row, get, has) =
      let d = map-get (λ (d : Draft). d.imports) drafts a row get in
      let l : a < length packages = (let x = slice_get_within drafts a d.0 d.1 in let y = drafted.size in let z = built.size in omega (arith, x, y, z)) in
      let p = slice_index_or packages a (record { path = []; stub = false; files = []; imports = []; state = Broken }) in
      let at : slice_get packages a ≡ Some p = slice_get-get_or packages a (record { path = []; stub = false; files = []; imports = []; state = Broken }) l in
      let r = built.each a p at in
      let s : Some r.1 ≡ Some d.0 = sym r.3 ∙ d.1 in
      let same : r.1 ≡ d.0 = cc in
      (p, at, subst (λ t. Contains t b) (sym d.2 ∙ ap (λ d. d.imports) (sym same) ∙ sym r.4.imports) has)

  imports-needs : (a b : ℕ) → Imports packages a b → Needs (imports_in drafts) a b
  imports-needs a b (p, at, has) =
      let r = built.each a p at in
      (r.1.imports, get-map (λ (d : Draft). d.imports) drafts a r.1 r.3, subst (λ t. Contains t b) r.4.imports has)

  one-package : (k : ℕ) (p : Package) → slice_get packages k ≡ Some p → IsPackage tree heads packages k p
  one-package k p at =
      let r = built.each k p at in
      let b = r.4 in
      let d = drafted.each k r.1 r.3 in
      let m : row_at modules k ≡ files_in tree false r.0 = row-is false tree names modules rows k r.0 r.2 in
      let o : row_at stubs k ≡ files_in tree true r.0 = row-is true tree names stubs others k r.0 r.2 in
      let fs : r.1.files ≡ files_of tree r.0 = d.files ∙ chosen-is tree r.0 (row_at modules k) (row_at stubs k) m o in
      let pf : p.files ≡ files_of tree p.path = b.files ∙ fs ∙ ap (files_of tree) (sym b.path) in
      let cf : chosen (row_at modules k) (row_at stubs k) ≡ p.files = sym d.files ∙ sym b.files in
      let n : k < length (imports_in drafts) = (let x = slice_get_within drafts k r.1 r.3 in let y = length-map drafts (λ (d : Draft). d.imports) in omega (arith, x, y)) in
      let g = flagged.each k n in
      record {
        files = pf;
        some = λ none. name-some tree r.0 ((sorted.same r.0).0 (get-contains-text names k r.0 r.2)) (sym fs ∙ sym b.files ∙ none);
        stub = b.stub ∙ d.stands ∙ ap is_empty m ∙ ap (λ t. is_stub_path tree t) (sym b.path);
        rising = subst IsStrictlyIncreasing (sym b.imports) d.rising;
        imports = λ n. (
          (λ has. let i = (d.imports n).0 (subst (λ t. Contains t n) b.imports has) in
              let q = map-get (λ (p : Package). p.path) packages n i.1.0 (ap (λ t. slice_get t n) paths-are ∙ i.1.1) in
              (subst (λ f. is_broken heads f ≡ false) cf i.0, (q.0, q.1, subst (λ f. imports_path heads f q.0.path ≡ true) cf (ap (imports_path heads (chosen (row_at modules k) (row_at stubs k))) q.2 ∙ i.1.2)))),
          (λ t. subst (λ r. Contains r n) (sym b.imports) ((d.imports n).1
              (subst (λ f. is_broken heads f ≡ false) (sym cf) t.0, (t.1.0.path, ap (λ r. slice_get r n) (sym paths-are) ∙ get-map (λ (p : Package). p.path) packages n t.1.0 t.1.1, subst (λ f. imports_path heads f t.1.0.path ≡ true) (sym cf) t.1.2)))),
        );
        state = subst (λ f. IsStateOf (IsCyclic packages k) heads (paths_of packages) f p.state) (sym b.files)
            (subst (λ t. IsStateOf (IsCyclic packages k) heads t r.1.files p.state) (sym paths-are)
            (state-as (IsTrue (get_or flags k false)) (IsCyclic packages k)
            (λ t. let l = g.0 t in (l.0, path-as (Needs (imports_in drafts)) (Imports packages) needs-imports l.0 k k l.1))
            (λ l. g.1 (l.0, path-as (Imports packages) (Needs (imports_in drafts)) imports-needs l.0 k k l.1))
            heads names r.1.files p.state b.state));
      }

  pub are-packages : ArePackages tree heads packages
  are-packages = record {
    order = order-is;
    each = one-package;
    every = λ path lacks. subst (λ t. Contains t path) (sym paths-are) ((sorted.same path).1 (some-file tree path lacks));
  }
