-- The packages of a tree: where its source files stand, what they import, and whether they can be loaded.
use Rattle.std.specs.Prelude.{◌≡◌, ◌↔◌, ℕ, suc, Bool, true, false, cond, not, ◌&&◌, ◌||◌, Option, Some, None, List, [], ◌∷◌, map, get_or, slice_get, flat_map, bytes_eq, codes}
use Rattle.std.specs.List.{AllPairs, Contains, filter, list_any}
use Rattle.std.specs.List.Sorted.{IsStrictlyIncreasing}
use Rattle.gv_base.specs.Files.{Entry, is_before}
use Rattle.gv_base.specs.declared.place.Place.{Place}
use Rattle.go_tree.specs.declared.head.Head.{Head}
use Rattle.go_tree.specs.declared.head.ImportLine.{ImportLine}
use Rattle.go_tree.specs.declared.head.LocalName.{LocalName}
use Rattle.go_tree.specs.declared.head.LocalName.TheVariants.{Default, Named, Blank, Dot}
use Rattle.need_order.specs.Graphs.{Leads}
use Rattle.import_graph.specs.Modules.{module_path}
use Rattle.import_graph.specs.Sources.{is_source, is_stub, directory_of, package_of}
use Rattle.import_graph.specs.declared.homes.Home.{Home}
use Rattle.import_graph.specs.declared.pack.PackState.{PackState}
use Rattle.import_graph.specs.declared.pack.PackState.TheVariants.{Broken, NameClash, MissingImport, ImportCycle, Sound}
use Rattle.import_graph.specs.declared.pack.Package.{Package}

-- where a file stands: whether it is a source file, whether under `std`, and the path of its directory's package
abbrev pub home_of : List ℕ → Entry → Home
home_of root file = record { source = is_source file.0; stub = is_stub (directory_of file.0); path = package_of root (directory_of file.0) }

-- a source file of the module's package or of the stub of this path
abbrev pub is_of : Bool → List ℕ → Home → Bool
is_of stub path home = home.source && (cond stub home.stub (not home.stub) && bytes_eq home.path path)

-- the numbers, from n on, of the items that pass the test
abbrev pub numbers_from : {A : Type 0} → (A → Bool) → ℕ → List A → List ℕ
numbers_from test n [] = []
numbers_from test n (x ∷ xs) = cond (test x) (n ∷ numbers_from test (suc n) xs) (numbers_from test (suc n) xs)

-- the numbers of the files of the module's package or of the stub of this path
abbrev pub files_in : List Entry → Bool → List ℕ → List ℕ
files_in tree stub path = numbers_from (λ file. is_of stub path (home_of (module_path tree) file)) 0 tree

abbrev pub is_empty : List ℕ → Bool
is_empty [] = true
is_empty (n ∷ ns) = false

-- a path that the module's package has isn't a stub's
abbrev pub is_stub_path : List Entry → List ℕ → Bool
is_stub_path tree path = is_empty (files_in tree false path)

-- the files of the package of a path, none where there is no such package
abbrev pub files_of : List Entry → List ℕ → List ℕ
files_of tree path = files_in tree (is_stub_path tree path) path

abbrev pub head_at : List (Option Head) → ℕ → Option Head
head_at heads n = get_or heads n None

abbrev pub is_missing : Option Head → Bool
is_missing None = true
is_missing (Some h) = false

-- some file is broken
abbrev pub is_broken : List (Option Head) → List ℕ → Bool
is_broken heads files = list_any (λ n. is_missing (head_at heads n)) files

abbrev pub name_of : Option Head → List ℕ
name_of None = []
name_of (Some h) = h.name

-- the package name of the first file
abbrev pub first_name : List (Option Head) → List ℕ → List ℕ
first_name heads [] = []
first_name heads (n ∷ ns) = name_of (head_at heads n)

abbrev pub clash_in : List ℕ → ℕ → Option Head → List Place
clash_in name n None = []
clash_in name n (Some h) = cond (bytes_eq h.name name) [] (record { file = n; offset = h.name_at } ∷ [])

-- the package names that differ from that of the first file
abbrev pub clashes : List (Option Head) → List ℕ → List Place
clashes heads files = flat_map (λ n. clash_in (first_name heads files) n (head_at heads n)) files

abbrev pub is_dot : LocalName → Bool
is_dot Default = false
is_dot (Named name) = false
is_dot Blank = false
is_dot Dot = true

-- imports of `unsafe` and `C` and dot imports lead to no package, and are never missing
abbrev pub counts : ImportLine → Bool
counts line = not (is_dot line.local || (bytes_eq line.path (codes "unsafe") || bytes_eq line.path (codes "C")))

abbrev pub lines_in : Option Head → List ImportLine
lines_in None = []
lines_in (Some h) = filter counts h.imports

-- the imports of files that count
abbrev pub lines_of : List (Option Head) → List ℕ → List ImportLine
lines_of heads files = flat_map (λ n. lines_in (head_at heads n)) files

-- whether these files import this path
abbrev pub imports_path : List (Option Head) → List ℕ → List ℕ → Bool
imports_path heads files path = list_any (λ line. bytes_eq line.path path) (lines_of heads files)

abbrev pub missing_at : List (List ℕ) → ℕ → ImportLine → List Place
missing_at paths n line = cond (list_any (λ path. bytes_eq path line.path) paths) [] (record { file = n; offset = line.at } ∷ [])

-- the imports whose path is no package's
abbrev pub missing : List (Option Head) → List (List ℕ) → List ℕ → List Place
missing heads paths files = flat_map (λ n. flat_map (missing_at paths n) (lines_in (head_at heads n))) files

abbrev pub paths_of : List Package → List (List ℕ)
paths_of packages = map (λ p. p.path) packages

-- package a imports package b
abbrev pub Imports : List Package → ℕ → ℕ → Type 0
Imports packages a b = (p : Package) × (slice_get packages a ≡ Some p) × Contains p.imports b

-- the package reaches itself by imports
abbrev pub IsCyclic : List Package → ℕ → Type 0
IsCyclic packages a = Leads (Imports packages) a a

-- none of the first three states holds
pub record IsWhole (heads : List (Option Head)) (paths : List (List ℕ)) (files : List ℕ) : Type 0 where
  pub parsed : is_broken heads files ≡ false
  pub agree : clashes heads files ≡ []
  pub found : missing heads paths files ≡ []

-- the state of a package, the first that holds, where `cyclic` says that it reaches itself
abbrev pub IsStateOf : Type 0 → List (Option Head) → List (List ℕ) → List ℕ → PackState → Type 0
IsStateOf cyclic heads paths files Broken = is_broken heads files ≡ true
IsStateOf cyclic heads paths files (NameClash places) = (is_broken heads files ≡ false) × (places ≡ clashes heads files) × ¬ (places ≡ [])
IsStateOf cyclic heads paths files (MissingImport places) =
    (is_broken heads files ≡ false) × (clashes heads files ≡ []) × (places ≡ missing heads paths files) × ¬ (places ≡ [])
IsStateOf cyclic heads paths files ImportCycle = IsWhole heads paths files × cyclic
IsStateOf cyclic heads paths files Sound = IsWhole heads paths files × ¬ cyclic

-- the files import the package of this number; a broken package has no imports
abbrev pub IsImport : List (Option Head) → List Package → List ℕ → ℕ → Type 0
IsImport heads packages files n =
    (is_broken heads files ≡ false) × ((q : Package) × (slice_get packages n ≡ Some q) × (imports_path heads files q.path ≡ true))

-- the package of its path
pub record IsPackage (tree : List Entry) (heads : List (Option Head)) (packages : List Package) (k : ℕ) (p : Package) : Type 0 where
  pub files : p.files ≡ files_of tree p.path
  pub some : ¬ (p.files ≡ [])
  pub stub : p.stub ≡ is_stub_path tree p.path
  pub rising : IsStrictlyIncreasing p.imports
  pub imports : (n : ℕ) → Contains p.imports n ↔ IsImport heads packages p.files n
  pub state : IsStateOf (IsCyclic packages k) heads (paths_of packages) p.files p.state

-- the packages of a tree, in byte order of path: each path of which there are files is the path of one
pub record ArePackages (tree : List Entry) (heads : List (Option Head)) (packages : List Package) : Type 0 where
  pub order : AllPairs (λ p q. is_before p.path q.path ≡ true) packages
  pub each : (k : ℕ) (p : Package) → slice_get packages k ≡ Some p → IsPackage tree heads packages k p
  pub every : (path : List ℕ) → ¬ (files_of tree path ≡ []) → Contains (paths_of packages) path
