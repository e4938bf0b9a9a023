-- Tables on the way to the packages.
use Rattle.std.specs.Prelude.{◌≡◌, ◌↔◌, ℕ, ◌<◌, Bool, true, false, IsTrue, cond, Option, Some, None, List, [], ◌∷◌, ◌++◌, ◌&&◌, ◌==◌, length, map, get_or, slice_get, bytes_eq}
use Rattle.std.specs.Global.{Vec}
use Rattle.std.specs.List.Sorted.{IsStrictlyIncreasing}
use Rattle.std.specs.List.{AllPairs, Contains, filter, list_any}
use Rattle.gv_base.specs.Files.{is_before}
use Rattle.import_graph.specs.Packages.{numbers_from, is_of, is_empty, is_broken, imports_path, IsStateOf}
use Rattle.go_tree.specs.declared.head.Head.{Head}
use Rattle.go_tree.specs.declared.head.ImportLine.{ImportLine}
use Rattle.need_order.specs.declared.needed.Needed.{Needed}
use Rattle.need_order.specs.Graphs.{Needs, Leads}
use Rattle.import_graph.specs.declared.homes.Home.{Home}
use Rattle.import_graph.specs.declared.drafts.Draft.{Draft}
use Rattle.import_graph.specs.declared.pack.Package.{Package}

-- the paths of the source files' packages
abbrev pub source_paths : List Home → List (List ℕ)
source_paths homes = map (λ home. home.path) (filter (λ home. home.source) homes)

-- distinct texts in byte order
abbrev pub AreAscending : List (List ℕ) → Type 0
AreAscending names = AllPairs (λ p q. is_before p q ≡ true) names

-- the same texts, in byte order, each once
pub record AreSorted (texts names : List (List ℕ)) : Type 0 where
  pub order : AreAscending names
  pub same : (name : List ℕ) → Contains names name ↔ Contains texts name

-- the place of a text
abbrev pub IsPlaceIn : List (List ℕ) → List ℕ → Option ℕ → Type 0
IsPlaceIn names text None = ¬ Contains names text
IsPlaceIn names text (Some k) = slice_get names k ≡ Some text

-- what stands at a place of some lists
abbrev pub row_at : List (Vec ℕ) → ℕ → List ℕ
row_at rows k = get_or (map (λ row. row.items) rows) k []

-- a row for each name, with the numbers of its files in the module or under `std`
pub record AreRows (stub : Bool) (homes : List Home) (names : List (List ℕ)) (rows : List (Vec ℕ)) : Type 0 where
  pub size : length rows ≡ length names
  pub each : (k : ℕ) (name : List ℕ) → slice_get names k ≡ Some name → row_at rows k ≡ numbers_from (is_of stub name) 0 homes

-- each name's row with one file more, where it is of that name
pub record AreLonger (stub : Bool) (home : Home) (n : ℕ) (names : List (List ℕ)) (rows more : List (Vec ℕ)) : Type 0 where
  pub size : length more ≡ length rows
  pub each : (k : ℕ) (name : List ℕ) → slice_get names k ≡ Some name → row_at more k ≡ row_at rows k ++ cond (is_of stub name home) (n ∷ []) []

-- the places of the names that these lines import
pub record AreFound (names : List (List ℕ)) (lines : List ImportLine) (found : List ℕ) : Type 0 where
  pub into : (k : ℕ) → Contains found k → (name : List ℕ) × (slice_get names k ≡ Some name) × (list_any (λ line. bytes_eq line.path name) lines ≡ true)
  pub from : (k : ℕ) (name : List ℕ) → slice_get names k ≡ Some name → list_any (λ line. bytes_eq line.path name) lines ≡ true → Contains found k

-- whatever lines were found before, these are found beside them
abbrev pub FindsMore : List (List ℕ) → List ImportLine → List ℕ → List ℕ → Type 0
FindsMore names lines found more = (before : List ImportLine) → AreFound names before found → AreFound names (before ++ lines) more

-- what is known of the package of a name before cycles are looked for
pub record IsDraft (heads : List (Option Head)) (names : List (List ℕ)) (stub : Bool) (given : List ℕ) (d : Draft) : Type 0 where
  pub stands : d.stub ≡ stub
  pub files : d.files ≡ given
  pub rising : IsStrictlyIncreasing d.imports
  pub imports : (n : ℕ) → Contains d.imports n ↔ ((is_broken heads given ≡ false) × ((q : List ℕ) × (slice_get names n ≡ Some q) × (imports_path heads given q ≡ true)))

-- what stands in the module's row, else what stands in the other
abbrev pub chosen : List ℕ → List ℕ → List ℕ
chosen row other = cond (is_empty row) other row

-- the drafts of the first names
pub record AreDrafts (heads : List (Option Head)) (names : List (List ℕ)) (modules stubs : List (Vec ℕ)) (n : ℕ) (drafts : List Draft) : Type 0 where
  pub size : length drafts ≡ n
  pub each : (k : ℕ) (d : Draft) → slice_get drafts k ≡ Some d → IsDraft heads names (is_empty (row_at modules k)) (chosen (row_at modules k) (row_at stubs k)) d

-- what each imports
abbrev pub imports_in : List Draft → List (List ℕ)
imports_in drafts = map (λ d. d.imports) drafts

-- whether the order says that this one is cyclic
abbrev pub says_cyclic : ℕ → List Needed → Bool
says_cyclic k needed = list_any (λ e. e.cyclic && e.vertex == k) needed

-- a flag for each that leads to itself
pub record AreFlags (rows : List (List ℕ)) (flags : List Bool) : Type 0 where
  pub size : length flags ≡ length rows
  pub each : (k : ℕ) → k < length rows → IsTrue (get_or flags k false) ↔ Leads (Needs rows) k k

-- a package from its draft
pub record IsBuilt (heads : List (Option Head)) (names : List (List ℕ)) (name : List ℕ) (d : Draft) (cyclic : Bool) (p : Package) : Type 0 where
  pub path : p.path ≡ name
  pub stub : p.stub ≡ d.stub
  pub files : p.files ≡ d.files
  pub imports : p.imports ≡ d.imports
  pub state : IsStateOf (IsTrue cyclic) heads names d.files p.state

-- the packages of the first names
pub record AreBuilt (heads : List (Option Head)) (names : List (List ℕ)) (drafts : List Draft) (flags : List Bool) (n : ℕ) (packages : List Package) : Type 0 where
  pub size : length packages ≡ n
  pub each : (k : ℕ) (p : Package) → slice_get packages k ≡ Some p
      → (name : List ℕ) × (d : Draft) × (slice_get names k ≡ Some name) × (slice_get drafts k ≡ Some d) × IsBuilt heads names name d (get_or flags k false) p
