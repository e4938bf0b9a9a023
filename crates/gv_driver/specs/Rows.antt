-- Rows of packages as flags, one for each package of a tree.
use Rattle.std.specs.Prelude.{ℕ, zero, suc, Bool, true, false, if◌then◌else◌, List, [], ◌∷◌, ◌++◌, length, replicate, slice_index_or, slice_set, ◌≡◌, Option, Some, None, slice_get}
use Rattle.std.specs.Str.{bytes_eq}
use Rattle.gv_driver.specs.declared.node.Node.{Node}
use Rattle.gv_driver.specs.declared.tree.PackageTexts.{PackageTexts}

abbrev pub IsSet : List Bool → ℕ → Type 0
IsSet flags q = slice_index_or flags q false ≡ true

-- the flag of each of these numbers is set
abbrev pub with_all : List ℕ → List Bool → List Bool
with_all [] flags = flags
with_all (q ∷ row) flags = with_all row (slice_set flags q true)

-- the packages that are reached from what is seen of a package, as far as it is done
abbrev pub reach_in : Option (Option Node) → List ℕ
reach_in None = []
reach_in (Some None) = []
reach_in (Some (Some n)) = n.reach

-- a package, and what is reached from it
abbrev pub with_reach : List (Option Node) → ℕ → List Bool → List Bool
with_reach table q flags = with_all (reach_in (slice_get table q)) (slice_set flags q true)

-- these packages, and what is reached from them
abbrev pub with_each : List (Option Node) → List ℕ → List Bool → List Bool
with_each table [] flags = flags
with_each table (q ∷ numbers) flags = with_each table numbers (with_reach table q flags)

abbrev pub one_if : Bool → ℕ → List ℕ
one_if true k = k ∷ []
one_if false k = []

-- the places below this one whose flags are set
abbrev pub places_below : List Bool → ℕ → List ℕ
places_below flags zero = []
places_below flags (suc k) = places_below flags k ++ one_if (slice_index_or flags k false) k

-- These packages and what is reached from them, as far as the table knows, in the order of their numbers.
abbrev pub merged : List (Option Node) → List ℕ → List ℕ
merged table numbers = places_below (with_each table numbers (replicate (length table) false)) (length table)

abbrev pub path_in : Option PackageTexts → List ℕ
path_in None = []
path_in (Some pack) = pack.path

-- the path is one of these
abbrev pub is_among : List (List ℕ) → List ℕ → Bool
is_among [] path = false
is_among (x ∷ paths) path = if bytes_eq x path then true else is_among paths path

-- those of the packages whose path is one of these
abbrev pub of_paths : List PackageTexts → List (List ℕ) → List ℕ → List ℕ
of_paths tree paths [] = []
of_paths tree paths (q ∷ numbers) = if is_among paths (path_in (slice_get tree q)) then q ∷ of_paths tree paths numbers else of_paths tree paths numbers
