-- Facts of other packages, as they are handed in: the path of each package, and the text of its facts.
use Rattle.std.specs.Prelude.{◌≡◌, ◌⊎◌, ℕ, Bool, List, [], ◌∷◌, ◌++◌, length, map, Option, Some, slice_get, option_and_then}
use Rattle.go_tree.specs.Lexeme.{place_of}
use Rattle.fact_codec.specs.Tables.{fact_of}
use Rattle.fact_codec.specs.Texts.{AreFacts}
use Rattle.least.specs.Tables.{Member, Entry, Table, IsTold}

-- the path of a package, and the text of its facts
abbrev pub Named : Type 0
Named = List ℕ × List ℕ

abbrev pub path_in : Named → List ℕ
path_in x = x.0

-- names, each with its fact
abbrev pub Facts : Type 0 → Type 0
Facts F = List (List ℕ × F)

-- What a text tells: the table that it spells; no fact where it spells none.
abbrev pub TellsFacts : {F : Type 0} → (F → List ℕ) → List ℕ → Facts F → Type 0
TellsFacts {F} spelling text table = AreFacts spelling table text ⊎ (((other : Facts F) → AreFacts spelling other text → ⊥) × (table ≡ []))

-- what the text at a place tells
abbrev pub IsNthTold : {F : Type 0} → (F → List ℕ) → List Named → ℕ → Facts F → Type 0
IsNthTold spelling given k table = (x : Named) → slice_get given k ≡ Some x → TellsFacts spelling x.1 table

-- those of the first few
pub record AreToldTo {F : Type 0} (spelling : F → List ℕ) (given : List Named) (n : ℕ) (tables : List (Facts F)) : Type 0 where
  pub size : length tables ≡ n
  pub each : (k : ℕ) (t : Facts F) → slice_get tables k ≡ Some t → IsNthTold spelling given k t

-- what the texts tell, each in turn
abbrev pub AreToldBy : {F : Type 0} → (F → List ℕ) → List Named → List (Facts F) → Type 0
AreToldBy spelling given tables = AreToldTo spelling given (length given) tables

-- each path stands once
abbrev pub ArePathsApart : List Named → Type 0
ArePathsApart given = (j k : ℕ) (x y : Named) → slice_get given j ≡ Some x → slice_get given k ≡ Some y → x.0 ≡ y.0 → j ≡ k

-- the fact that is handed in of a name of a package
abbrev pub fact_in : {F : Type 0} → List Named → List (Facts F) → List ℕ → List ℕ → Option F
fact_in given tables path name = option_and_then (λ t. fact_of t name) (option_and_then (slice_get tables) (place_of (map path_in given) path))

-- ---- as members

abbrev pub entry : List ℕ → ℕ → Entry
entry name kind = record { name = name; kind = kind }

-- a name is an entry for each kind of its fact
abbrev pub entries_of : {F : Type 0} → (F → List ℕ) → Facts F → List Entry
entries_of kinds [] = []
entries_of kinds (e ∷ table) = map (entry e.0) (kinds e.1) ++ entries_of kinds table

abbrev pub tables_of : {F : Type 0} → (F → List ℕ) → List Named → List (Facts F) → List Table
tables_of kinds [] tables = []
tables_of kinds (x ∷ given) [] = []
tables_of kinds (x ∷ given) (t ∷ tables) = record { path = x.0; entries = entries_of kinds t } ∷ tables_of kinds given tables

-- The members that are handed in.
pub record AreHanded {F : Type 0} (spelling kinds : F → List ℕ) (given : List Named) (N : Member → Bool) : Type 0 where
  pub tables : List (Facts F)
  pub told : AreToldBy spelling given tables
  pub are : IsTold (tables_of kinds given tables) N
