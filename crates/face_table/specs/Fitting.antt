-- Which packages an environment may have, and what is declared of them.
use Rattle.std.specs.Prelude.{◌≡◌, ◌⊎◌, ℕ, zero, suc, ◌==◌, ◌&&◌, Bool, true, false, not, if◌then◌else◌, List, [], ◌∷◌, map, take, Option, Some, None, slice_get}
use Rattle.std.specs.Str.{bytes_eq}
use Rattle.go_tree.specs.Lexeme.{place_of}
use Rattle.package_faces.specs.Declaring.{path_of, defined_name, declaration_out, declared_by}
use Rattle.package_faces.specs.Faces.{DefinedOut, Face}
use Rattle.package_faces.specs.Reaching.{own_name}
use Rattle.type_model.specs.declared.term.TypeName.{TypeName}
use Rattle.type_model.specs.declared.table.TypeTable.{TypeTable}
use Rattle.type_model.specs.Declarations.{Declaration, Declarations, Meets}
use Rattle.type_model.specs.GoTypes.{GoType, is_defined}
use Rattle.type_model.specs.Tables.{IsTable, Extends, terms_in, declarations_in, is_same_name}
use Rattle.typed_tree.specs.Universe.{error_name}
use Rattle.unit_read.specs.Units.{error_declaration}

abbrev pub paths_in : List Face → List (List ℕ)
paths_in faces = map path_of faces

abbrev pub names_in : Face → List (List ℕ)
names_in f = map defined_name f.types

-- ---- what is declared

-- `error` alone
abbrev pub universe : Declarations
universe name = if is_same_name name error_name then Some error_declaration else None

-- `error`, and what packages beside the one of this path declare
abbrev pub given : List ℕ → List Face → Declarations
given own faces name = if is_same_name name error_name then Some error_declaration else (if bytes_eq own name.«package» then None else declared_by faces name)

-- one name is declared so now, the others as before
abbrev pub with_one : TypeName → Declaration → Declarations → Declarations
with_one name d ds other = if is_same_name name other then Some d else ds other

-- ---- what may be declared

-- the number is this
abbrev pub is_place : ℕ → Option ℕ → Bool
is_place k None = false
is_place k (Some j) = j == k

-- this package counts: it is the first of its path, and another than the one that is checked
abbrev pub Counts : List ℕ → List Face → ℕ → Face → Type 0
Counts own faces k f = (slice_get faces k ≡ Some f) × (place_of (paths_in faces) f.path ≡ Some k) × (bytes_eq own f.path ≡ false)

-- The types of the packages that count: each name stands once and isn't that of `error`, no underlying type is a defined type, and no type
-- needs itself.
pub record AreFit (own : List ℕ) (faces : List Face) : Type 0 where
  pub once : (k i : ℕ) (f : Face) (d : DefinedOut) → Counts own faces k f → slice_get f.types i ≡ Some d → place_of (names_in f) d.name ≡ Some i
  pub other : (k i : ℕ) (f : Face) (d : DefinedOut) → Counts own faces k f → slice_get f.types i ≡ Some d → is_same_name (own_name f.path d.name) error_name ≡ false
  pub plain : (k i : ℕ) (f : Face) (d : DefinedOut) → Counts own faces k f → slice_get f.types i ≡ Some d → is_defined d.under ≡ false
  pub ends : (k i : ℕ) (f : Face) (d : DefinedOut) → Counts own faces k f → slice_get f.types i ≡ Some d → Meets (given own faces) (own_name f.path d.name) d.under → ⊥

-- ---- one type

-- a type is a defined type, or holds the name
abbrev pub IsBad : Declarations → TypeName → GoType → Type 0
IsBad ds name under = (is_defined under ≡ true) ⊎ Meets ds name under

-- a name can't be declared with a type: it is declared, or the type is bad
abbrev pub IsUnfit : Declarations → TypeName → GoType → Type 0
IsUnfit ds name under = ((it : Declaration) × (ds name ≡ Some it)) ⊎ IsBad ds name under

-- a table that grew, with these declarations
pub record Declares (old new : TypeTable) (ds : Declarations) : Type 0 where
  pub table : IsTable new
  pub extends : Extends (terms_in old) (terms_in new)
  pub declared : (name : TypeName) → declarations_in new name ≡ ds name

-- one type of a package: it wasn't declared, and its declaration is added, or it can't be
abbrev pub DeclaresType : TypeTable → TypeTable → List ℕ → DefinedOut → Bool → Type 0
DeclaresType old new path d true = (declarations_in old (own_name path d.name) ≡ None) × Declares old new (with_one (own_name path d.name) (declaration_out d) (declarations_in old))
DeclaresType old new path d false = IsUnfit (declarations_in old) (own_name path d.name) d.under

-- ---- several types

-- what the types of a package add, one after the other
abbrev pub with_types : List ℕ → List DefinedOut → Declarations → Declarations
with_types path [] ds = ds
with_types path (d ∷ types) ds = with_types path types (with_one (own_name path d.name) (declaration_out d) ds)

-- none of them is declared before its turn
abbrev pub AreFresh : List ℕ → List DefinedOut → Declarations → Type 0
AreFresh path [] ds = Unit {0}
AreFresh path (d ∷ types) ds = (ds (own_name path d.name) ≡ None) × AreFresh path types (with_one (own_name path d.name) (declaration_out d) ds)

-- the type at a place can't be declared once those before it are
pub record IsStuckAt (path : List ℕ) (types : List DefinedOut) (ds : Declarations) (i : ℕ) : Type 0 where
  pub of : DefinedOut
  pub there : slice_get types i ≡ Some of
  pub fresh : AreFresh path (take i types) ds
  pub unfit : IsUnfit (with_types path (take i types) ds) (own_name path of.name) of.under

abbrev pub DeclaresTypes : TypeTable → TypeTable → List ℕ → List DefinedOut → Bool → Type 0
DeclaresTypes old new path types true = AreFresh path types (declarations_in old) × Declares old new (with_types path types (declarations_in old))
DeclaresTypes old new path types false = (i : ℕ) × IsStuckAt path types (declarations_in old) i

-- ---- all packages

-- whether it counts
abbrev pub counts_by : List ℕ → List ℕ → ℕ → Option ℕ → Bool
counts_by own path k first = not (bytes_eq own path) && is_place k first

abbrev pub counts_at : List ℕ → List Face → ℕ → Face → Bool
counts_at own faces k f = counts_by own f.path k (place_of (paths_in faces) f.path)

-- what a package adds, if it counts
abbrev pub with_face : List ℕ → List Face → ℕ → Face → Declarations → Declarations
with_face own faces k f ds = if counts_at own faces k f then with_types f.path f.types ds else ds

-- one package: what it adds is declared, or a type of it can't be
abbrev pub DeclaresFace : TypeTable → TypeTable → List ℕ → List Face → ℕ → Face → Bool → Type 0
DeclaresFace old new own faces k f true = (counts_at own faces k f ≡ true → AreFresh f.path f.types (declarations_in old)) × Declares old new (with_face own faces k f (declarations_in old))
DeclaresFace old new own faces k f false = (counts_at own faces k f ≡ true) × ((i : ℕ) × IsStuckAt f.path f.types (declarations_in old) i)

-- the packages are fit, and all is declared; or they aren't
pub record IsDeclared (own : List ℕ) (faces : List Face) (old new : TypeTable) (fit : Bool) : Type 0 where
  pub given : fit ≡ true → Declares old new (given own faces)
  pub are_fit : fit ≡ true → AreFit own faces
  pub unfit : fit ≡ false → AreFit own faces → ⊥
