-- Types of a table, in code.
use Rattle.std.specs.Prelude.{◌≡◌, ℕ, ◌<◌, ◌⊎◌, ◌↔◌, ◌&&◌, ◌||◌, not, Bool, true, false, List, [], ◌∷◌, length, map, Some, slice_get, slice_index_or}
use Rattle.std.specs.List.{Contains}
use Rattle.std.specs.Option.{option_map_or}
use Rattle.type_model.specs.declared.term.Field.{Field}
use Rattle.type_model.specs.declared.term.Term.{Term}
use Rattle.type_model.specs.declared.term.Term.TheVariants.{Basic, Defined, Pointer, Slice, Array, Map, Chan, Func, Struct, Interface}
use Rattle.type_model.specs.declared.table.TypeTable.{TypeTable}
use Rattle.type_model.specs.GoTypes.{GoType, type_number}
use Rattle.type_model.specs.Tables.{types_in, count, declarations_in}
use Rattle.vet_printf.specs.declared.asking.Asked.{Asked}
use Rattle.vet_printf.specs.declared.asking.Wanted.TheVariants as w
use Rattle.vet_printf.specs.declared.shapes.Shape.{Shape}
use Rattle.vet_printf.specs.declared.verb.Class.{Class}
use Rattle.vet_printf.specs.Fitting.{Has, parts_in, IsFit, Suits, Fails}

-- ---- rows

-- a thing for each of the first few numbers
pub record AreEach {X : Type 0} (P : ℕ → X → Type 0) (n : ℕ) (list : List X) : Type 0 where
  pub size : length list ≡ n
  pub each : (k : ℕ) (x : X) → slice_get list k ≡ Some x → P k x

abbrev pub flag_at : List Bool → ℕ → Bool
flag_at flags n = slice_index_or flags n false

-- a type by its number
abbrev pub ty : TypeTable → ℕ → GoType
ty t n = type_number (types_in t) n

-- ---- methods

pub record IsAsked (t : TypeTable) (n : ℕ) (x : Asked) : Type 0 where
  pub format : (x.format ≡ true) ↔ Has (declarations_in t) (ty t n) w.Format
  pub text : (x.text ≡ true) ↔ Has (declarations_in t) (ty t n) w.Text
  pub error : (x.error ≡ true) ↔ Has (declarations_in t) (ty t n) w.Error

-- ---- parts

abbrev pub field_ids : List Field → List ℕ
field_ids fields = map (λ (f : Field). f.of.0) fields

-- the numbers of the parts of a term
abbrev pub ids_of : Term → List ℕ
ids_of (Basic kind) = []
ids_of (Defined name) = []
ids_of (Pointer of) = []
ids_of (Slice of) = of.0 ∷ []
ids_of (Array size of) = of.0 ∷ []
ids_of (Map key of) = key.0 ∷ of.0 ∷ []
ids_of (Chan direction of) = []
ids_of (Func of) = []
ids_of (Struct fields) = field_ids fields
ids_of (Interface methods) = []

abbrev pub numbered : TypeTable → List ℕ → List GoType
numbered t ids = map (ty t) ids

-- the numbers of the parts of a type of the table
pub record AreParts (t : TypeTable) (n : ℕ) (ids : List ℕ) : Type 0 where
  pub are : numbered t ids ≡ parts_in (declarations_in t) (ty t n)
  pub below : (k id : ℕ) → slice_get ids k ≡ Some id → id < count t

-- ---- types that fail

abbrev pub IsFitAt : TypeTable → Class → ℕ → Bool → Type 0
IsFitAt t class n b = (b ≡ true) ↔ IsFit (declarations_in t) class (ty t n)

abbrev pub IsSuited : TypeTable → Class → ℕ → Bool → Type 0
IsSuited t class n b = (b ≡ true) ↔ Suits (declarations_in t) class (ty t n)

abbrev pub any_of : (ℕ → Bool) → List ℕ → Bool
any_of M [] = false
any_of M (id ∷ ids) = M id || any_of M ids

abbrev pub fails_shape : (ℕ → Bool) → Bool → Shape → Bool
fails_shape M fit x = not fit && (not x.parted || any_of M x.parts)

-- the type of the number fails, where these do
abbrev pub fails_by : List Bool → List Shape → (ℕ → Bool) → ℕ → Bool
fails_by fits shapes M n = option_map_or (fails_shape M (flag_at fits n)) (slice_get shapes n) false

abbrev pub Admits : List Bool → List Shape → (ℕ → Bool) → ℕ → Type 0
Admits fits shapes M n = fails_by fits shapes M n ≡ true

-- the flag tells whether the type fails
pub record TellsFailing (t : TypeTable) (class : Class) (n : ℕ) (b : Bool) : Type 0 where
  pub failing : b ≡ true → (Fails (declarations_in t) class (ty t n) → ⊥) → ⊥
  pub other : b ≡ false → Fails (declarations_in t) class (ty t n) → ⊥

-- ---- of which types a type is a part

abbrev pub row_of : List (List ℕ) → ℕ → List ℕ
row_of rows j = slice_index_or rows j []

-- a part of the type of the number i
abbrev pub IsPartOf : List Shape → ℕ → ℕ → Type 0
IsPartOf shapes j i = (x : Shape) × (slice_get shapes i ≡ Some x) × Contains x.parts j

-- parts are types of the table
abbrev pub AreBelow : List Shape → Type 0
AreBelow shapes = (i j : ℕ) → IsPartOf shapes j i → j < length shapes

-- the row of one type more in the rows of its parts
pub record AreAdded (i : ℕ) (parts : List ℕ) (few : ℕ) (old new : List (List ℕ)) : Type 0 where
  pub size : length new ≡ length old
  pub kept : (j k : ℕ) → Contains (row_of old j) k → Contains (row_of new j) k
  pub added : (m : ℕ) → m < few → slice_index_or parts m 0 < length old → Contains (row_of new (slice_index_or parts m 0)) i
  pub only : (j k : ℕ) → Contains (row_of new j) k → Contains (row_of old j) k ⊎ (k ≡ i)

-- each of the first few types stands in the rows of its parts
pub record AreRows (shapes : List Shape) (few : ℕ) (rows : List (List ℕ)) : Type 0 where
  pub size : length rows ≡ length shapes
  pub within : (j i : ℕ) → Contains (row_of rows j) i → i < length shapes
  pub every : (i j : ℕ) → i < few → j < length shapes → IsPartOf shapes j i → Contains (row_of rows j) i

-- the same of all, as a proposition
pub record AreReaders (shapes : List Shape) (rows : List (List ℕ)) : Type 0 where
  pub size : length rows ≡ length shapes
  pub within : (j i : ℕ) → Contains (row_of rows j) i → i < length shapes
  pub every : (i j : ℕ) → j < length shapes → IsPartOf shapes j i → ∥ Contains (row_of rows j) i ∥₁
