-- Lock types of a table, in code.
use Rattle.std.specs.Prelude.{◌≡◌, ℕ, ◌<◌, ◌↔◌, ◌&&◌, ◌||◌, not, Bool, true, false, List, [], ◌∷◌, length, map, Some, slice_get, slice_index_or, bytes_eq}
use Rattle.std.specs.Option.{option_map_or}
use Rattle.type_model.specs.declared.term.Field.{Field}
use Rattle.type_model.specs.declared.term.Method.{Method}
use Rattle.type_model.specs.declared.term.Signature.{Signature}
use Rattle.type_model.specs.declared.term.Term.{Term}
use Rattle.type_model.specs.declared.term.Term.TheVariants.{Basic, Defined, Pointer, Slice, Array, Map, Chan, Func, Struct, Interface}
use Rattle.type_model.specs.declared.term.TypeId.{TypeId}
use Rattle.type_model.specs.declared.table.TypeTable.{TypeTable}
use Rattle.type_model.specs.Declarations.{Declarations, under_of}
use Rattle.type_model.specs.GoTypes.{GoType, BasicType, DefinedType, PointerTo, SliceOf, ArrayOf, MapOf, ChanOf, FuncOf, StructOf, InterfaceOf, type_number}
use Rattle.type_model.specs.Tables.{types_in, count, declarations_in}
use Rattle.need_order.specs.declared.needed.Needed.{Needed}
use Rattle.method_sets.specs.declared.selection.Selected.{Selected}
use Rattle.method_sets.specs.declared.selection.Selected.TheVariants as selected
use Rattle.method_sets.specs.declared.selection.Selection.{Selection}
use Rattle.method_sets.specs.declared.selection.Selection.TheVariants as selection
use Rattle.lock_types.specs.Locks.{IsLock, parts_in}

-- ---- methods

abbrev pub is_empty : List TypeId → Bool
is_empty [] = true
is_empty (id ∷ ids) = false

-- it takes and gives nothing
abbrev pub is_plain : Signature → Bool
is_plain s = is_empty s.params && (is_empty s.results && not s.variadic)

abbrev pub is_plain_method : List ℕ → Method → Bool
is_plain_method name m = (bytes_eq m.name name && bytes_eq m.package []) && is_plain m.of

abbrev pub any_plain : List ℕ → List Method → Bool
any_plain name [] = false
any_plain name (m ∷ methods) = is_plain_method name m || any_plain name methods

abbrev pub is_plain_part : Selected → Bool
is_plain_part (selected.Field of) = false
is_plain_part (selected.Method of pointer) = is_plain of

-- a method is selected that takes and gives nothing
abbrev pub is_plain_selection : Selection → Bool
is_plain_selection (selection.Found path kind) = is_plain_part kind
is_plain_selection (selection.Ambiguous depth) = false
is_plain_selection selection.Absent = false

-- ---- types that may be lock types

-- what may hold others: a struct or an array, or what is declared with one
abbrev pub holds : GoType → Bool
holds (BasicType kind) = false
holds (DefinedType name) = true
holds (PointerTo of) = false
holds (SliceOf of) = false
holds (ArrayOf size of) = true
holds (MapOf key of) = false
holds (ChanOf direction of) = false
holds (FuncOf of) = false
holds (StructOf fields) = true
holds (InterfaceOf methods) = false

abbrev pub holds_type : Declarations → GoType → Bool
holds_type ds of = option_map_or holds (under_of ds of) false

-- ---- parts

abbrev pub field_ids : List Field → List ℕ
field_ids fields = map (λ (f : Field). f.of.0) fields

-- the numbers of what a term holds
abbrev pub ids_of : Term → List ℕ
ids_of (Basic kind) = []
ids_of (Defined name) = []
ids_of (Pointer of) = []
ids_of (Slice of) = []
ids_of (Array size of) = of.0 ∷ []
ids_of (Map key of) = []
ids_of (Chan direction of) = []
ids_of (Func of) = []
ids_of (Struct fields) = field_ids fields
ids_of (Interface methods) = []

abbrev pub numbered_types : TypeTable → List ℕ → List GoType
numbered_types t ids = map (type_number (types_in t)) ids

-- the numbers of the types that a type of the table holds
pub record AreParts (t : TypeTable) (n : ℕ) (ids : List ℕ) : Type 0 where
  pub are : numbered_types t ids ≡ parts_in (declarations_in t) (type_number (types_in t) n)
  pub below : (k id : ℕ) → slice_get ids k ≡ Some id → id < count t

-- a row for each of the first few types
pub record ArePartsTo (t : TypeTable) (n : ℕ) (rows : List (List ℕ)) : Type 0 where
  pub size : length rows ≡ n
  pub each : (k : ℕ) (row : List ℕ) → slice_get rows k ≡ Some row → AreParts t k row

-- ---- the order in which types are judged

-- each type of the table once, behind all that it holds
pub record IsTypeOrder (t : TypeTable) (order : List Needed) : Type 0 where
  pub within : (k : ℕ) (e : Needed) → slice_get order k ≡ Some e → e.vertex < count t
  pub each : (n : ℕ) → n < count t → (k : ℕ) × (e : Needed) × (slice_get order k ≡ Some e) × (e.vertex ≡ n)
  pub once : (j k : ℕ) (e f : Needed) → slice_get order j ≡ Some e → slice_get order k ≡ Some f → e.vertex ≡ f.vertex → j ≡ k
  pub after : (k : ℕ) (e : Needed) (row : List ℕ) → slice_get order k ≡ Some e → AreParts t e.vertex row → (i part : ℕ) → slice_get row i ≡ Some part
      → (j : ℕ) × (f : Needed) × (j < k) × (slice_get order j ≡ Some f) × (f.vertex ≡ part)

-- ---- flags

abbrev pub lock_at : List Bool → ℕ → Bool
lock_at flags n = slice_index_or flags n false

-- one of these is flagged
abbrev pub any_lock : List Bool → List ℕ → Bool
any_lock flags [] = false
any_lock flags (id ∷ ids) = lock_at flags id || any_lock flags ids

abbrev pub IsFlag : TypeTable → ℕ → Bool → Type 0
IsFlag t n b = (b ≡ true) ↔ IsLock (declarations_in t) (type_number (types_in t) n)

-- the first few of an order have their flags
pub record AreFlagsTo (t : TypeTable) (order : List Needed) (i : ℕ) (flags : List Bool) : Type 0 where
  pub size : length flags ≡ count t
  pub each : (k : ℕ) (e : Needed) → k < i → slice_get order k ≡ Some e → IsFlag t e.vertex (lock_at flags e.vertex)

-- each type of the table has its flag
pub record AreLocks (t : TypeTable) (flags : List Bool) : Type 0 where
  pub size : length flags ≡ count t
  pub each : (n : ℕ) → n < count t → IsFlag t n (lock_at flags n)
