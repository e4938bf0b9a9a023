-- Lock types: those whose values must not be copied once they are in use.
use Rattle.std.specs.Prelude.{◌≡◌, ℕ, Bool, true, false, List, [], codes}
use Rattle.std.specs.List.{Contains}
use Rattle.std.specs.Option.{option_map_or}
use Rattle.type_model.specs.GoTypes.{GoType, BasicType, DefinedType, PointerTo, SliceOf, ArrayOf, MapOf, ChanOf, FuncOf, StructOf, InterfaceOf, GoSignature, From, NoType}
use Rattle.type_model.specs.Parts.{GoMethod}
use Rattle.type_model.specs.Declarations.{Declarations, under_of, held}
use Rattle.method_sets.specs.Selections.{IsInSet}

-- ---- methods

-- `func()`
abbrev pub plain : GoSignature
plain = From NoType NoType false

abbrev pub plain_method : List ℕ → Bool → GoMethod
plain_method name pointer = record { name = name; owner = []; pointer = pointer; of = plain }

-- "Method sets": that of the type has a method of this name that takes and gives nothing
abbrev pub HasMethod : Declarations → GoType → List ℕ → Type 0
HasMethod ds of name = (pointer : Bool) × IsInSet ds of (plain_method name pointer)

-- it has `Lock()` and `Unlock()`
abbrev pub HasBoth : Declarations → GoType → Type 0
HasBoth ds of = HasMethod ds of (codes "Lock") × HasMethod ds of (codes "Unlock")

-- ---- types

abbrev pub is_struct : GoType → Bool
is_struct (BasicType kind) = false
is_struct (DefinedType name) = false
is_struct (PointerTo of) = false
is_struct (SliceOf of) = false
is_struct (ArrayOf size of) = false
is_struct (MapOf key of) = false
is_struct (ChanOf direction of) = false
is_struct (FuncOf of) = false
is_struct (StructOf fields) = true
is_struct (InterfaceOf methods) = false

abbrev pub is_struct_type : Declarations → GoType → Bool
is_struct_type ds of = option_map_or is_struct (under_of ds of) false

-- a struct type that is locked by its address, and not by itself
pub record IsLocker (ds : Declarations) (of : GoType) : Type 0 where
  pub struct : is_struct_type ds of ≡ true
  pub pointer : HasBoth ds (PointerTo of)
  pub value : HasBoth ds of → ⊥

-- the types of a struct's fields, and that of an array's elements
abbrev pub parts_in : Declarations → GoType → List GoType
parts_in ds of = option_map_or (held ds) (under_of ds of) []

-- A lock type: such a struct type, and an array or a struct that has one.
pub data IsLock (ds : Declarations) : GoType → Type 0 where
  ByItself : (of : GoType) → IsLocker ds of → IsLock ds of
  ByPart : (of part : GoType) → Contains (parts_in ds of) part → IsLock ds part → IsLock ds of
