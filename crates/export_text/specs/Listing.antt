-- What is listed of types that are reached: the package's own defined types, each as it is declared.
use Rattle.std.specs.Prelude.{◌≡◌, ℕ, ◌<◌, Bool, List, [], ◌∷◌, ◌++◌, Option, Some, None, slice_get}
use Rattle.std.specs.List.{Contains}
use Rattle.std.specs.List.Sorted.{IsSortedBy}
use Rattle.std.specs.Option.{option_map_or}
use Rattle.type_model.specs.declared.term.TypeId.{TypeId}
use Rattle.type_model.specs.declared.term.TypeName.{TypeName}
use Rattle.type_model.specs.declared.term.Method.{Method}
use Rattle.type_model.specs.declared.table.TypeTable.{TypeTable}
use Rattle.type_model.specs.GoTypes.{GoType, DefinedType, type_at}
use Rattle.type_model.specs.Declarations.{Declaration, Declarations}
use Rattle.type_model.specs.Tables.{types_in, count, declarations_in}
use Rattle.package_faces.specs.Orders.{comes_before, stands_before}
use Rattle.package_faces.specs.declared.interface.ExportedType.{ExportedType}
use Rattle.package_faces.specs.Interfaces.{defined_in, IsDefinedIn}
use Rattle.package_faces.specs.Reaching.{own_name, IsDeclared}

-- by the names, and by the packages where the names are one
abbrev pub method_stands : Method → Method → Bool
method_stands a b = stands_before a.name a.package b.name b.package

-- by the names
abbrev pub type_stands : ExportedType → ExportedType → Bool
type_stands a b = comes_before a.name b.name

-- the name is of package level and declared
pub record IsPlain (ds : Declarations) (name : TypeName) : Type 0 where
  pub global : name.local ≡ 0
  pub declaration : Declaration
  pub is : ds name ≡ Some declaration

-- where the type is a defined type of the package, its name is plain
abbrev pub CanBeListed : Declarations → List ℕ → GoType → Type 0
CanBeListed ds path of = (name : TypeName) → of ≡ DefinedType name → name.package ≡ path → IsPlain ds name

-- a defined type of the package as the table has it declared, its methods sorted
pub record IsOwnType (t : TypeTable) (path : List ℕ) (id : TypeId) (d : ExportedType) : Type 0 where
  pub name : type_at (types_in t) id ≡ DefinedType (own_name path d.name)
  pub declared : IsDeclared (declarations_in t) path (defined_in (types_in t) d)
  pub sorted : IsSortedBy method_stands d.methods
  pub below : IsDefinedIn (count t) d

-- the type isn't a defined type of the package
abbrev pub IsForeign : List ℕ → GoType → Type 0
IsForeign path of = (name : TypeName) → of ≡ DefinedType name → name.package ≡ path → ⊥

-- what is listed of a type
abbrev pub IsListed : TypeTable → List ℕ → TypeId → Option ExportedType → Type 0
IsListed t path id (Some d) = IsOwnType t path id d
IsListed t path id None = IsForeign path (type_at (types_in t) id)

-- what is listed of it comes last
abbrev pub IsListedIn : TypeTable → List ℕ → TypeId → List ExportedType → List ExportedType → Type 0
IsListedIn t path id old new = (o : Option ExportedType) × IsListed t path id o × (new ≡ option_map_or (λ d. old ++ d ∷ []) o old)

-- what is listed of the first so many of these types, in any order
pub record AreListed (t : TypeTable) (path : List ℕ) (ids : List TypeId) (many : ℕ) (types : List ExportedType) : Type 0 where
  pub each : (d : ExportedType) → Contains types d → (k : ℕ) × (k < many) × (id : TypeId) × (slice_get ids k ≡ Some id) × IsOwnType t path id d
  pub all : (k : ℕ) (id : TypeId) (name : TypeName) → k < many → slice_get ids k ≡ Some id → type_at (types_in t) id ≡ DefinedType name → name.package ≡ path
      → (d : ExportedType) × Contains types d × IsOwnType t path id d

-- no name stands twice
pub record AreNamedOnce (types : List ExportedType) : Type 0 where
  pub once : (i j : ℕ) (a b : ExportedType) → slice_get types i ≡ Some a → slice_get types j ≡ Some b → a.name ≡ b.name → i ≡ j

-- all of these types can be listed
abbrev pub AllCanBeListed : TypeTable → List ℕ → List TypeId → Type 0
AllCanBeListed t path ids = (id : TypeId) → Contains ids id → CanBeListed (declarations_in t) path (type_at (types_in t) id)
