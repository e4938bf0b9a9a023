-- What a package exports: its exported objects, and its own defined types that are reached from them through fields, methods and
-- underlying types, exported or not (Go 1.17, "Exported identifiers", "Type definitions").
use Rattle.std.specs.Prelude.{◌≡◌, ℕ, List, [], ◌∷◌, ◌++◌, map, Some, if◌then◌else◌}
use Rattle.std.specs.List.{Contains, flat_map}
use Rattle.std.specs.List.Sorted.{IsPermutation}
use Rattle.std.specs.Option.{option_map_or}
use Rattle.std.specs.Str.{bytes_eq}
use Rattle.type_model.specs.declared.term.TypeName.{TypeName}
use Rattle.type_model.specs.GoTypes.{GoType, GoSignature, BasicType, DefinedType, PointerTo, SliceOf, ArrayOf, MapOf, ChanOf, FuncOf, StructOf, InterfaceOf, From}
use Rattle.type_model.specs.Parts.{GoField, GoMethod, type_list, field_list, method_list}
use Rattle.type_model.specs.Declarations.{Declaration, Declarations}
use Rattle.package_faces.specs.Faces.{Form, ConstantForm, VariableForm, FunctionForm, OwnForm, AliasForm, ObjectOut, DefinedOut, Face}

abbrev pub signature_parts : GoSignature → List GoType
signature_parts (From params results variadic) = type_list params ++ type_list results

abbrev pub method_parts : GoMethod → List GoType
method_parts m = signature_parts m.of

abbrev pub field_part : GoField → GoType
field_part f = f.of

-- the types that stand in what a defined type is declared with
abbrev pub declared_parts : Declaration → List GoType
declared_parts d = d.under ∷ flat_map method_parts d.methods

-- a package-level name of this package
abbrev pub own_name : List ℕ → List ℕ → TypeName
own_name path name = record { «package» = path; name = name; local = 0 }

-- what a type leads to: its parts; a defined type of the package to what it is declared with. What another package's type is declared
-- with stands in that package's interface
abbrev pub next_types : Declarations → List ℕ → GoType → List GoType
next_types ds path (BasicType kind) = []
next_types ds path (DefinedType name) = if bytes_eq name.package path then option_map_or declared_parts (ds name) [] else []
next_types ds path (PointerTo of) = of ∷ []
next_types ds path (SliceOf of) = of ∷ []
next_types ds path (ArrayOf size of) = of ∷ []
next_types ds path (MapOf key of) = key ∷ of ∷ []
next_types ds path (ChanOf direction of) = of ∷ []
next_types ds path (FuncOf of) = signature_parts of
next_types ds path (StructOf fields) = map field_part (field_list fields)
next_types ds path (InterfaceOf methods) = flat_map method_parts (method_list methods)

-- the types of the exported objects
abbrev pub form_root : List ℕ → List ℕ → Form → GoType
form_root path name (ConstantForm t c) = t
form_root path name (VariableForm t) = t
form_root path name (FunctionForm t) = t
form_root path name OwnForm = DefinedType (own_name path name)
form_root path name (AliasForm t) = t

abbrev pub roots : List ℕ → List ObjectOut → List GoType
roots path objects = map (λ o. form_root path o.name o.form) objects

-- a type is reached from others
pub data Reaches (ds : Declarations) (path : List ℕ) (start : List GoType) : GoType → Type 0 where
  ReachesStart : (of : GoType) → Contains start of → Reaches ds path start of
  ReachesNext : (of part : GoType) → Reaches ds path start of → Contains (next_types ds path of) part → Reaches ds path start part

-- a defined type stands in an interface as it is declared, its methods in any order
pub record IsDeclared (ds : Declarations) (path : List ℕ) (d : DefinedOut) : Type 0 where
  pub declaration : Declaration
  pub is : ds (own_name path d.name) ≡ Some declaration
  pub under : d.under ≡ declaration.under
  pub methods : IsPermutation declaration.methods d.methods

-- the interface of the package with these exported objects: they, and exactly the own types that are reached, each as it is declared
pub record IsExportOf (ds : Declarations) (path name : List ℕ) (objects : List ObjectOut) (f : Face) : Type 0 where
  pub path_is : f.path ≡ path
  pub name_is : f.name ≡ name
  pub objects_are : f.objects ≡ objects
  pub reached : (d : DefinedOut) → Contains f.types d → Reaches ds path (roots path objects) (DefinedType (own_name path d.name))
  pub declared : (d : DefinedOut) → Contains f.types d → IsDeclared ds path d
  pub all : (n : TypeName) → n.package ≡ path → Reaches ds path (roots path objects) (DefinedType n) → (d : DefinedOut) × Contains f.types d × (n ≡ own_name path d.name)
