-- The interface of a package over the types of a table, as a value without numbers.
use Rattle.std.specs.Prelude.{◌≡◌, ℕ, ◌<◌, List, All, map}
use Rattle.type_model.specs.declared.term.TypeId.{TypeId}
use Rattle.type_model.specs.GoTypes.{GoType, DefinedType, type_at, MethodsBelow}
use Rattle.type_model.specs.Parts.{method_of}
use Rattle.package_faces.specs.declared.interface.Interface.{Interface}
use Rattle.package_faces.specs.declared.interface.Exported.{Exported}
use Rattle.package_faces.specs.declared.interface.ExportedType.{ExportedType}
use Rattle.package_faces.specs.declared.interface.ExportForm.{ExportForm}
use Rattle.package_faces.specs.declared.interface.ExportForm.TheVariants as form
use Rattle.package_faces.specs.Faces.{Form, ConstantForm, VariableForm, FunctionForm, OwnForm, AliasForm, ObjectOut, DefinedOut, Face}

abbrev pub form_in : List GoType → ExportForm → Form
form_in types (form.Constant id c) = ConstantForm (type_at types id) c
form_in types (form.Variable id) = VariableForm (type_at types id)
form_in types (form.Function id) = FunctionForm (type_at types id)
form_in types (form.Own id) = OwnForm
form_in types (form.Alias id) = AliasForm (type_at types id)

abbrev pub object_in : List GoType → Exported → ObjectOut
object_in types o = record { name = o.name; form = form_in types o.form }

abbrev pub defined_in : List GoType → ExportedType → DefinedOut
defined_in types d = record { name = d.name; under = type_at types d.under; methods = map (λ m. method_of types m) d.methods }

abbrev pub face_of : List GoType → Interface → Face
face_of types i = record { path = i.path; name = i.name; objects = map (λ o. object_in types o) i.objects; types = map (λ d. defined_in types d) i.types }

abbrev pub faces_of : List GoType → List Interface → List Face
faces_of types list = map (λ i. face_of types i) list

-- ---- numbers that stand in the table

-- the type of a form
abbrev pub id_of : ExportForm → TypeId
id_of (form.Constant id c) = id
id_of (form.Variable id) = id
id_of (form.Function id) = id
id_of (form.Own id) = id
id_of (form.Alias id) = id

-- where a form is a defined type of the package, it is the one of this name
abbrev pub IsOwn : List ℕ → List GoType → List ℕ → ExportForm → Type 0
IsOwn path types name (form.Constant id c) = Unit {0}
IsOwn path types name (form.Variable id) = Unit {0}
IsOwn path types name (form.Function id) = Unit {0}
IsOwn path types name (form.Own id) = type_at types id ≡ DefinedType (record { «package» = path; name = name; local = 0 })
IsOwn path types name (form.Alias id) = Unit {0}

-- what an object is over n types: its type is one of them
abbrev pub IsObjectIn : List ℕ → ℕ → List GoType → Exported → Type 0
IsObjectIn path n types o = ((id_of o.form).0 < n) × IsOwn path types o.name o.form

abbrev pub IsDefinedIn : ℕ → ExportedType → Type 0
IsDefinedIn n d = (d.under.0 < n) × MethodsBelow n d.methods

pub record AreObjectsIn (path : List ℕ) (n : ℕ) (types : List GoType) (objects : List Exported) : Type 0 where
  pub each : All (IsObjectIn path n types) objects

pub record AreDefinedIn (n : ℕ) (types : List ExportedType) : Type 0 where
  pub each : All (IsDefinedIn n) types

pub record IsInterfaceIn (n : ℕ) (types : List GoType) (i : Interface) : Type 0 where
  pub objects : AreObjectsIn i.path n types i.objects
  pub defined : AreDefinedIn n i.types

pub record AreInterfacesIn (n : ℕ) (types : List GoType) (list : List Interface) : Type 0 where
  pub each : All (IsInterfaceIn n types) list
