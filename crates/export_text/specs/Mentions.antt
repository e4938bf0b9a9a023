-- What packages an interface mentions: those of the defined types that stand in its text, without its own and without the one of
-- predeclared types. The packages of names that aren't exported don't count.
use Rattle.std.specs.Prelude.{◌≡◌, ℕ, IsTrue, List, [], ◌∷◌, ◌++◌, length, ◌==◌, if◌then◌else◌}
use Rattle.std.specs.List.{AllPairs, Contains, flat_map}
use Rattle.std.specs.Str.{bytes_eq}
use Rattle.type_model.specs.declared.term.TypeName.{TypeName}
use Rattle.type_model.specs.GoTypes.{GoType, BasicType, DefinedType, PointerTo, SliceOf, ArrayOf, MapOf, ChanOf, FuncOf, StructOf, InterfaceOf}
use Rattle.package_faces.specs.Orders.{comes_before}
use Rattle.package_faces.specs.Faces.{Form, ConstantForm, VariableForm, FunctionForm, OwnForm, AliasForm, ObjectOut, DefinedOut, Face}
use Rattle.package_faces.specs.Reaching.{Reaches, method_parts}
use Rattle.export_text.specs.Reaching.{nothing_declared}

-- the types that stand in the text of a form, of an object, of a defined type, of an interface
abbrev pub form_types : Form → List GoType
form_types (ConstantForm t c) = t ∷ []
form_types (VariableForm t) = t ∷ []
form_types (FunctionForm t) = t ∷ []
form_types OwnForm = []
form_types (AliasForm t) = t ∷ []

abbrev pub object_types : ObjectOut → List GoType
object_types o = form_types o.form

abbrev pub defined_types : DefinedOut → List GoType
defined_types d = d.under ∷ flat_map method_parts d.methods

abbrev pub face_types : Face → List GoType
face_types f = flat_map object_types f.objects ++ flat_map defined_types f.types

-- a type stands in the interface's text: it is one of these, or a part of one that stands there
abbrev pub StandsIn : Face → GoType → Type 0
StandsIn f of = Reaches nothing_declared f.path (face_types f) of

pub record IsMentioned (f : Face) (path : List ℕ) : Type 0 where
  pub name : TypeName
  pub stands : StandsIn f (DefinedType name)
  pub of : name.package ≡ path
  pub other : path ≡ f.path → ⊥
  pub some : path ≡ [] → ⊥

-- exactly these packages, in byte order, each once
pub record AreMentions (f : Face) (paths : List (List ℕ)) : Type 0 where
  pub order : AllPairs (λ p q. IsTrue (comes_before p q)) paths
  pub each : (path : List ℕ) → Contains paths path → IsMentioned f path
  pub all : (path : List ℕ) → IsMentioned f path → Contains paths path

-- the package that a type mentions
abbrev pub mention_in : List ℕ → GoType → List (List ℕ)
mention_in path (BasicType kind) = []
mention_in path (DefinedType name) = if bytes_eq name.package path then [] else if length name.package == 0 then [] else name.package ∷ []
mention_in path (PointerTo of) = []
mention_in path (SliceOf of) = []
mention_in path (ArrayOf size of) = []
mention_in path (MapOf key of) = []
mention_in path (ChanOf direction of) = []
mention_in path (FuncOf of) = []
mention_in path (StructOf fields) = []
mention_in path (InterfaceOf methods) = []

-- the same texts, in byte order, each once
pub record AreSorted (texts names : List (List ℕ)) : Type 0 where
  pub order : AllPairs (λ p q. IsTrue (comes_before p q)) names
  pub from : (name : List ℕ) → Contains names name → Contains texts name
  pub all : (name : List ℕ) → Contains texts name → Contains names name
