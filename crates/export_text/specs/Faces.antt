-- The text of what other packages see of a package, and which values have one.
use Rattle.std.specs.Prelude.{◌≡◌, ℕ, Bool, IsTrue, List, [], ◌∷◌, ◌++◌, Option, Some, None, ◌==◌, if◌then◌else◌}
use Rattle.gv_base.specs.declared.constant.Const.{Const}
use Rattle.gv_bytes.specs.Spelling.{natural, text, items, AreItems}
use Rattle.gv_bytes.specs.Reading.{items_at}
use Rattle.type_model.specs.GoTypes.{GoType, GoSignature, FuncOf}
use Rattle.type_model.specs.Parts.{GoMethod}
use Rattle.package_faces.specs.Orders.{rises, method_before, object_before, defined_before}
use Rattle.package_faces.specs.Faces.{Form, ConstantForm, VariableForm, FunctionForm, OwnForm, AliasForm, ObjectOut, DefinedOut, Face}
use Rattle.type_texts.specs.Fields.{truth_of, value, IsConst, IsName, name_at, bit_at, value_at}
use Rattle.type_texts.specs.Readers.{Reader, seq_at, via_at, part_at, kept_at, tagged_at, whole_at}
use Rattle.type_texts.specs.Texts.{type_text, IsType}
use Rattle.type_texts.specs.Building.{type_at}

-- ---- the text of each: `k` type value, `v` type, `f` type, `t`, `a` type behind an object's name; a method's name, its package,
-- 0 or 1 for a pointer receiver, and its function type; a defined type's name, its underlying type and the list of its methods; the
-- path, the package name, the list of objects and the list of defined types

abbrev pub mark_of : Form → ℕ
mark_of (ConstantForm t c) = 107
mark_of (VariableForm t) = 118
mark_of (FunctionForm t) = 102
mark_of OwnForm = 116
mark_of (AliasForm t) = 97

abbrev pub form_rest : Form → List ℕ
form_rest (ConstantForm t c) = type_text t ++ value c
form_rest (VariableForm t) = type_text t
form_rest (FunctionForm t) = type_text t
form_rest OwnForm = []
form_rest (AliasForm t) = type_text t

abbrev pub form_text : Form → List ℕ
form_text f = mark_of f ∷ form_rest f

abbrev pub object_text : ObjectOut → List ℕ
object_text o = text o.name ++ form_text o.form

abbrev pub method_text : GoMethod → List ℕ
method_text m = text m.name ++ (text m.owner ++ (natural (truth_of m.pointer) ++ type_text (FuncOf m.of)))

abbrev pub defined_text : DefinedOut → List ℕ
defined_text d = text d.name ++ (type_text d.under ++ items method_text d.methods)

abbrev pub face_text : Face → List ℕ
face_text f = text f.path ++ (text f.name ++ (items object_text f.objects ++ items defined_text f.types))

-- ---- which values have a text

abbrev pub IsForm : Form → Type 0
IsForm (ConstantForm t c) = IsType t × IsConst c
IsForm (VariableForm t) = IsType t
IsForm (FunctionForm t) = IsType t
IsForm OwnForm = Unit {0}
IsForm (AliasForm t) = IsType t

abbrev pub IsObjectOut : ObjectOut → Type 0
IsObjectOut o = IsName o.name × IsForm o.form

abbrev pub IsMethodOut : GoMethod → Type 0
IsMethodOut m = IsName m.name × (IsName m.owner × (Unit {0} × IsType (FuncOf m.of)))

abbrev pub IsDefinedOut : DefinedOut → Type 0
IsDefinedOut d = IsName d.name × (IsType d.under × (AreItems IsMethodOut d.methods × IsTrue (rises method_before d.methods)))

-- sizes and names as they can be spelled; objects, types and methods in order, each once
abbrev pub IsFace : Face → Type 0
IsFace f = IsName f.path × (IsName f.name × ((AreItems IsObjectOut f.objects × IsTrue (rises object_before f.objects)) × (AreItems IsDefinedOut f.types × IsTrue (rises defined_before f.types))))

-- the bytes are the text of the interface
pub record IsFaceText (f : Face) (bytes : List ℕ) : Type 0 where
  pub value : IsFace f
  pub whole : bytes ≡ face_text f

-- ---- reading: a word for each field

abbrev pub function_of : GoType → Option GoSignature
function_of (FuncOf of) = Some of
function_of of = None

unfoldable pub function_at : Reader GoSignature
function_at = part_at function_of type_at

abbrev pub constant_of : GoType × Const → Form
constant_of x = ConstantForm x.0 x.1

unfoldable pub constant_at : Reader Form
constant_at = via_at constant_of (seq_at type_at value_at)

abbrev pub form_rest_at : ℕ → Reader Form
form_rest_at c rest =
    if c == 107 then constant_at rest else if c == 118 then via_at VariableForm type_at rest else if c == 102 then via_at FunctionForm type_at rest
    else if c == 116 then Some (OwnForm, rest) else if c == 97 then via_at AliasForm type_at rest else None

unfoldable pub form_at : Reader Form
form_at = tagged_at form_rest_at

abbrev pub object_out : List ℕ × Form → ObjectOut
object_out x = record { name = x.0; form = x.1 }

unfoldable pub object_at : Reader ObjectOut
object_at = via_at object_out (seq_at name_at form_at)

abbrev pub method_out : List ℕ × (List ℕ × (Bool × GoSignature)) → GoMethod
method_out x = record { name = x.0; owner = x.1.0; pointer = x.1.1.0; of = x.1.1.1 }

unfoldable pub method_at : Reader GoMethod
method_at = via_at method_out (seq_at name_at (seq_at name_at (seq_at bit_at function_at)))

unfoldable pub methods_at : Reader (List GoMethod)
methods_at = kept_at (rises method_before) (items_at method_at)

abbrev pub defined_out : List ℕ × (GoType × List GoMethod) → DefinedOut
defined_out x = record { name = x.0; under = x.1.0; methods = x.1.1 }

unfoldable pub defined_at : Reader DefinedOut
defined_at = via_at defined_out (seq_at name_at (seq_at type_at methods_at))

unfoldable pub objects_at : Reader (List ObjectOut)
objects_at = kept_at (rises object_before) (items_at object_at)

unfoldable pub defineds_at : Reader (List DefinedOut)
defineds_at = kept_at (rises defined_before) (items_at defined_at)

abbrev pub face_out : List ℕ × (List ℕ × (List ObjectOut × List DefinedOut)) → Face
face_out x = record { path = x.0; name = x.1.0; objects = x.1.1.0; types = x.1.1.1 }

unfoldable pub face_at : Reader Face
face_at = via_at face_out (seq_at name_at (seq_at name_at (seq_at objects_at defineds_at)))

unfoldable pub face_in : List ℕ → Option Face
face_in bytes = whole_at face_at bytes
