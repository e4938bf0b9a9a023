-- What imports lead to (Go 1.17, "Import declarations", "Qualified identifiers").
use Rattle.std.specs.Prelude.{ℕ, Bool, true, false, if◌then◌else◌, List, [], map, length, Option, Some, None, option_to_list, slice_get, option_and_then, option_map, bytes_eq, codes}
use Rattle.std.specs.Option.{option_map_or}
use Rattle.gv_base.specs.declared.constant.Kind.TheVariants as kind
use Rattle.go_tree.specs.Lexeme.{place_of}
use Rattle.go_tree.specs.ImportPaths.{path_of}
use Rattle.go_tree.specs.Values.{text_value}
use Rattle.go_tree.specs.declared.tree.FileTree.{FileTree}
use Rattle.go_tree.specs.declared.tree.Node.{Node}
use Rattle.go_tree.specs.declared.tree.NodeKind.{NodeKind}
use Rattle.go_tree.specs.declared.tree.NodeKind.TheVariants as k
use Rattle.go_tree.specs.declared.tree.NodeRef.{NodeRef}
use Rattle.go_tree.specs.declared.bindings.Object.{Object}
use Rattle.go_tree.specs.declared.bindings.Object.TheVariants as o
use Rattle.package_objects.specs.Declares.{gather}
use Rattle.package_faces.specs.Declaring.{first_named, path_of as face_path}
use Rattle.package_faces.specs.Faces.{Form, ConstantForm, VariableForm, FunctionForm, OwnForm, AliasForm, ObjectOut, Face}
use Rattle.type_model.specs.GoTypes.{GoType, BasicType, DefinedType}
use Rattle.typed_tree.specs.declared.mark.Mode.{Mode}
use Rattle.typed_tree.specs.declared.mark.Mode.TheVariants as mode
use Rattle.typed_tree.specs.declared.rule.Limit.{Limit}
use Rattle.typed_tree.specs.declared.rule.Limit.TheVariants.{Unsafe, Cgo, DotImport}
use Rattle.typed_tree.specs.Meanings.{Meaning, Right, Beyond, Quiet}
use Rattle.unit_read.specs.declared.lead.Lead.{Lead}
use Rattle.unit_read.specs.Units.{Unit, nodes_at, node_at, last_spelled}

-- ---- specifications

abbrev pub is_import : NodeKind → Bool
is_import k.ImportPath = true
is_import k.ImportDot = true
is_import k.ImportNamed = true
is_import _ = false

abbrev pub dot_limit : NodeKind → Option Limit
dot_limit k.ImportDot = Some DotImport
dot_limit _ = None

-- profile: `unsafe` and `C`, whatever the form of the import, and imports of all names
abbrev pub path_limit : List ℕ → NodeKind → Option Limit
path_limit path kind =
    if bytes_eq path (codes "unsafe") then Some Unsafe else (if bytes_eq path (codes "C") then Some Cgo else dot_limit kind)

-- ---- packages

abbrev pub paths_of : List Face → List (List ℕ)
paths_of env = map face_path env

-- the number of the package that has a path, if one has; what lies outside a limit leads to none
abbrev pub place_within : Option Limit → List Face → List ℕ → Option ℕ
place_within None env path = place_of (paths_of env) path
place_within (Some limit) env path = None

-- What an import of this literal leads to: the limit outside which it lies, or the number of the package that has its path, if one has.
abbrev pub lead_by : List Face → List ℕ → NodeKind → Lead
lead_by env literal kind = record { limit = path_limit (text_value literal) kind; interface = place_within (path_limit (text_value literal) kind) env (path_of literal) }

abbrev pub lead_of : Unit → ℕ → Node → Option Lead
lead_of u f node = if is_import node.kind then Some (lead_by u.env (last_spelled u f node) node.kind) else None

-- what the import at a node leads to
abbrev pub lead_at : Unit → NodeRef → Option Lead
lead_at u at = option_and_then (lead_of u at.file) (node_at u at)

abbrev pub import_limit : Unit → NodeRef → Option Limit
import_limit u at = option_and_then (λ (l : Lead). l.limit) (lead_at u at)

abbrev pub package_mark : Meaning
package_mark = Right (record { mode = mode.Package; of = BasicType kind.UntypedNil; value = None })

abbrev pub package_of : Option ℕ → Meaning
package_of None = Quiet
package_of (Some i) = package_mark

abbrev pub meaning_by : Option Limit → Option ℕ → Meaning
meaning_by None interface = package_of interface
meaning_by (Some l) interface = Beyond l

-- What an import means: a package; a use is Silent where it lies outside the profile or leads to none.
abbrev pub import_meaning : Unit → NodeRef → Meaning
import_meaning u at = option_map_or (λ (l : Lead). meaning_by l.limit l.interface) (lead_at u at) Quiet

-- ---- exported objects

abbrev pub object_name : ObjectOut → List ℕ
object_name o = o.name

abbrev pub plain_mark : Mode → GoType → Meaning
plain_mark mode of = Right (record { mode = mode; of = of; value = None })

-- what a use of an object is: a constant of its type and its value, a variable, a function as a value of its type, or a type
abbrev pub form_mark : List ℕ → List ℕ → Form → Meaning
form_mark path name (ConstantForm of c) = Right (record { mode = mode.Constant; of = of; value = Some c })
form_mark path name (VariableForm of) = plain_mark mode.Variable of
form_mark path name (FunctionForm of) = plain_mark mode.Value of
form_mark path name OwnForm = plain_mark mode.TypeName (DefinedType (record { «package» = path; name = name; local = 0 }))
form_mark path name (AliasForm of) = plain_mark mode.TypeName of

abbrev pub out_mark : List ℕ → ObjectOut → Meaning
out_mark path o = form_mark path o.name o.form

-- what a package has for a name
abbrev pub exported_in : List ℕ → Face → Option Meaning
exported_in name f = option_map (out_mark f.path) (first_named object_name f.objects name)

abbrev pub exported_by : List Face → List ℕ → Lead → Option Meaning
exported_by env name l = option_and_then (λ i. option_and_then (exported_in name) (slice_get env i)) l.interface

-- what the package of an import has for a name
abbrev pub exported_of : Unit → List ℕ → Option Object → Option Meaning
exported_of u name (Some (o.Import at)) = option_and_then (exported_by u.env name) (lead_at u at)
exported_of u name _ = None

-- ---- what rules see of other packages

-- what is known of the package of a specification's path
abbrev pub led_by : Unit → ℕ → Node → Option Face
led_by u f node = first_named face_path u.env (path_of (last_spelled u f node))

-- the limit outside which a specification lies
abbrev pub node_limit : Unit → ℕ → Node → Option Limit
node_limit u f node = path_limit (text_value (last_spelled u f node)) node.kind

abbrev pub faces_within : Option Limit → Option Face → List Face
faces_within None face = option_to_list face
faces_within (Some limit) face = []

abbrev pub face_for : Unit → ℕ → Node → List Face
face_for u f node = if is_import node.kind then faces_within (node_limit u f node) (led_by u f node) else []

abbrev pub nth_face : Unit → ℕ → ℕ → List Face
nth_face u f n = option_map_or (face_for u f) (slice_get (nodes_at u f) n) []

abbrev pub faces_for : Unit → ℕ → List Face
faces_for u f = gather (nth_face u f) (length (nodes_at u f))

-- these files over an environment, and nothing else of their package
abbrev pub files_over : List (List ℕ) → List FileTree → List Face → Unit
files_over texts trees env =
    record { path = []; texts = texts; trees = trees; uses = []; env = env; redeclared = λ at. false; cyclic = λ at. false; circular = λ at. false; owner = λ at. None }

-- What is seen of the packages that the imports name, in order of file and node. It reads the files and the environment alone, so that terms stay small.
unfoldable pub imported_by : List (List ℕ) → List FileTree → List Face → List Face
imported_by texts trees env = gather (faces_for (files_over texts trees env)) (length trees)

abbrev pub imported : Unit → List Face
imported u = imported_by u.texts u.trees u.env

-- The package over what is seen of the packages that its imports name. That is all that rules read of an environment: what defined types of other packages
-- are declared with they ask for.
abbrev pub bare : Unit → Unit
bare u = record { path = u.path; texts = u.texts; trees = u.trees; uses = u.uses; env = imported u; redeclared = u.redeclared; cyclic = u.cyclic; circular = u.circular; owner = u.owner }
