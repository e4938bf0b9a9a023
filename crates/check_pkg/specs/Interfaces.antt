-- What a package exports (Go 1.17, "Exported identifiers").
use Rattle.std.specs.Prelude.{◌≡◌, ℕ, ◌↔◌, Bool, true, false, if◌then◌else◌, List, [], ◌∷◌, chars, Option, Some, None, slice_get, option_map}
use Rattle.std.specs.List.{Contains}
use Rattle.ucd_category.specs.GeneralCategory.{general_category}
use Rattle.ucd_category.specs.declared.GeneralCategory.{GeneralCategory}
use Rattle.ucd_category.specs.declared.GeneralCategory.TheVariants.{UppercaseLetter}
use Rattle.gv_base.specs.declared.constant.Const.{Const}
use Rattle.go_tree.specs.Lexeme.{place_of}
use Rattle.go_tree.specs.Names.{spelled_at}
use Rattle.go_tree.specs.declared.tree.NodeRef.{NodeRef}
use Rattle.package_faces.specs.Faces.{Form, ConstantForm, VariableForm, FunctionForm, OwnForm, AliasForm, ObjectOut, DefinedOut, Face}
use Rattle.package_faces.specs.Orders.{rises, object_before, defined_before, method_before}
use Rattle.package_faces.specs.Reaching.{own_name, IsExportOf}
use Rattle.type_model.specs.Declarations.{Declarations}
use Rattle.type_model.specs.GoTypes.{GoType}
use Rattle.type_model.specs.Tables.{is_named}
use Rattle.type_questions.specs.Over.{declared}
use Rattle.typed_tree.specs.declared.mark.Mode.{Mode}
use Rattle.typed_tree.specs.declared.mark.Mode.TheVariants as mode
use Rattle.typed_marks.specs.declared.item.Item.{Item}
use Rattle.typed_marks.specs.declared.item.Stage.TheVariants as s
use Rattle.typed_marks.specs.Meanings.{Meaning, Right, Wrong, Beyond, Quiet, Wishes, Declares}
use Rattle.unit_read.specs.Imports.{bare}
use Rattle.unit_read.specs.Units.{Unit, name_at, base_of}
use Rattle.unit_rows.specs.Redeclared.{package_names}
use Rattle.rule_words.specs.Asking.{Rule, item, type_item, declaration_told}
use Rattle.check_pkg.specs.Names.{spelled_names}
use Rattle.check_pkg.specs.Refusals.{IsAnnotation}

-- ---- names

-- Unicode's category Lu
abbrev pub is_upper : GeneralCategory → Bool
is_upper UppercaseLetter = true
is_upper _ = false

abbrev pub begins_upper : List ℕ → Bool
begins_upper [] = false
begins_upper (c ∷ cs) = is_upper (general_category c)

-- a name whose first character is an upper case letter
abbrev pub is_exported : List ℕ → Bool
is_exported name = begins_upper (chars name)

-- ---- what an object is exported as

-- a type is one of the package's own where it is the defined type of the object's name, else an alias
abbrev pub type_form : List ℕ → List ℕ → GoType → Form
type_form path name of = if is_named (own_name path name) of then OwnForm else AliasForm of

abbrev pub form_by : List ℕ → List ℕ → Mode → GoType → Option Const → Option Form
form_by path name mode.NoValue of value = None
form_by path name mode.TypeName of value = Some (type_form path name of)
form_by path name mode.Constant of value = option_map (ConstantForm of) value
form_by path name mode.Variable of value = Some (VariableForm of)
form_by path name mode.MapIndex of value = None
form_by path name mode.Value of value = Some (FunctionForm of)
form_by path name mode.CommaOk of value = None
form_by path name mode.Nil of value = None
form_by path name mode.Builtin of value = None
form_by path name mode.Package of value = None
form_by path name mode.Many of value = None

-- by the mark of the object: nothing where that isn't good
abbrev pub form_of : List ℕ → List ℕ → Meaning → Option Form
form_of path name (Right x) = form_by path name x.mode x.of x.value
form_of path name (Wrong rule) = None
form_of path name (Beyond limit) = None
form_of path name Quiet = None
form_of path name (Wishes demand wish) = None
form_of path name (Declares d) = None

-- ---- what is exported

-- the object that is declared at a name
abbrev pub object_item : NodeRef → Item
object_item name = item s.Object name.file name.node

-- The name at a place of the package block is the first of its spelling and is exported, and the object that is declared there is exported so.
pub record ExportsNth (u : Unit) (marks : Item → Meaning) (k : ℕ) (out : ObjectOut) : Type 0 where
  pub name : NodeRef
  pub there : slice_get (package_names u) k ≡ Some name
  pub first : place_of (spelled_names u) (name_at u name) ≡ Some k
  pub exported : is_exported (name_at u name) ≡ true
  pub named : out.name ≡ name_at u name
  pub form : form_of u.path (name_at u name) (marks (object_item name)) ≡ Some out.form

abbrev pub IsExported : Unit → (Item → Meaning) → ObjectOut → Type 0
IsExported u marks out = (k : ℕ) × ExportsNth u marks k out

-- what is declared by an annotation
abbrev pub declarations_of : Unit → (Item → Meaning) → Declarations
declarations_of u marks = declared (base_of u) (type_item (bare u)) declaration_told (λ i. Some (marks i))

-- its name: that in the package clause of its first file
abbrev pub unit_name : Unit → List ℕ
unit_name u = spelled_at (record { texts = u.texts; trees = u.trees }) 0 0

-- The objects are what the unit exports by these rules, whatever annotation is read: in byte order of the names, and each name once.
pub record HasObjects (rule : Unit → Item → Rule) (u : Unit) (objects : List ObjectOut) : Type 0 where
  pub rise : rises object_before objects ≡ true
  pub each : (marks : Item → Meaning) → IsAnnotation rule u marks → (out : ObjectOut) → Contains objects out ↔ IsExported (bare u) marks out

-- What is seen of the unit by other packages: what it exports, and the own defined types that are reached from there through fields, methods
-- and underlying types, exported or not, each as every annotation declares it; types by name, their methods by name and package.
pub record HasExports (rule : Unit → Item → Rule) (u : Unit) (f : Face) : Type 0 where
  pub objects : HasObjects rule u f.objects
  pub types : rises defined_before f.types ≡ true
  pub methods : (d : DefinedOut) → Contains f.types d → rises method_before d.methods ≡ true
  pub reached : (marks : Item → Meaning) → IsAnnotation rule u marks → IsExportOf (declarations_of u marks) u.path (unit_name u) f.objects f
