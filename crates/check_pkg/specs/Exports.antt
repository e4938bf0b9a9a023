-- What a package exports, as it is listed.
use Rattle.std.specs.Prelude.{◌≡◌, ◌⊎◌, ℕ, ◌<◌, ◌++◌, true, Bool, false, List, [], ◌∷◌, Some, Option, map, option_map, slice_get}
use Rattle.std.specs.List.{Contains}
use Rattle.go_tree.specs.declared.tree.NodeRef.{NodeRef}
use Rattle.package_faces.specs.declared.interface.Exported.{Exported}
use Rattle.package_faces.specs.declared.interface.ExportForm.{ExportForm}
use Rattle.package_faces.specs.Faces.{Form, ObjectOut}
use Rattle.package_faces.specs.Interfaces.{form_in, object_in, id_of, IsOwn}
use Rattle.package_faces.specs.Reaching.{own_name}
use Rattle.type_model.specs.declared.term.Term.{Term}
use Rattle.type_model.specs.declared.term.Term.TheVariants.{Defined}
use Rattle.type_model.specs.Tables.{types_in, count, is_same_name}
use Rattle.typed_marks.specs.declared.item.Item.{Item}
use Rattle.typed_marks.specs.declared.state.State.{State}
use Rattle.typed_marks.specs.Meanings.{Meaning}
use Rattle.unit_read.specs.Units.{Unit}
use Rattle.check_pkg.specs.Interfaces.{is_exported, form_of, object_item, ExportsNth}

abbrev pub is_named_in : List ℕ → List ℕ → Term → Bool
is_named_in path name (Defined other) = is_same_name (own_name path name) other
is_named_in path name term = false

-- what objects are over the table of a state
abbrev pub outs_in : State → List Exported → List ObjectOut
outs_in s list = map (λ e. object_in (types_in s.table) e) list

abbrev pub forms_in : State → Option ExportForm → Option Form
forms_in s o = option_map (form_in (types_in s.table)) o

-- its type stands in the table, and where it is the package's own, it is that of the name
abbrev pub IsFormIn : List ℕ → List ℕ → State → ExportForm → Type 0
IsFormIn path name s form = ((id_of form).0 < count s.table) × IsOwn path (types_in s.table) name form

-- this is exported by a name
abbrev pub ExportsNamed : List ℕ → (Item → Meaning) → List ℕ → NodeRef → ObjectOut → Type 0
ExportsNamed path marks name at out = (is_exported name ≡ true) × (out.name ≡ name) × (form_of path name (marks (object_item at)) ≡ Some out.form)

pub record AddsNamed (path : List ℕ) (marks : Item → Meaning) (name : List ℕ) (at : NodeRef) (old new : List ObjectOut) : Type 0 where
  pub adds : (new ≡ old) ⊎ ((out : ObjectOut) × (new ≡ old ++ out ∷ []) × ExportsNamed path marks name at out)
  pub has : (out : ObjectOut) → ExportsNamed path marks name at out → Contains new out

-- the list ends in what this name exports, if it exports anything
pub record AddsExport (u : Unit) (marks : Item → Meaning) (k : ℕ) (old new : List ObjectOut) : Type 0 where
  pub adds : (new ≡ old) ⊎ ((out : ObjectOut) × (new ≡ old ++ out ∷ []) × ExportsNth u marks k out)
  pub has : (out : ObjectOut) → ExportsNth u marks k out → Contains new out

-- no two objects of the list have one name
abbrev pub AreDistinct : List ObjectOut → Type 0
AreDistinct list = (i j : ℕ) (a b : ObjectOut) → ¬ (i ≡ j) → slice_get list i ≡ Some a → slice_get list j ≡ Some b → ¬ (a.name ≡ b.name)
