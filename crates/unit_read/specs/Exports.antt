-- What is said of what imports lead to.
use Rattle.std.specs.Prelude.{ℕ, ◌<◌, List, Option, Some, None, slice_get, option_and_then, option_map}
use Rattle.std.specs.Option.{option_map_or}
use Rattle.go_tree.specs.Lexeme.{place_of}
use Rattle.go_tree.specs.declared.bindings.Object.{Object}
use Rattle.go_tree.specs.declared.bindings.Object.TheVariants as o
use Rattle.package_faces.specs.declared.interface.Interface.{Interface}
use Rattle.package_faces.specs.declared.interface.Exported.{Exported}
use Rattle.package_faces.specs.declared.interface.ExportForm.{ExportForm}
use Rattle.package_faces.specs.declared.interface.ExportForm.TheVariants as form
use Rattle.package_faces.specs.Interfaces.{id_of}
use Rattle.type_model.specs.GoTypes.{GoType, type_at}
use Rattle.typed_tree.specs.Meanings.{Meaning, Right, Quiet}
use Rattle.typed_tree.specs.Places.{use_mark}
use Rattle.typed_tree.specs.declared.mark.Mode.TheVariants as mode
use Rattle.unit_read.specs.declared.lead.Lead.{Lead}
use Rattle.unit_read.specs.declared.subject.Subject.{Subject}
use Rattle.unit_read.specs.Environments.{names_of, object_in}
use Rattle.unit_read.specs.Imports.{meaning_by, lead_at, plain_mark}
use Rattle.unit_read.specs.Subjects.{full_of}

-- the place of the object of a name
abbrev pub member_of : List ℕ → Interface → Option ℕ
member_of name i = place_of (names_of i.objects) name

-- the meaning of a use of what an import leads to
abbrev pub used_lead : Option Lead → Meaning
used_lead lead = use_mark (Some (option_map_or (λ (l : Lead). meaning_by l.limit l.interface) lead Quiet))

-- ---- exported objects over the types of a table

abbrev pub mark_in : List GoType → ExportForm → Meaning
mark_in types (form.Constant id c) = Right (record { mode = mode.Constant; of = type_at types id; value = Some c })
mark_in types (form.Variable id) = plain_mark mode.Variable (type_at types id)
mark_in types (form.Function id) = plain_mark mode.Value (type_at types id)
mark_in types (form.Own id) = plain_mark mode.TypeName (type_at types id)
mark_in types (form.Alias id) = plain_mark mode.TypeName (type_at types id)

-- what a use of an object is
abbrev pub use_in : List GoType → Exported → Meaning
use_in types e = mark_in types e.form

abbrev pub uses_in : List GoType → Option Exported → Option Meaning
uses_in types o = option_map (use_in types) o

-- its type is one of the first n
abbrev pub IsUseIn : ℕ → Exported → Type 0
IsUseIn n e = (id_of e.form).0 < n

-- the object of a name that the interface at a place has
abbrev pub object_at : List Interface → List ℕ → ℕ → Option Exported
object_at interfaces name i = option_and_then (object_in name) (slice_get interfaces i)

abbrev pub object_by : List Interface → List ℕ → Option ℕ → Option Exported
object_by interfaces name interface = option_and_then (object_at interfaces name) interface

abbrev pub object_from : List Interface → List ℕ → Option Lead → Option Exported
object_from interfaces name lead = option_and_then (λ (l : Lead). object_by interfaces name l.interface) lead

-- the object that the package has to which a use leads
abbrev pub object_of : Subject → List ℕ → Option Object → Option Exported
object_of s name (Some (o.Import at)) = object_from s.env.now.interfaces.now name (lead_at (full_of s) at)
object_of s name _ = None
