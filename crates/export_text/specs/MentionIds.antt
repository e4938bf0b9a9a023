-- The numbers of the types that stand in the text of an interface over a table.
use Rattle.std.specs.Prelude.{List, [], ◌∷◌, ◌++◌}
use Rattle.std.specs.List.{flat_map}
use Rattle.type_model.specs.declared.term.TypeId.{TypeId}
use Rattle.package_faces.specs.declared.interface.Interface.{Interface}
use Rattle.package_faces.specs.declared.interface.Exported.{Exported}
use Rattle.package_faces.specs.declared.interface.ExportedType.{ExportedType}
use Rattle.package_faces.specs.declared.interface.ExportForm.{ExportForm}
use Rattle.package_faces.specs.declared.interface.ExportForm.TheVariants as form
use Rattle.export_text.specs.Searching.{methods_ids}

abbrev pub form_ids : ExportForm → List TypeId
form_ids (form.Constant id c) = id ∷ []
form_ids (form.Variable id) = id ∷ []
form_ids (form.Function id) = id ∷ []
form_ids (form.Own id) = []
form_ids (form.Alias id) = id ∷ []

abbrev pub object_ids : Exported → List TypeId
object_ids o = form_ids o.form

abbrev pub defined_ids : ExportedType → List TypeId
defined_ids d = d.under ∷ methods_ids d.methods

abbrev pub face_ids : Interface → List TypeId
face_ids i = flat_map object_ids i.objects ++ flat_map defined_ids i.types
