use Rattle.std.proofs.Common.{sym, ◌∙◌}
use Rattle.std.proofs.lemmas.Option.{none-some}
use Rattle.gv_bytes.proofs.Options.{some_is, unspelled}
use Rattle.type_model.specs.Tables.{types_in}
use Rattle.export_text.specs.Faces.{face_in}
use Rattle.package_faces.specs.Interfaces.{face_of}
use Rattle.export_text.proofs.FaceReading.{face_take, face_again}
use Rattle.export_text.proofs.interface_reading.read.Goals as goal

pub returns-in-Ok-clause-found : goal.returns-in-Ok-clause-found
returns-in-Ok-clause-found c = face_take c.args.bytes.now (face_of (types_in c.whole.new.table) c.in-Ok.interface) c.in-Ok.ensures.is

pub returns-in-Ok-clause-only : goal.returns-in-Ok-clause-only
returns-in-Ok-clause-only c = λ f h. some_is (face_of (types_in c.whole.new.table) c.in-Ok.interface) f (sym c.in-Ok.ensures.is ∙ face_again c.args.bytes.now f h)

pub returns-in-Err-Unspelled-clause-only : goal.returns-in-Err-Unspelled-clause-only
returns-in-Err-Unspelled-clause-only c = λ f h.
    none-some f (sym (unspelled c.in-Err-Unspelled.field-0 (face_in c.args.bytes.now) c.in-Err-Unspelled.field-0-is c.in-Err-Unspelled.ensures.is) ∙ face_again c.args.bytes.now f h)
