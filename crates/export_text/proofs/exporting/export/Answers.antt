use Rattle.std.proofs.Common.{map}
use Rattle.type_model.specs.Tables.{types_in, declarations_in}
use Rattle.package_faces.specs.declared.interface.Exported.{Exported}
use Rattle.package_faces.specs.Interfaces.{face_of, object_in}
use Rattle.export_text.proofs.GatherLaws.{export_only, exported_can}
use Rattle.export_text.proofs.exporting.export.Goals as goal

pub returns-in_ok-text-in-Ok-clause-only : goal.returns-in_ok-text-in-Ok-clause-only
returns-in_ok-text-in-Ok-clause-only c =
    let t = c.args.table.now in
    export_only (declarations_in t) c.args.path c.args.name (map (λ (o : Exported). object_in (types_in t) o) c.args.objects) (face_of (types_in t) c.in-Ok.interface) c.in-Ok.ensures.is c.in_ok-text-in-Ok.text c.in_ok-text-in-Ok.ensures.only

pub returns-in-Err-Unspelled-clause-only : goal.returns-in-Err-Unspelled-clause-only
returns-in-Err-Unspelled-clause-only c = λ bytes h.
    let t = c.args.table.now in
    let refused = rw c.in-Err-Unspelled.field-0-is at c.in-Err-Unspelled.ensures.tells in
    absurd (refused (exported_can (declarations_in t) c.args.path c.args.name (map (λ (o : Exported). object_in (types_in t) o) c.args.objects) h.face h.export))
