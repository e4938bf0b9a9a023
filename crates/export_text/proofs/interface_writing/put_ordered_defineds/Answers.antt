use Rattle.std.proofs.Common.{IsTrue, map}
use Rattle.std.proofs.lemmas.Result.{err_from_is_err_and}
use Rattle.gv_bytes.specs.Spelling.{AreItems}
use Rattle.type_model.specs.Tables.{types_in}
use Rattle.package_faces.specs.Orders.{rises, defined_before}
use Rattle.type_texts.proofs.WriteLaws.{tells_less}
use Rattle.package_faces.specs.declared.interface.ExportedType.{ExportedType}
use Rattle.export_text.specs.Faces.{IsDefinedOut}
use Rattle.package_faces.specs.Interfaces.{defined_in}
use Rattle.export_text.proofs.interface_writing.put_ordered_defineds.Goals as goal

pub returns-in_err-put_defineds-clause-fits : goal.returns-in_err-put_defineds-clause-fits
returns-in_err-put_defineds-clause-fits c =
    let p = err_from_is_err_and c.from_residual.result c.from_residual.ensures.1 in
    rw (p.1, p.2) (tells_less c.in_err-put_defineds.field-0.0 (AreItems IsDefinedOut (map (λ (d : ExportedType). defined_in (types_in c.args.table.now) d) c.args.types.now)) (AreItems IsDefinedOut (map (λ (d : ExportedType). defined_in (types_in c.args.table.now) d) c.args.types.now) × IsTrue (rises defined_before (map (λ (d : ExportedType). defined_in (types_in c.args.table.now) d) c.args.types.now))) (λ h. h.0) c.in_err-put_defineds.ensures.fits)
