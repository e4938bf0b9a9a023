use Rattle.std.proofs.Common.{IsTrue, map}
use Rattle.std.proofs.lemmas.Result.{err_from_is_err_and}
use Rattle.gv_bytes.specs.Spelling.{AreItems}
use Rattle.type_model.specs.Tables.{types_in}
use Rattle.package_faces.specs.Orders.{rises, object_before}
use Rattle.type_texts.proofs.WriteLaws.{tells_less}
use Rattle.package_faces.specs.declared.interface.Exported.{Exported}
use Rattle.export_text.specs.Faces.{IsObjectOut}
use Rattle.package_faces.specs.Interfaces.{object_in}
use Rattle.export_text.proofs.interface_writing.put_ordered_objects.Goals as goal

pub returns-in_err-put_objects-clause-fits : goal.returns-in_err-put_objects-clause-fits
returns-in_err-put_objects-clause-fits c =
    let p = err_from_is_err_and c.from_residual.result c.from_residual.ensures.1 in
    rw (p.1, p.2) (tells_less c.in_err-put_objects.field-0.0 (AreItems IsObjectOut (map (λ (o : Exported). object_in (types_in c.args.table.now) o) c.args.objects.now)) (AreItems IsObjectOut (map (λ (o : Exported). object_in (types_in c.args.table.now) o) c.args.objects.now) × IsTrue (rises object_before (map (λ (o : Exported). object_in (types_in c.args.table.now) o) c.args.objects.now))) (λ h. h.0) c.in_err-put_objects.ensures.fits)
