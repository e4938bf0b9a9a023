use Rattle.std.proofs.Common.{◌++◌, length, map, arith}
use Rattle.std.proofs.lemmas.Result.{err_from_is_err_and}
use Rattle.gv_bytes.specs.Spelling.{natural, AreItems}
use Rattle.package_faces.specs.declared.interface.Exported.{Exported}
use Rattle.type_model.specs.Tables.{types_in}
use Rattle.type_texts.proofs.WriteLaws.{tells_less}
use Rattle.export_text.specs.Faces.{object_text, IsObjectOut}
use Rattle.package_faces.specs.Interfaces.{object_in}
use Rattle.export_text.proofs.ItemLaws.{written_more, fits_more, all_written, all_fit, one_fits}
use Rattle.export_text.proofs.interface_writing.put_objects.Goals as goal

pub loop-object-preserved : goal.loop-object-preserved
loop-object-preserved c = record {
  written = written_more (λ (o : Exported). object_in (types_in c.args.table.now) o) object_text (c.args.out.now.items ++ natural (length c.args.objects.now)) c.args.objects.now c.loop-object.object-index c.object-item.result c.loop-object.out.items c.put_object.new.out.items c.loop-object-test.true c.object-item.is c.loop-object.invariant.written c.in_ok-put_object.ensures.written;
  fits = fits_more (λ (o : Exported). object_in (types_in c.args.table.now) o) IsObjectOut c.args.objects.now c.loop-object.object-index c.object-item.result c.loop-object-test.true c.object-item.is c.loop-object.invariant.fits c.in_ok-put_object.ensures.fits;
}

pub returns-clause-written : goal.returns-clause-written
returns-clause-written c = all_written (λ (o : Exported). object_in (types_in c.args.table.now) o) object_text c.args.out.now.items c.args.objects.now c.loop-object.object-index c.loop-object.out.items (omega arith) c.loop-object.invariant.written

pub returns-clause-fits : goal.returns-clause-fits
returns-clause-fits c = all_fit (λ (o : Exported). object_in (types_in c.args.table.now) o) IsObjectOut c.args.objects.now c.loop-object.object-index (omega arith) (omega arith) c.loop-object.invariant.fits

pub returns-in_err-put_object-clause-fits : goal.returns-in_err-put_object-clause-fits
returns-in_err-put_object-clause-fits c =
    let p = err_from_is_err_and c.from_residual-in_err-put_object.result c.from_residual-in_err-put_object.ensures.1 in
    rw (p.1, p.2) (tells_less c.in_err-put_object.field-0.0 (IsObjectOut (object_in (types_in c.args.table.now) c.object-item.result)) (AreItems IsObjectOut (map (λ (o : Exported). object_in (types_in c.args.table.now) o) c.args.objects.now))
    (one_fits (λ (o : Exported). object_in (types_in c.args.table.now) o) IsObjectOut c.args.objects.now c.loop-object.object-index c.object-item.result c.loop-object-test.true c.object-item.is) c.in_err-put_object.ensures.fits)
