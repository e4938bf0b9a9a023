use Rattle.std.proofs.Common.{IsTrue, map}
use Rattle.std.proofs.lemmas.Result.{err_from_is_err_and}
use Rattle.gv_bytes.specs.Spelling.{text, items, AreItems}
use Rattle.type_model.specs.Tables.{types_in}
use Rattle.package_faces.specs.Orders.{rises, defined_before, object_before}
use Rattle.type_texts.proofs.WriteLaws.{behind_four, tells_less}
use Rattle.package_faces.specs.declared.interface.Exported.{Exported}
use Rattle.package_faces.specs.declared.interface.ExportedType.{ExportedType}
use Rattle.export_text.specs.Faces.{IsDefinedOut, IsFace, IsObjectOut, defined_text, object_text}
use Rattle.package_faces.specs.Interfaces.{defined_in, face_of, object_in}
use Rattle.export_text.proofs.interface_writing.put_face.Goals as goal

pub put_ordered_objects-requires-clause-within : goal.put_ordered_objects-requires-clause-within
put_ordered_objects-requires-clause-within c = rw (c.as_str.ensures, c.as_slice.ensures) c.requires.within.objects

pub put_ordered_defineds-requires-clause-within : goal.put_ordered_defineds-requires-clause-within
put_ordered_defineds-requires-clause-within c = rw c.as_slice-2.ensures c.requires.within.defined

pub returns-in_err-put_ordered_objects-clause-fits : goal.returns-in_err-put_ordered_objects-clause-fits
returns-in_err-put_ordered_objects-clause-fits c =
    let p = err_from_is_err_and c.from_residual-in_err-put_ordered_objects.result c.from_residual-in_err-put_ordered_objects.ensures.1 in
    rw (p.1, p.2) (tells_less c.in_err-put_ordered_objects.field-0.0 (AreItems IsObjectOut (map (λ (o : Exported). object_in (types_in c.args.table.now) o) c.args.interface.now.objects) × IsTrue (rises object_before (map (λ (o : Exported). object_in (types_in c.args.table.now) o) c.args.interface.now.objects))) (IsFace (face_of (types_in c.args.table.now) c.args.interface.now))
    (λ h. h.1.1.0) (rw c.as_slice.ensures at c.in_err-put_ordered_objects.ensures.fits))

pub returns-in_err-put_ordered_defineds-clause-fits : goal.returns-in_err-put_ordered_defineds-clause-fits
returns-in_err-put_ordered_defineds-clause-fits c =
    let p = err_from_is_err_and c.from_residual-in_err-put_ordered_defineds.result c.from_residual-in_err-put_ordered_defineds.ensures.1 in
    rw (p.1, p.2) (tells_less c.in_err-put_ordered_defineds.field-0.0 (AreItems IsDefinedOut (map (λ (d : ExportedType). defined_in (types_in c.args.table.now) d) c.args.interface.now.types) × IsTrue (rises defined_before (map (λ (d : ExportedType). defined_in (types_in c.args.table.now) d) c.args.interface.now.types))) (IsFace (face_of (types_in c.args.table.now) c.args.interface.now))
    (λ h. h.1.1.1) (rw c.as_slice-2.ensures at c.in_err-put_ordered_defineds.ensures.fits))

pub returns-clause-written : goal.returns-clause-written
returns-clause-written c =
    behind_four c.args.out.now.items c.put_name.new.out.items c.put_name-2.new.out.items c.put_ordered_objects.new.out.items c.put_ordered_defineds.new.out.items (text c.args.interface.now.path) (text c.args.interface.now.name) (items object_text (map (λ (o : Exported). object_in (types_in c.args.table.now) o) c.args.interface.now.objects)) (items defined_text (map (λ (d : ExportedType). defined_in (types_in c.args.table.now) d) c.args.interface.now.types))
    c.in_ok-put_name.ensures.written c.in_ok-put_name-2.ensures.written (rw c.as_slice.ensures at c.in_ok-put_ordered_objects.ensures.written) (rw c.as_slice-2.ensures at c.in_ok-put_ordered_defineds.ensures.written)

pub returns-clause-fits : goal.returns-clause-fits
returns-clause-fits c =
    (c.in_ok-put_name.ensures.name, (c.in_ok-put_name-2.ensures.name, ((rw c.as_slice.ensures at c.in_ok-put_ordered_objects.ensures.fits), (rw c.as_slice-2.ensures at c.in_ok-put_ordered_defineds.ensures.fits))))
