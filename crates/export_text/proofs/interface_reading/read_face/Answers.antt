use Rattle.std.proofs.Common.{List, map, sym, subst}
use Rattle.type_model.specs.Tables.{terms_in, types_in, count}
use Rattle.type_texts.proofs.GrowLaws.{grown_itself, grown_then}
use Rattle.package_faces.specs.declared.interface.Exported.{Exported}
use Rattle.package_faces.specs.declared.interface.ExportedType.{ExportedType}
use Rattle.package_faces.specs.Interfaces.{defined_in, object_in, AreObjectsIn, AreDefinedIn}
use Rattle.export_text.proofs.FaceReading.{face_read}
use Rattle.export_text.proofs.InterfaceLaws.{objects_grow, objects_stay}
use Rattle.export_text.proofs.interface_reading.read_face.Goals as goal

pub returns-clause-is : goal.returns-clause-is
returns-clause-is c =
    let middle = c.read_ordered_objects.new.table in
    let last = c.read_ordered_defineds.new.table in
    rw (c.new.ensures, c.new-2.ensures) (face_read c.args.bytes.now c.in_ok-path.rest.now c.in_ok-name.rest.now c.in_ok-objects.rest.now c.in_ok-types.rest.now c.in_ok-path.path c.in_ok-name.name
    (map (λ (o : Exported). object_in (types_in middle) o) c.in_ok-objects.objects.items) (map (λ (o : Exported). object_in (types_in last) o) c.in_ok-objects.objects.items)
    (map (λ (d : ExportedType). defined_in (types_in last) d) c.in_ok-types.types.items) c.in_ok-path.ensures c.in_ok-name.ensures c.in_ok-objects.ensures.is c.in_ok-types.ensures.is
    (sym (objects_stay (terms_in middle) (terms_in last) c.in_ok-types.ensures.grown.extends c.in_ok-path.path c.in_ok-objects.objects.items c.in_ok-objects.ensures.own)))

pub returns-clause-grown : goal.returns-clause-grown
returns-clause-grown c = grown_then c.args.table.now c.read_ordered_objects.new.table c.read_ordered_defineds.new.table c.in_ok-objects.ensures.grown c.in_ok-types.ensures.grown

pub returns-in_err-types-clause-grown : goal.returns-in_err-types-clause-grown
returns-in_err-types-clause-grown c = grown_then c.args.table.now c.read_ordered_objects.new.table c.read_ordered_defineds.new.table c.in_ok-objects.ensures.grown c.in_err-types.ensures.grown

pub returns-clause-within : goal.returns-clause-within
returns-clause-within c = record {
  objects = subst (λ (l : List Exported). AreObjectsIn c.in_ok-path.path (count c.read_ordered_defineds.new.table) (types_in c.read_ordered_defineds.new.table) l) (sym c.new.ensures) (objects_grow (terms_in c.read_ordered_objects.new.table) (terms_in c.read_ordered_defineds.new.table) c.in_ok-types.ensures.grown.extends c.in_ok-path.path c.in_ok-objects.objects.items c.in_ok-objects.ensures.own);
  defined = subst (λ (l : List ExportedType). AreDefinedIn (count c.read_ordered_defineds.new.table) l) (sym c.new-2.ensures) c.in_ok-types.ensures.below;
}

pub returns-in_err-path-clause-grown : goal.returns-in_err-path-clause-grown
returns-in_err-path-clause-grown c = grown_itself c.args.table.now c.requires.table

pub returns-in_err-name-clause-grown : goal.returns-in_err-name-clause-grown
returns-in_err-name-clause-grown c = grown_itself c.args.table.now c.requires.table
