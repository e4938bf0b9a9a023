use Rattle.std.proofs.Common.{List, map, ap, sym, ◌∙◌}
use Rattle.package_faces.specs.declared.interface.Exported.{Exported}
use Rattle.type_model.specs.Tables.{types_in}
use Rattle.package_faces.specs.Orders.{rises, object_before}
use Rattle.package_faces.specs.Interfaces.{object_in}
use Rattle.type_texts.proofs.GrowLaws.{grown_itself}
use Rattle.export_text.proofs.FaceReading.{objects_not}
use Rattle.export_text.proofs.interface_reading.read_ordered_objects.Goals as goal

pub returns-then-not-objects_rise-clause-is : goal.returns-then-not-objects_rise-clause-is
returns-then-not-objects_rise-clause-is c =
    let types = types_in c.read_objects.new.table in
    objects_not c.args.bytes.now c.in_ok-count.rest.now c.in_ok-objects.rest.now c.in_ok-count.count (map (λ (x : Exported). object_in types x) c.in_ok-objects.objects.items) c.in_ok-count.ensures.value c.in_ok-objects.ensures.is
    (ap (λ (l : List Exported). rises object_before (map (λ (x : Exported). object_in types x) l)) (sym c.deref.ensures.value) ∙ sym c.objects_rise.ensures ∙ c.if-not-objects_rise.true)

pub returns-in_err-count-clause-grown : goal.returns-in_err-count-clause-grown
returns-in_err-count-clause-grown c = grown_itself c.args.table.now c.requires.table
