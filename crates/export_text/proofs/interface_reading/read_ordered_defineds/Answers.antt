use Rattle.std.proofs.Common.{List, map, ap, sym, ◌∙◌}
use Rattle.package_faces.specs.declared.interface.ExportedType.{ExportedType}
use Rattle.type_model.specs.Tables.{types_in}
use Rattle.package_faces.specs.Orders.{rises, defined_before}
use Rattle.package_faces.specs.Interfaces.{defined_in}
use Rattle.type_texts.proofs.GrowLaws.{grown_itself}
use Rattle.export_text.proofs.FaceReading.{defineds_not}
use Rattle.export_text.proofs.interface_reading.read_ordered_defineds.Goals as goal

pub returns-then-not-defineds_rise-clause-is : goal.returns-then-not-defineds_rise-clause-is
returns-then-not-defineds_rise-clause-is c =
    let types = types_in c.read_defineds.new.table in
    defineds_not c.args.bytes.now c.in_ok-count.rest.now c.in_ok-types.rest.now c.in_ok-count.count (map (λ (x : ExportedType). defined_in types x) c.in_ok-types.types.items) c.in_ok-count.ensures.value c.in_ok-types.ensures.is
    (ap (λ (l : List ExportedType). rises defined_before (map (λ (x : ExportedType). defined_in types x) l)) (sym c.deref.ensures.value) ∙ sym c.defineds_rise.ensures ∙ c.if-not-defineds_rise.true)

pub returns-in_err-count-clause-grown : goal.returns-in_err-count-clause-grown
returns-in_err-count-clause-grown c = grown_itself c.args.table.now c.requires.table
