use Rattle.std.proofs.Common.{List, map, ap, sym, ◌∙◌}
use Rattle.type_model.specs.declared.term.Method.{Method}
use Rattle.type_model.specs.Tables.{types_in}
use Rattle.package_faces.specs.Orders.{rises, method_before}
use Rattle.type_model.specs.Parts.{method_of}
use Rattle.type_texts.proofs.GrowLaws.{grown_itself}
use Rattle.export_text.proofs.FaceReading.{methods_not}
use Rattle.export_text.proofs.method_reading.read_ordered_methods.Goals as goal

pub returns-then-not-methods_rise-clause-is : goal.returns-then-not-methods_rise-clause-is
returns-then-not-methods_rise-clause-is c =
    let types = types_in c.read_methods.new.table in
    methods_not c.args.bytes.now c.in_ok-count.rest.now c.in_ok-methods.rest.now c.in_ok-count.count (map (λ (x : Method). method_of types x) c.in_ok-methods.methods.items) c.in_ok-count.ensures.value c.in_ok-methods.ensures.is
    (ap (λ (l : List Method). rises method_before (map (λ (x : Method). method_of types x) l)) (sym c.deref.ensures.value) ∙ sym c.methods_rise.ensures ∙ c.if-not-methods_rise.true)

pub returns-in_err-count-clause-grown : goal.returns-in_err-count-clause-grown
returns-in_err-count-clause-grown c = grown_itself c.args.table.now c.requires.table
