use Rattle.std.proofs.Common.{IsTrue, map}
use Rattle.std.proofs.lemmas.Result.{err_from_is_err_and}
use Rattle.gv_bytes.specs.Spelling.{AreItems}
use Rattle.type_model.specs.declared.term.Method.{Method}
use Rattle.type_model.specs.Parts.{method_of}
use Rattle.type_model.specs.Tables.{types_in}
use Rattle.package_faces.specs.Orders.{rises, method_before}
use Rattle.type_texts.proofs.WriteLaws.{tells_less}
use Rattle.export_text.specs.Faces.{IsMethodOut}
use Rattle.export_text.proofs.interface_writing.put_ordered_methods.Goals as goal

pub returns-in_err-put_methods-clause-fits : goal.returns-in_err-put_methods-clause-fits
returns-in_err-put_methods-clause-fits c =
    let p = err_from_is_err_and c.from_residual.result c.from_residual.ensures.1 in
    rw (p.1, p.2) (tells_less c.in_err-put_methods.field-0.0 (AreItems IsMethodOut (map (λ (m : Method). method_of (types_in c.args.table.now) m) c.args.methods.now)) (AreItems IsMethodOut (map (λ (m : Method). method_of (types_in c.args.table.now) m) c.args.methods.now) × IsTrue (rises method_before (map (λ (m : Method). method_of (types_in c.args.table.now) m) c.args.methods.now))) (λ h. h.0) c.in_err-put_methods.ensures.fits)
