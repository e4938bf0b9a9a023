use Rattle.std.proofs.Common.{IsTrue, map}
use Rattle.std.proofs.lemmas.Result.{err_from_is_err_and}
use Rattle.type_model.specs.declared.term.Method.{Method}
use Rattle.type_model.specs.GoTypes.{type_at}
use Rattle.type_model.specs.Parts.{method_of}
use Rattle.type_model.specs.Tables.{types_in}
use Rattle.gv_bytes.specs.Spelling.{text, items, AreItems}
use Rattle.package_faces.specs.Orders.{rises, method_before}
use Rattle.type_texts.specs.Texts.{IsType, type_text}
use Rattle.type_texts.proofs.WriteLaws.{behind_three, tells_less}
use Rattle.export_text.specs.Faces.{IsDefinedOut, IsMethodOut, method_text}
use Rattle.package_faces.specs.Interfaces.{defined_in}
use Rattle.export_text.proofs.interface_writing.put_defined.Goals as goal

pub returns-in_err-put_type-clause-fits : goal.returns-in_err-put_type-clause-fits
returns-in_err-put_type-clause-fits c =
    let p = err_from_is_err_and c.from_residual-in_err-put_type.result c.from_residual-in_err-put_type.ensures.1 in
    rw (p.1, p.2) (tells_less c.in_err-put_type.field-0.0 (IsType (type_at (types_in c.args.table.now) c.args.defined.now.under)) (IsDefinedOut (defined_in (types_in c.args.table.now) c.args.defined.now)) (λ h. h.1.0) c.in_err-put_type.ensures.fits)

pub put_ordered_methods-requires-clause-within : goal.put_ordered_methods-requires-clause-within
put_ordered_methods-requires-clause-within c = rw c.as_slice.ensures c.requires.within.1

pub returns-in_err-put_ordered_methods-clause-fits : goal.returns-in_err-put_ordered_methods-clause-fits
returns-in_err-put_ordered_methods-clause-fits c =
    let p = err_from_is_err_and c.from_residual-in_err-put_ordered_methods.result c.from_residual-in_err-put_ordered_methods.ensures.1 in
    rw (p.1, p.2) (tells_less c.in_err-put_ordered_methods.field-0.0 (AreItems IsMethodOut (map (λ (m : Method). method_of (types_in c.args.table.now) m) c.args.defined.now.methods) × IsTrue (rises method_before (map (λ (m : Method). method_of (types_in c.args.table.now) m) c.args.defined.now.methods))) (IsDefinedOut (defined_in (types_in c.args.table.now) c.args.defined.now))
    (λ h. h.1.1) (rw c.as_slice.ensures at c.in_err-put_ordered_methods.ensures.fits))

pub returns-clause-written : goal.returns-clause-written
returns-clause-written c =
    behind_three c.args.out.now.items c.put_name.new.out.items c.put_type.new.out.items c.put_ordered_methods.new.out.items (text c.args.defined.now.name) (type_text (type_at (types_in c.args.table.now) c.args.defined.now.under)) (items method_text (map (λ (m : Method). method_of (types_in c.args.table.now) m) c.args.defined.now.methods))
    c.in_ok-put_name.ensures.written c.in_ok-put_type.ensures.written (rw c.as_slice.ensures at c.in_ok-put_ordered_methods.ensures.written)

pub returns-clause-fits : goal.returns-clause-fits
returns-clause-fits c = (c.in_ok-put_name.ensures.name, (c.in_ok-put_type.ensures.fits, (rw c.as_slice.ensures at c.in_ok-put_ordered_methods.ensures.fits)))
