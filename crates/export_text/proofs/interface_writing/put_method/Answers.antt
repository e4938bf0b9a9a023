use Rattle.std.proofs.lemmas.Result.{err_from_is_err_and}
use Rattle.type_model.specs.GoTypes.{FuncOf, signature_of}
use Rattle.type_model.specs.Parts.{method_of}
use Rattle.type_model.specs.Tables.{types_in}
use Rattle.gv_bytes.specs.Spelling.{natural, text}
use Rattle.type_texts.specs.Fields.{truth_of}
use Rattle.type_texts.specs.Texts.{IsType, type_text}
use Rattle.type_texts.proofs.WriteLaws.{behind_four, tells_less}
use Rattle.export_text.specs.Faces.{IsMethodOut}
use Rattle.export_text.proofs.interface_writing.put_method.Goals as goal

pub returns-in_err-put_function-clause-fits : goal.returns-in_err-put_function-clause-fits
returns-in_err-put_function-clause-fits c =
    let p = err_from_is_err_and c.from_residual-in_err-put_function.result c.from_residual-in_err-put_function.ensures.1 in
    rw (p.1, p.2) (tells_less c.in_err-put_function.field-0.0 (IsType (FuncOf (signature_of (types_in c.args.table.now) c.args.method.now.of))) (IsMethodOut (method_of (types_in c.args.table.now) c.args.method.now)) (λ h. h.1.1.1) c.in_err-put_function.ensures.fits)

pub returns-clause-written : goal.returns-clause-written
returns-clause-written c =
    behind_four c.args.out.now.items c.put_name.new.out.items c.put_name-2.new.out.items c.put_truth.new.out.items c.put_function.new.out.items (text c.args.method.now.name) (text c.args.method.now.«package») (natural (truth_of c.args.method.now.pointer)) (type_text (FuncOf (signature_of (types_in c.args.table.now) c.args.method.now.of)))
    c.in_ok-put_name.ensures.written c.in_ok-put_name-2.ensures.written c.in_ok-put_truth.ensures c.in_ok-put_function.ensures.written
