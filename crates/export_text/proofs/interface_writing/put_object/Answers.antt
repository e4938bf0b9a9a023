use Rattle.std.proofs.lemmas.Result.{err_from_is_err_and}
use Rattle.type_model.specs.Tables.{types_in}
use Rattle.gv_bytes.specs.Spelling.{text}
use Rattle.type_texts.proofs.WriteLaws.{behind_two, tells_less}
use Rattle.export_text.specs.Faces.{IsForm, IsObjectOut, form_text}
use Rattle.package_faces.specs.Interfaces.{form_in, object_in}
use Rattle.export_text.proofs.interface_writing.put_object.Goals as goal

pub returns-in_err-put_form-clause-fits : goal.returns-in_err-put_form-clause-fits
returns-in_err-put_form-clause-fits c =
    let p = err_from_is_err_and c.from_residual-in_err-put_form.result c.from_residual-in_err-put_form.ensures.1 in
    rw (p.1, p.2) (tells_less c.in_err-put_form.field-0.0 (IsForm (form_in (types_in c.args.table.now) c.args.object.now.form)) (IsObjectOut (object_in (types_in c.args.table.now) c.args.object.now)) (λ h. h.1) c.in_err-put_form.ensures.fits)

pub returns-clause-written : goal.returns-clause-written
returns-clause-written c =
    behind_two c.args.out.now.items c.put_name.new.out.items c.put_form.new.out.items (text c.args.object.now.name) (form_text (form_in (types_in c.args.table.now) c.args.object.now.form)) c.in_ok-put_name.ensures.written c.in_ok-put_form.ensures.written
