use Rattle.std.proofs.Common.{◌∷◌}
use Rattle.std.proofs.lemmas.Result.{err_from_is_err_and}
use Rattle.type_model.specs.GoTypes.{type_at}
use Rattle.type_model.specs.Tables.{types_in}
use Rattle.type_texts.specs.Fields.{IsConst, value}
use Rattle.type_texts.specs.Texts.{IsType, type_text}
use Rattle.type_texts.proofs.WriteLaws.{behind_two, tells_less}
use Rattle.export_text.proofs.interface_writing.put_constant.Goals as goal

pub returns-in_err-put_marked-clause-fits : goal.returns-in_err-put_marked-clause-fits
returns-in_err-put_marked-clause-fits c =
    let p = err_from_is_err_and c.from_residual.result c.from_residual.ensures.1 in
    rw (p.1, p.2) (tells_less c.in_err-put_marked.field-0.0 (IsType (type_at (types_in c.args.table.now) c.args.id)) (IsType (type_at (types_in c.args.table.now) c.args.id) × IsConst c.args.c.now) (λ h. h.0) c.in_err-put_marked.ensures.fits)

pub returns-clause-written : goal.returns-clause-written
returns-clause-written c =
    behind_two c.args.out.now.items c.put_marked.new.out.items c.put_value.new.out.items (107 ∷ type_text (type_at (types_in c.args.table.now) c.args.id)) (value c.args.c.now) c.in_ok-put_marked.ensures.written c.in_ok-put_value.ensures.written
