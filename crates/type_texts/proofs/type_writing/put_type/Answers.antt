use Rattle.std.proofs.Common.{◌≡◌, ◌≤◌, ◌++◌, List, ℕ, ap, ◌∙◌, subst}
use Rattle.std.proofs.lemmas.Result.{err_from_is_err_and}
use Rattle.type_model.specs.GoTypes.{type_at, nodes}
use Rattle.type_model.specs.Tables.{types_in}
use Rattle.type_model.proofs.FormedLaws.{table_formed}
use Rattle.type_texts.specs.declared.pieces.Piece.{Piece}
use Rattle.type_texts.specs.Texts.{type_text, IsType}
use Rattle.type_texts.specs.Pieces.{pieces_text}
use Rattle.type_texts.proofs.PendingLaws.{row_spelled}
use Rattle.type_texts.proofs.WriteLaws.{is_type, all_pieces, tells_less, ArePieces}
use Rattle.type_texts.proofs.type_writing.put_type.Goals as goal

pub returns-clause-written : goal.returns-clause-written
returns-clause-written c =
    c.in_ok-put_row.ensures.written
    ∙ ap (λ (ps : List Piece). c.args.out.now.items ++ pieces_text ps) (c.deref.ensures.value ∙ c.in_ok-row.ensures.is)
    ∙ ap (λ (t : List ℕ). c.args.out.now.items ++ t) (row_spelled (type_at (types_in c.args.table.now) c.args.id))

pub returns-clause-fits : goal.returns-clause-fits
returns-clause-fits c =
    is_type (type_at (types_in c.args.table.now) c.args.id) c.in_ok-row.row.items (table_formed c.args.table.now c.args.id c.requires.table c.requires.within) c.in_ok-row.ensures.is c.in_ok-row.ensures.small
    (subst (λ (ps : List Piece). ArePieces ps) c.deref.ensures.value c.in_ok-put_row.ensures.fits)

pub returns-in_err-row-clause-fits : goal.returns-in_err-row-clause-fits
returns-in_err-row-clause-fits c =
    let p = err_from_is_err_and c.from_residual.result c.from_residual.ensures.1 in
    rw (p.1, p.2) (tells_less c.in_err-row.field-0.0 (nodes (type_at (types_in c.args.table.now) c.args.id) ≤ 10000) (IsType (type_at (types_in c.args.table.now) c.args.id)) (λ h. h.small) c.in_err-row.ensures.small)

pub returns-in_err-put_row-clause-fits : goal.returns-in_err-put_row-clause-fits
returns-in_err-put_row-clause-fits c =
    let p = err_from_is_err_and c.from_residual-in_err-put_row.result c.from_residual-in_err-put_row.ensures.1 in
    rw (p.1, p.2) (tells_less c.in_err-put_row.field-0.0 (ArePieces c.deref.result.now) (IsType (type_at (types_in c.args.table.now) c.args.id))
    (λ h. all_pieces (type_at (types_in c.args.table.now) c.args.id) c.deref.result.now (c.deref.ensures.value ∙ c.in_ok-row.ensures.is) h) c.in_err-put_row.ensures.fits)
