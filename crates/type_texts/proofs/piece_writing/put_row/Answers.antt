use Rattle.std.proofs.Common.{◌++◌, List, flat_map, ap, sym, subst, ◌∙◌, arith}
use Rattle.std.specs.List.{AllByRecursion}
use Rattle.std.proofs.lemmas.List.{append-nil, take_all}
use Rattle.std.proofs.lemmas.Result.{err_from_is_err_and}
use Rattle.type_texts.specs.Pieces.{IsPiece, piece_text}
use Rattle.type_texts.specs.declared.pieces.Piece.{Piece}
use Rattle.type_texts.proofs.WriteLaws.{all_more, one_of, tells_less, written_more}
use Rattle.type_texts.proofs.piece_writing.put_row.Goals as goal

pub loop-piece-init : goal.loop-piece-init
loop-piece-init c = record { written = sym (append-nil c.args.out.now.items); fits = tt }

pub loop-piece-preserved : goal.loop-piece-preserved
loop-piece-preserved c = record {
  written = written_more piece_text c.args.out.now.items c.args.row.now c.loop-piece.piece-index c.piece-item.result c.loop-piece.out.items c.put_piece.new.out.items c.loop-piece-test.true c.piece-item.is c.loop-piece.invariant.written c.in_ok-put_piece.ensures.written;
  fits = all_more IsPiece c.args.row.now c.loop-piece.piece-index c.piece-item.result c.loop-piece-test.true c.piece-item.is c.loop-piece.invariant.fits c.in_ok-put_piece.ensures.fits;
}

pub returns-clause-written : goal.returns-clause-written
returns-clause-written c =
    c.loop-piece.invariant.written ∙ ap (λ (ps : List Piece). c.args.out.now.items ++ flat_map piece_text ps) (take_all c.loop-piece.piece-index c.args.row.now (omega arith))

pub returns-clause-fits : goal.returns-clause-fits
returns-clause-fits c = subst (AllByRecursion IsPiece) (take_all c.loop-piece.piece-index c.args.row.now (omega arith)) c.loop-piece.invariant.fits

pub returns-in_err-put_piece-clause-fits : goal.returns-in_err-put_piece-clause-fits
returns-in_err-put_piece-clause-fits c =
    let p = err_from_is_err_and c.from_residual.result c.from_residual.ensures.1 in
    rw (p.1, p.2) (tells_less c.in_err-put_piece.field-0.0 (IsPiece c.piece-item.result) (AllByRecursion IsPiece c.args.row.now)
    (one_of IsPiece c.args.row.now c.loop-piece.piece-index c.piece-item.result c.loop-piece-test.true c.piece-item.is) c.in_err-put_piece.ensures.fits)
