use Rattle.std.proofs.Common.{◌≡◌, ◌++◌, ◌∷◌, [], ◌-◌}
use Rattle.std.specs.Prelude.{length}
use Rattle.std.proofs.lemmas.Result.{err_from_is_err_and}
use Rattle.type_texts.specs.declared.pieces.Sort.TheVariants.{OneType}
use Rattle.type_texts.specs.Pieces.{wanted, pieces_at}
use Rattle.type_texts.proofs.Wanted.{goes_on, fails, is_done, too_short, default_empty}
use Rattle.type_texts.proofs.piece_reading.pieces_of.Goals as goal

pub returns-in_default : goal.returns-in_default
returns-in_default c =
    is_done c.loop.row.items (length c.args.bytes.now - c.loop.counter) (wanted c.loop.wants.items) c.loop.rest.now (pieces_at (length c.args.bytes.now) (OneType ∷ []) c.args.bytes.now)
    (default_empty c.in_ok-next.next _ _ c.in_default.not-Some c.in_ok-next.ensures) c.loop.invariant

pub returns-in_err-piece : goal.returns-in_err-piece
returns-in_err-piece c =
    let p = err_from_is_err_and c.from_residual-in_err-piece.result c.from_residual-in_err-piece.ensures.1 in
    rw (p.1, p.2) (fails c.in_err-piece.field-0.0 c.loop.row.items (length c.args.bytes.now) c.loop.counter (wanted c.loop.wants.items) (wanted c.next_wanted.new.wants.items) c.in-Some.sort c.loop.rest.now (pieces_at (length c.args.bytes.now) (OneType ∷ []) c.args.bytes.now)
    c.loop-test.true (rw c.in-Some.is at c.in_ok-next.ensures) c.in_err-piece.ensures c.loop.invariant)

pub loop-preserved : goal.loop-preserved
loop-preserved c =
    let e : c.push.new.self.items ≡ c.loop.row.items ++ c.in_ok-piece.piece ∷ [] = c.in_ok-push.ensures.items in
    rw e (goes_on c.loop.row.items (length c.args.bytes.now) c.loop.counter (wanted c.loop.wants.items) (wanted c.want_parts.new.wants.items) (wanted c.next_wanted.new.wants.items) c.in-Some.sort c.loop.rest.now c.in_ok-piece.after.now c.in_ok-piece.piece (pieces_at (length c.args.bytes.now) (OneType ∷ []) c.args.bytes.now)
    c.loop-test.true (rw c.in-Some.is at c.in_ok-next.ensures) c.in_ok-want_parts.ensures c.in_ok-piece.ensures c.loop.invariant)

pub returns-in-Some-next : goal.returns-in-Some-next
returns-in-Some-next c =
    too_short c.loop.row.items (length c.args.bytes.now) c.loop.counter (wanted c.loop.wants.items) (wanted c.next_wanted-2.new.wants.items) c.in-Some-next.field-0 c.loop.rest.now (pieces_at (length c.args.bytes.now) (OneType ∷ []) c.args.bytes.now)
    c.loop-test.false (rw c.in-Some-next.is at c.in_ok-next-2.ensures) c.loop.invariant

pub returns : goal.returns
returns c =
    is_done c.loop.row.items (length c.args.bytes.now - c.loop.counter) (wanted c.loop.wants.items) c.loop.rest.now (pieces_at (length c.args.bytes.now) (OneType ∷ []) c.args.bytes.now)
    (rw c.in-None.is at c.in_ok-next-2.ensures) c.loop.invariant
