use Rattle.std.proofs.Common.{◌∷◌, [], ◌-◌}
use Rattle.std.specs.Prelude.{length}
use Rattle.std.proofs.lemmas.Result.{err_from_is_err_and}
use Rattle.type_texts.specs.declared.pieces.Sort.TheVariants.{OneType}
use Rattle.type_texts.specs.Pieces.{wanted}
use Rattle.type_texts.proofs.Wanted.{default_empty}
use Rattle.export_text.specs.Skimming.{front_wants, front_owner, row_skimmed, type_skimmed}
use Rattle.export_text.proofs.SkimLoops.{row_goes_on, row_fails, row_is_done, row_too_short}
use Rattle.export_text.proofs.type_skimming.skim_type.Goals as goal

pub returns-in_default : goal.returns-in_default
unfolding type_skimmed row_skimmed
returns-in_default c =
    row_is_done c.args.path.now (length c.args.bytes.now - c.loop.counter) (wanted c.loop.wants.items) c.loop.out.items c.loop.rest.now (row_skimmed c.args.path.now (length c.args.bytes.now) (OneType ∷ []) c.args.out.now.items c.args.bytes.now)
    (default_empty c.in_ok-next.next _ _ c.in_default.not-Some c.in_ok-next.ensures) c.loop.invariant

pub returns-in_err-front : goal.returns-in_err-front
unfolding type_skimmed row_skimmed
returns-in_err-front c =
    let p = err_from_is_err_and c.from_residual-in_err-front.result c.from_residual-in_err-front.ensures.1 in
    rw (p.1, p.2) (row_fails c.args.path.now c.in_err-front.field-0.0 (length c.args.bytes.now) c.loop.counter (wanted c.loop.wants.items) (wanted c.next_wanted.new.wants.items) c.in-Some.sort c.loop.out.items c.loop.rest.now
    (row_skimmed c.args.path.now (length c.args.bytes.now) (OneType ∷ []) c.args.out.now.items c.args.bytes.now) c.loop-test.true (rw c.in-Some.is at c.in_ok-next.ensures) c.in_err-front.ensures c.loop.invariant)

pub loop-preserved : goal.loop-preserved
loop-preserved c =
    row_goes_on c.args.path.now (length c.args.bytes.now) c.loop.counter (wanted c.loop.wants.items) (wanted c.want_parts.new.wants.items) (wanted c.next_wanted.new.wants.items) (front_wants c.in_ok-front.front) c.in-Some.sort
    c.loop.out.items c.note.new.out.items (front_owner c.in_ok-front.front) c.loop.rest.now c.in_ok-front.after.now (row_skimmed c.args.path.now (length c.args.bytes.now) (OneType ∷ []) c.args.out.now.items c.args.bytes.now)
    c.loop-test.true (rw c.in-Some.is at c.in_ok-next.ensures) c.in_ok-want_parts.ensures c.in_ok-note.ensures c.in_ok-front.ensures c.loop.invariant

pub returns-in-Some-next : goal.returns-in-Some-next
unfolding type_skimmed row_skimmed
returns-in-Some-next c =
    row_too_short c.args.path.now (length c.args.bytes.now) c.loop.counter (wanted c.loop.wants.items) (wanted c.next_wanted-2.new.wants.items) c.in-Some-next.field-0 c.loop.out.items c.loop.rest.now
    (row_skimmed c.args.path.now (length c.args.bytes.now) (OneType ∷ []) c.args.out.now.items c.args.bytes.now) c.loop-test.false (rw c.in-Some-next.is at c.in_ok-next-2.ensures) c.loop.invariant

pub returns : goal.returns
unfolding type_skimmed row_skimmed
returns c =
    row_is_done c.args.path.now (length c.args.bytes.now - c.loop.counter) (wanted c.loop.wants.items) c.loop.out.items c.loop.rest.now (row_skimmed c.args.path.now (length c.args.bytes.now) (OneType ∷ []) c.args.out.now.items c.args.bytes.now)
    (rw c.in-None.is at c.in_ok-next-2.ensures) c.loop.invariant
