use Rattle.std.proofs.Common.{◌∷◌, ◌++◌, ◌+◌, ◌-◌, ◌*◌, [], take, ◌∙◌, sym, ap}
use Rattle.typed_marks.specs.States.{so_far, block_of, laid, room}
use Rattle.typed_marks.proofs.CellLemmas.{nothing_marked, none_over, take_on, laid_last, room_on}
use Rattle.typed_marks.proofs.state.State.new.Goals as goal

pub loop-k-preserved : goal.loop-k-preserved
loop-k-preserved c =
    let ensures = c.in_ok-add_block.ensures in
    let before = take c.loop-k.k c.args.spans.now in
    let span = c.span_at-span.result in
    let on = take_on c.args.spans.now c.loop-k.k span c.span_at-span.ensures in
    record {
      blocks = ensures.blocks;
      laid = ensures.block ∙ ap (λ n. c.loop-k.blocks.items ++ block_of span n ∷ []) c.loop-k.invariant.room ∙ ap (λ xs. xs ++ block_of span (room before) ∷ []) c.loop-k.invariant.laid
          ∙ sym (laid_last before span) ∙ sym (ap (laid 0) on);
      room = ensures.cells ∙ ap (λ n. n + 6 * (span.end - span.low)) c.loop-k.invariant.room ∙ sym (room_on before span) ∙ sym (ap room on);
      none = ensures.none c.loop-k.invariant.none;
    }

pub returns-clause-state : goal.returns-clause-state
returns-clause-state c = record {
  table = c.requires;
  blocks = c.loop-k.invariant.blocks;
  over = none_over c.args.table _ c.loop-k.cells.items c.loop-k.invariant.none;
}

pub returns-clause-unmarked : goal.returns-clause-unmarked
unfolding so_far
returns-clause-unmarked c i = nothing_marked c.args.table _ c.loop-k.blocks.items c.loop-k.cells.items c.loop-k.invariant.none i
