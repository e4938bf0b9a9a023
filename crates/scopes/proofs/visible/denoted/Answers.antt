use Rattle.std.proofs.Common.{arith}
use Rattle.std.proofs.lemmas.Option.{slice_get-get_or}
use Rattle.scopes.proofs.VisibleLemmas.{walk_begins, go_on, walked_more, answered_more, all_answered}
use Rattle.scopes.proofs.visible.denoted.Goals as goal

pub loop-sought-init : goal.loop-sought-init
loop-sought-init c = record {
  size = c.in_ok-visible.ensures.size;
  within = omega arith;
  walked = walk_begins c.args.declarations.now c.args.uses.now c.in_ok-visible.visible.items c.in_ok-visible.ensures.empty;
  count = omega (arith, c.in_ok-answers.ensures.len);
  so_far = λ j v never is. absurd (omega arith);
}

pub advance-requires-clause-reached : goal.advance-requires-clause-reached
advance-requires-clause-reached c =
    let there = slice_get-get_or c.args.uses.now c.loop-sought.sought-index (record { name = 0; at = 0 }) c.loop-sought-test.true in
    go_on c.args.declarations.now c.args.uses.now c.loop-sought.sought-index c.loop-sought.next c.loop-sought.visible.items _ there c.loop-sought.invariant.walked

pub innermost-answer-requires-clause-name : goal.innermost-answer-requires-clause-name
innermost-answer-requires-clause-name c =
    let there = slice_get-get_or c.args.uses.now c.loop-sought.sought-index (record { name = 0; at = 0 }) c.loop-sought-test.true in
    let low = c.requires.uses.0 c.loop-sought.sought-index _ there in
    omega (arith, c.advance.ensures.size, c.loop-sought.invariant.size, low)

pub loop-sought-preserved : goal.loop-sought-preserved
loop-sought-preserved c =
    let ds = c.args.declarations.now in
    let there = slice_get-get_or c.args.uses.now c.loop-sought.sought-index (record { name = 0; at = 0 }) c.loop-sought-test.true in
    record {
      size = omega (arith, c.innermost-answer.ensures.size, c.advance.ensures.size, c.loop-sought.invariant.size);
      within = c.in_ok-next.ensures.reached.2;
      walked = walked_more ds c.args.uses.now c.args.names c.loop-sought.sought-index c.in_ok-next.next c.innermost-answer.new.visible.items _ c.requires.uses there c.innermost-answer.ensures.reached;
      count = omega (arith, c.in_ok-push.ensures.len, c.loop-sought.invariant.count);
      so_far = rw c.in_ok-push.ensures.items (answered_more ds c.args.uses.now c.loop-sought.answers.items c.loop-sought.sought-index _ c.innermost-answer.result there c.loop-sought.invariant.count
          c.loop-sought.invariant.so_far c.innermost-answer.ensures.answers);
    }

pub returns : goal.returns
returns c = all_answered c.args.declarations.now c.args.uses.now c.loop-sought.answers.items c.loop-sought.sought-index c.loop-sought-test.false c.loop-sought.auto.sought-index-end c.loop-sought.invariant.count c.loop-sought.invariant.so_far
