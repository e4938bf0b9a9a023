use Rattle.std.proofs.Common.{arith}
use Rattle.std.proofs.lemmas.Option.{slice_get-get_or}
use Rattle.scopes.proofs.VisibleLemmas.{no_declaration, ready, advance_step, none_past, none_yet}
use Rattle.scopes.proofs.visible.advance.Goals as goal

pub enter_first-requires-clause-visible : goal.enter_first-requires-clause-visible
enter_first-requires-clause-visible c = ready c.args.declarations.now c.loop-next.next c.args.at c.loop-next.visible.items c.loop-next.invariant.reached

pub loop-next-preserved : goal.loop-next-preserved
loop-next-preserved c =
    let ds = c.args.declarations.now in
    let there = slice_get-get_or ds c.loop-next.next no_declaration c.loop-next-test.true in
    record {
      size = omega (arith, c.enter_first.ensures.size, c.loop-next.invariant.size);
      within = omega (arith, c.loop-next-test.true);
      reached = advance_step ds c.loop-next.next c.args.at c.loop-next.visible.items c.enter_first.new.visible.items _ c.requires.laid there c.if-entered-at.false c.loop-next.invariant.reached c.in_ok-enter_first.ensures.visible;
    }

pub returns-after-loop-next-clause-reached : goal.returns-after-loop-next-clause-reached
returns-after-loop-next-clause-reached c =
    (c.loop-next.invariant.reached, none_past c.args.declarations.now c.loop-next.next c.args.at c.loop-next-test.false, c.loop-next.invariant.within)

pub returns-then-entered-at-clause-reached : goal.returns-then-entered-at-clause-reached
returns-then-entered-at-clause-reached c =
    let ds = c.args.declarations.now in
    let there = slice_get-get_or ds c.loop-next.next no_declaration c.loop-next-test.true in
    (c.loop-next.invariant.reached, none_yet ds c.loop-next.next c.args.at _ c.requires.laid there c.if-entered-at.true, c.loop-next.invariant.within)
