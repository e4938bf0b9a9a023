use Rattle.std.proofs.Common.{◌∙◌, subst, arith}
use Rattle.std.proofs.lemmas.List.{take_all}
use Rattle.flow.specs.Search.{IsFollowed}
use Rattle.flow.specs.Seen.{has}
use Rattle.flow.proofs.SearchLemmas.{followed_more, row_read}
use Rattle.flow.proofs.search.follow.Goals as goal

pub loop-target-preserved : goal.loop-target-preserved
loop-target-preserved c =
    let low = c.if-at-rows.false in
    followed_more c.args.rows.now c.args.at c.as_slice-targets.result.now c.loop-target.target-index 0 (has c.args.seen.now) c.args.found.now.items (has c.loop-target.seen) c.loop-target.found.items
    (has c.visit.new.seen) c.visit.new.found.items
    (c.as_slice-targets.ensures ∙ row_read c.args.rows.now c.args.at c.index-rows-at.result (omega arith) c.index-rows-at.is)
    c.loop-target-test.true c.loop-target.invariant c.in_ok-visit.ensures

pub returns : goal.returns
returns c =
    let low = c.if-at-rows.false in
    let row = c.as_slice-targets.ensures ∙ row_read c.args.rows.now c.args.at c.index-rows-at.result (omega arith) c.index-rows-at.is in
    subst (λ l. IsFollowed c.args.rows.now l (has c.args.seen.now) c.args.found.now.items (has c.loop-target.seen) c.loop-target.found.items)
    (take_all c.loop-target.target-index c.as_slice-targets.result.now c.loop-target-test.false ∙ row) c.loop-target.invariant
