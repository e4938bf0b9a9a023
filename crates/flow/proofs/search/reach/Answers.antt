use Rattle.std.proofs.Common.{◌≡◌, ℕ, false, List, length, ap, arith}
use Rattle.std.specs.Prelude.{slice_index_or}
use Rattle.flow.specs.Flow.{stops_of}
use Rattle.flow.specs.Search.{targets_from}
use Rattle.flow.specs.Seen.{has}
use Rattle.flow.proofs.SearchLemmas.{started, search_more, all_marked}
use Rattle.flow.proofs.search.reach.Goals as goal

pub loop-next-init : goal.loop-next-init
loop-next-init c =
    started (targets_from c.args.rows.now (stops_of c.args.calls.now (λ f. slice_index_or c.args.members.now f false))) c.args.start
    (has c.none_seen-seen.result) c.new-found.result.items (has c.visit.new.seen) c.visit.new.found.items
    c.none_seen-seen.ensures c.new-found.ensures.items c.in_ok-visit.ensures

pub loop-next-preserved : goal.loop-next-preserved
loop-next-preserved c =
    let size : length c.as_slice.result.now ≡ length c.loop-next.found.items = ap length c.as_slice.ensures.value in
    let more = c.loop-next-test.true in
    search_more c.args.rows.now (targets_from c.args.rows.now (stops_of c.args.calls.now (λ f. slice_index_or c.args.members.now f false))) c.args.start
    (has c.loop-next.seen) c.loop-next.found.items c.loop-next.next c.point_at-at.result (has c.step.new.seen) c.step.new.found.items
    c.loop-next.invariant (omega arith) c.point_at-at.ensures c.in_ok-step.ensures

pub returns : goal.returns
returns c q =
    let size : length c.as_slice.result.now ≡ length c.loop-next.found.items = ap length c.as_slice.ensures.value in
    let end = c.loop-next-test.false in
    let targets : ℕ → List ℕ = targets_from c.args.rows.now (stops_of c.args.calls.now (λ f. slice_index_or c.args.members.now f false)) in
    (λ w. c.loop-next.invariant.sound q w, λ r. c.loop-next.invariant.listed q (all_marked targets c.args.start (has c.loop-next.seen) c.loop-next.found.items c.loop-next.next c.loop-next.invariant (omega arith) r))
