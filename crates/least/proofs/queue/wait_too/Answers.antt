use Rattle.std.proofs.Common.{arith, subst}
use Rattle.std.proofs.lemmas.List.{take_all}
use Rattle.std.proofs.lemmas.List.Elements.{Contains-get_or}
use Rattle.least.specs.Work.{IsQueued}
use Rattle.least.proofs.WorkLemmas.{none_queued, queued_more}
use Rattle.least.proofs.queue.wait_too.Goals as goal

pub loop-item-init : goal.loop-item-init
loop-item-init c = none_queued c.args.marks.now.items c.args.queue.now.items c.requires.marked

pub wait-requires : goal.wait-requires
wait-requires c =
    let lt = c.requires.within _ (Contains-get_or c.args.more.now c.loop-item.item-index 0 c.loop-item-test.true) in
    let size = c.loop-item.invariant.size in
    omega arith

pub loop-item-preserved : goal.loop-item-preserved
loop-item-preserved c =
    queued_more c.args.more.now c.args.marks.now.items c.args.queue.now.items c.loop-item.marks.items c.loop-item.queue.items c.loop-item.item-index 0 _ _
    c.loop-item-test.true c.in_ok-wait.ensures.marks c.in_ok-wait.ensures.queue c.loop-item.invariant

pub returns : goal.returns
returns c = subst (λ l. IsQueued l c.args.marks.now.items c.args.queue.now.items c.loop-item.marks.items c.loop-item.queue.items) (take_all c.loop-item.item-index c.args.more.now c.loop-item-test.false) c.loop-item.invariant
