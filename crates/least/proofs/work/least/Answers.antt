use Rattle.std.proofs.Common.{sym}
use Rattle.least.proofs.WorkLemmas.{begun}
use Rattle.least.proofs.work.least.Goals as goal

pub wait_all-requires-clause-first : goal.wait_all-requires-clause-first
wait_all-requires-clause-first g c i w = rw c.count-count.ensures (c.requires i w)

pub loop-at-init : goal.loop-at-init
loop-at-init g c =
    rw (sym c.count-count.ensures)
    (begun _ _ _ _ _ c.in_ok-flags.ensures c.in_ok-wait_all.ensures.size c.in_ok-wait_all.ensures.marked c.in_ok-wait_all.ensures.each c.in_ok-wait_all.ensures.items)
