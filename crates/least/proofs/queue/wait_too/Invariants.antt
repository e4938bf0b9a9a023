use Rattle.std.proofs.Common.{take}
use Rattle.least.specs.Work.{IsQueued}
use Rattle.least.proofs.queue.wait_too.Given as goal

abbrev pub invariant-loop-item : goal.invariant-loop-item
invariant-loop-item l = IsQueued (take l.item-index l.more) l.initial.marks.items l.initial.queue.items l.marks.items l.queue.items
