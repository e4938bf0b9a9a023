use Rattle.std.proofs.Common.{◌-◌, ◌^◌}
use Rattle.rel_growth.specs.Meeting.{IsSearch, IsKnownIn, has}
use Rattle.rel_growth.proofs.meeting.undeclared.Given as goal

abbrev pub invariant-loop-next : goal.invariant-loop-next
invariant-loop-next l = IsSearch (IsKnownIn l.t) l.t l.fn.a (has l.met) l.list.items l.next

abbrev pub decreases-loop-next : goal.decreases-loop-next
decreases-loop-next l = 2 ^ 63 - l.next
