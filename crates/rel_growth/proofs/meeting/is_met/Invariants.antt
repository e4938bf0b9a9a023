use Rattle.std.proofs.Common.{◌-◌, ◌^◌}
use Rattle.rel_growth.specs.Meeting.{IsSearch, IsOther, has}
use Rattle.rel_growth.proofs.meeting.is_met.Given as goal

abbrev pub invariant-loop-at : goal.invariant-loop-at
invariant-loop-at l = IsSearch (IsOther l.t l.fn.of) l.t l.fn.a (has l.met) l.list.items l.at

abbrev pub decreases-loop-at : goal.decreases-loop-at
decreases-loop-at l = 2 ^ 63 - l.at
