use Rattle.std.proofs.Common.{◌+◌, ◌-◌, false, length}
use Rattle.std.specs.Prelude.{slice_index_or}
use Rattle.flow.specs.Flow.{stops_of}
use Rattle.flow.specs.Search.{targets_from, all_unseen, IsSearch}
use Rattle.flow.specs.Seen.{has}
use Rattle.flow.proofs.search.reach.Given as goal

abbrev pub invariant-loop-next : goal.invariant-loop-next
invariant-loop-next l = IsSearch (targets_from l.rows (stops_of l.calls (λ f. slice_index_or l.members f false))) l.start (has l.seen) l.found.items l.next

abbrev pub decreases-loop-next : goal.decreases-loop-next
decreases-loop-next l = all_unseen (has l.seen) l.rows + length l.found.items - l.next
