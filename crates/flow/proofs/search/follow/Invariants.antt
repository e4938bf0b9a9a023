use Rattle.std.proofs.Common.{take}
use Rattle.flow.specs.Search.{IsFollowed}
use Rattle.flow.specs.Seen.{has}
use Rattle.flow.proofs.search.follow.Given as goal

abbrev pub invariant-loop-target : goal.invariant-loop-target
invariant-loop-target l = IsFollowed l.rows (take l.target-index l.targets) (has l.initial.seen) l.initial.found.items (has l.seen) l.found.items
