use Rattle.std.proofs.Common.{◌-◌, ◌^◌}
use Rattle.export_text.specs.Searching.{IsSearch, has, known}
use Rattle.export_text.proofs.reaching.reached.Given as goal

abbrev pub invariant-loop-next : goal.invariant-loop-next
invariant-loop-next l = IsSearch l.table (known l.follows l.table) l.path l.start (has l.met) l.list.items l.next

abbrev pub decreases-loop-next : goal.decreases-loop-next
decreases-loop-next l = 2 ^ 63 - l.next
