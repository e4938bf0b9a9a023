use Rattle.std.proofs.Common.{◌-◌, ◌^◌}
use Rattle.vet_printf.specs.Searching.{IsSearch, has}
use Rattle.vet_printf.proofs.searching.fails.Given as goal

abbrev pub invariant-loop-next : goal.invariant-loop-next
invariant-loop-next l = IsSearch l.t l.class l.fn.of.0 (has l.met) l.list.items l.next

abbrev pub decreases-loop-next : goal.decreases-loop-next
decreases-loop-next l = 2 ^ 63 - l.next
