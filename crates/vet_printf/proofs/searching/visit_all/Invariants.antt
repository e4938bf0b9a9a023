use Rattle.vet_printf.specs.Searching.{AreVisited, has}
use Rattle.vet_printf.proofs.searching.visit_all.Given as goal

abbrev pub invariant-loop-k : goal.invariant-loop-k
invariant-loop-k l = AreVisited l.ids l.k (has l.initial.met) l.initial.list.items (has l.met) l.list.items
