use Rattle.object_order.proofs.NumberLemmas.{AreNamedBelow}
use Rattle.object_order.proofs.number.numbers_of.Given as goal

abbrev pub invariant-loop-k : goal.invariant-loop-k
invariant-loop-k l = AreNamedBelow l.entries.items l.numbers l.k
