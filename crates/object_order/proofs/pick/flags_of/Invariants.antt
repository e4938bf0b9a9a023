use Rattle.object_order.proofs.FlagLemmas.{AreSet}
use Rattle.object_order.proofs.pick.flags_of.Given as goal

abbrev pub invariant-loop-k : goal.invariant-loop-k
invariant-loop-k l = AreSet l.order.items l.flags.items l.count l.k
