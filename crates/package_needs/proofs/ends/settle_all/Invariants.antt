use Rattle.package_needs.proofs.CircleLemmas.{Settled}
use Rattle.package_needs.proofs.ends.settle_all.Given as goal

abbrev pub invariant-loop-k : goal.invariant-loop-k
invariant-loop-k l = Settled l.links.items l.order.items l.table.items l.k
