use Rattle.check_pkg.proofs.ListLemmas.{IsDistinct}
use Rattle.check_pkg.proofs.order.distinct.Given as goal

abbrev pub invariant-loop-refusal : goal.invariant-loop-refusal
invariant-loop-refusal l = IsDistinct l.sorted l.list.items l.refusal-index
