use Rattle.analysis_core.proofs.OrderLemmas.{found_total}
use Rattle.analysis_core.proofs.OneLemmas.{one_in_order}
use Rattle.analysis_core.proofs.found_order.one_order.Goals as goal

pub returns : goal.returns
returns c IsFound xs ys a b = one_in_order found_total _ xs ys a b
