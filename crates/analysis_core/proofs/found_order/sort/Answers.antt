use Rattle.std.proofs.Common.{rules}
use Rattle.std.specs.Ordering.{is_lt}
use Rattle.std.proofs.lemmas.Fn.{always_returns_same}
use Rattle.std.proofs.lemmas.List.Sorted.{ranks_by}
use Rattle.analysis_core.specs.FoundOrder.{found_order}
use Rattle.analysis_core.proofs.OrderLemmas.{found_total}
use Rattle.analysis_core.proofs.found_order.sort.Goals as goal

pub returns-clause-sorted : goal.returns-clause-sorted
returns-clause-sorted c =
    c.sort_unstable_by.ensures.sorted (λ a b. is_lt (found_order a b)) (ranks_by found_total (λ x. x))
    (always_returns_same _ _ _ (λ a r q k. search rules))
