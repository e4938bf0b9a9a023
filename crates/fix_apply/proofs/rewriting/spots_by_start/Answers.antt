use Rattle.std.proofs.Common.{rules}
use Rattle.std.proofs.lemmas.List.Sorted.{IsNonDecreasingBy-from_sort_by_key}
use Rattle.fix_apply.proofs.Orders.{order_of}
use Rattle.fix_apply.proofs.rewriting.spots_by_start.Goals as goal

pub returns : goal.returns
returns c = order_of _ _ _ c.in_ok-spots.ensures c.in_ok-sort_by_key.ensures.permutation (IsNonDecreasingBy-from_sort_by_key (λ s. s.start) _ c.in_ok-sort_by_key.ensures.sorted (λ a r q k. search rules))
