use Rattle.std.proofs.Common.{refl}
use Rattle.std.specs.Ordering.{eq_by_cmp}
use Rattle.std.proofs.lemmas.Cmp.{eq_by_cmp_equiv}
use Rattle.std.proofs.lemmas.List.Kept.{Contains-dedup, Contains-from_dedup, IsStrictlySortedBy-dedup}
use Rattle.std.proofs.lemmas.List.Sorted.{Contains-permutation, IsPermutation-sym}
use Rattle.std.proofs.lemmas.Map.Views.{tells_apart}
use Rattle.analysis_core.specs.FoundOrder.{order}
use Rattle.analysis_core.proofs.OrderLemmas.{order_total, order_exact}
use Rattle.analysis_core.proofs.order.settle_findings.Goals as goal

pub returns-clause-keeps : goal.returns-clause-keeps
returns-clause-keeps c d h =
    rw c.drop_repeats.ensures
    (Contains-dedup (eq_by_cmp_equiv order_total) (tells_apart order_exact) _ d (Contains-permutation _ _ d c.sort.ensures.moved h))

pub returns-clause-adds_none : goal.returns-clause-adds_none
returns-clause-adds_none c d h =
    Contains-permutation _ _ d (IsPermutation-sym _ _ c.sort.ensures.moved)
    (Contains-from_dedup (eq_by_cmp order) _ d (rw c.drop_repeats.ensures at h))

pub returns-clause-rises : goal.returns-clause-rises
returns-clause-rises c = rw c.drop_repeats.ensures (IsStrictlySortedBy-dedup order_total (λ x y. refl) _ c.sort.ensures.sorted)
