use Rattle.std.proofs.Common.{refl}
use Rattle.std.specs.Ordering.{eq_by_cmp}
use Rattle.std.proofs.lemmas.Cmp.{eq_by_cmp_equiv}
use Rattle.std.proofs.lemmas.List.Kept.{Contains-dedup, Contains-from_dedup, IsStrictlySortedBy-dedup}
use Rattle.std.proofs.lemmas.List.Sorted.{Contains-permutation, IsPermutation-sym}
use Rattle.std.proofs.lemmas.Map.Views.{tells_apart}
use Rattle.analysis_core.specs.FoundOrder.{found_order}
use Rattle.analysis_core.proofs.OrderLemmas.{found_total, found_exact}
use Rattle.analysis_core.proofs.found_order.settle_found.Goals as goal

pub returns-clause-keeps : goal.returns-clause-keeps
returns-clause-keeps c d h =
    rw c.drop_repeats.ensures
    (Contains-dedup (eq_by_cmp_equiv found_total) (tells_apart found_exact) _ d (Contains-permutation _ _ d c.sort.ensures.moved h))

pub returns-clause-adds_none : goal.returns-clause-adds_none
returns-clause-adds_none c d h =
    Contains-permutation _ _ d (IsPermutation-sym _ _ c.sort.ensures.moved)
    (Contains-from_dedup (eq_by_cmp found_order) _ d (rw c.drop_repeats.ensures at h))

pub returns-clause-rises : goal.returns-clause-rises
returns-clause-rises c = rw c.drop_repeats.ensures (IsStrictlySortedBy-dedup found_total (λ x y. refl) _ c.sort.ensures.sorted)
