-- Files in the order of their paths, one after the other.
use Rattle.std.proofs.Common.{◌≡◌, ℕ, ◌+◌, ◌-◌, ◌<◌, ◌≤◌, inl, inr, true, List, Some, slice_get, slice_index_or, ap, ◌∙◌, subst, arith}
use Rattle.std.proofs.lemmas.Bool.{cases_lt}
use Rattle.std.proofs.lemmas.Option.{get_or_from_slice_get}
use Rattle.gv_base.specs.Files.{Entry, is_before}
use Rattle.gv_base.proofs.FileLemmas.{before-trans}

pub order-more : (files : List Entry) (n : ℕ) (before here : Entry) → 1 ≤ n → slice_get files (n - 1) ≡ Some before → slice_get files n ≡ Some here → is_before before.0 here.0 ≡ true
    → ((i j : ℕ) (d : Entry) → i < j → j < n → is_before (slice_index_or files i d).0 (slice_index_or files j d).0 ≡ true)
    → (i j : ℕ) (d : Entry) → i < j → j < n + 1 → is_before (slice_index_or files i d).0 (slice_index_or files j d).0 ≡ true
order-more files n before here some last next step old i j d less within = elim (cases_lt j n) [
  | inl lower ↦ old i j d less lower
  | inr more ↦ (let e : n ≡ j = omega (arith, more, within) in subst (λ m. is_before (slice_index_or files i d).0 (slice_index_or files m d).0 ≡ true) e (to_last (omega (arith, less, e))))
]
  where
    last_step : is_before (slice_index_or files (n - 1) d).0 (slice_index_or files n d).0 ≡ true
    last_step = ap (λ (x : Entry). is_before x.0 (slice_index_or files n d).0) (get_or_from_slice_get files (n - 1) before d last) ∙ (ap (λ (x : Entry). is_before before.0 x.0) (get_or_from_slice_get files n here d next) ∙ step)

    to_last : i < n → is_before (slice_index_or files i d).0 (slice_index_or files n d).0 ≡ true
    to_last lt = elim (cases_lt i (n - 1)) [
      | inl lower ↦ before-trans (slice_index_or files i d).0 (slice_index_or files (n - 1) d).0 (slice_index_or files n d).0 (old i (n - 1) d lower (omega (arith, some))) last_step
      | inr more ↦ (let e : n - 1 ≡ i = omega (arith, more, lt, some) in subst (λ m. is_before (slice_index_or files m d).0 (slice_index_or files n d).0 ≡ true) e last_step)
    ]
