-- The order of refusals, and each of them once.
use Rattle.std.proofs.Common.{◌≡◌, ℕ, ◌<◌, ◌≤◌, ◌+◌, ◌-◌, ◌↔◌, List, [], ◌∷◌, ◌++◌, take, length, slice_get, get_or, Some, refl, sym, ap, ◌∙◌, subst, inl, inr, arith}
use Rattle.std.specs.List.{Contains}
use Rattle.std.specs.List.Sorted.{IsPermutation, IsNonDecreasingBy}
use Rattle.std.proofs.lemmas.List.{length_push, get_or_push, take_more, get_or_default}
use Rattle.std.proofs.lemmas.List.Sorted.{All-permutation, Contains-permutation}
use Rattle.std.proofs.lemmas.List.Elements.{All-contains, Contains-get_or, Contains-append_left, Contains-push, Contains-push_cases}
use Rattle.std.proofs.lemmas.Option.{slice_get_within, slice_get-get_or}
use Rattle.check_pkg.specs.declared.refusal.Refusal.{Refusal}
use Rattle.check_pkg.specs.Faults.{Precedes, IsOrdered}
use Rattle.check_pkg.specs.Order.{AddsLast, rank_of}
use Rattle.check_pkg.proofs.Lists.{same_some, push_cases}

ordered_more : (old : List Refusal) (x : Refusal) → ((last : Refusal) → slice_get old (length old - 1) ≡ Some last → Precedes last x)
    → IsOrdered old → IsOrdered (old ++ x ∷ [])
ordered_more old x after ordered k a b first second = elim (push_cases old x b (k + 1) second) [
  | inl inner ↦
      let low = slice_get_within old (k + 1) b inner in
      elim (push_cases old x a k first) [
        | inl here ↦ ordered k a b here inner
        | inr (at, same) ↦ absurd (omega arith)
      ]
  | inr (end, is) ↦
      elim (push_cases old x a k first) [
        | inl here ↦
            let at : k ≡ length old - 1 = omega arith in
            subst (λ (y : Refusal). Precedes a y) (sym is) (after a (ap (slice_get old) (sym at) ∙ here))
        | inr (at, same) ↦ absurd (omega arith)
      ]
]

last_pushed : (old : List Refusal) (x : Refusal) → slice_get (old ++ x ∷ []) (length (old ++ x ∷ []) - 1) ≡ Some x
last_pushed old x =
    let n : length (old ++ x ∷ []) ≡ length old + 1 = length_push old x in
    let i : length (old ++ x ∷ []) - 1 ≡ length old = omega arith in
    ap (slice_get (old ++ x ∷ [])) i ∙ (slice_get-get_or (old ++ x ∷ []) (length old) x (omega arith) ∙ ap Some (get_or_push old x x (length old) refl))

-- a refusal that comes after the last
pub adds_push : (old new : List Refusal) (x : Refusal) → new ≡ old ++ x ∷ []
    → ((last : Refusal) → slice_get old (length old - 1) ≡ Some last → Precedes last x) → AddsLast old new x
adds_push old new x is after = subst (λ (list : List Refusal). AddsLast old list x) (sym is) record {
  keeps = λ y h. Contains-append_left old (x ∷ []) y h;
  has = Contains-push old x;
  only = λ y h. elim (Contains-push_cases old x y h) [ inl before ↦ inl before | inr same ↦ inr (sym same) ];
  once = ordered_more old x after;
  last = last_pushed old x;
}

-- the list has what has been read
pub same_more : (old new front : List Refusal) (x : Refusal) → AddsLast old new x → ((y : Refusal) → Contains old y ↔ Contains front y)
    → (y : Refusal) → Contains new y ↔ Contains (front ++ x ∷ []) y
same_more old new front x adds same y = (
  λ h. elim (adds.only y h) [
    | inl before ↦ Contains-append_left front (x ∷ []) y ((same y).0 before)
    | inr is ↦ subst (λ (z : Refusal). Contains (front ++ x ∷ []) z) (sym is) (Contains-push front x)
  ],
  λ h. elim (Contains-push_cases front x y h) [
    | inl before ↦ adds.keeps y ((same y).1 before)
    | inr is ↦ subst (λ (z : Refusal). Contains new z) is adds.has
  ],
)

-- a list and its permutation have the same
pub same_permuted : (P : Refusal → Type 0) (list sorted : List Refusal) → IsPermutation list sorted → ((x : Refusal) → Contains list x ↔ P x)
    → (x : Refusal) → Contains sorted x ↔ P x
same_permuted P list sorted moved same x = (
  λ h. All-contains P sorted x (All-permutation P list sorted moved (λ k d low. (same (get_or list k d)).0 (Contains-get_or list k d low))) h,
  λ h. Contains-permutation list sorted x moved ((same x).1 h),
)

-- the list has each of the first few refusals of a sorted list once
pub record IsDistinct (sorted list : List Refusal) (i : ℕ) : Type 0 where
  pub same : (x : Refusal) → Contains list x ↔ Contains (take i sorted) x
  pub once : IsOrdered list
  pub last : (a : Refusal) → slice_get list (length list - 1) ≡ Some a
      → (j : ℕ) (d : Refusal) → i ≤ j → j < length sorted → rank_of a ≤ rank_of (get_or sorted j d)

pub none_distinct : (sorted list : List Refusal) → list ≡ [] → IsDistinct sorted list 0
none_distinct sorted list is = subst (λ (x : List Refusal). IsDistinct sorted x 0) (sym is) record {
  same = λ x. (λ (k, low, e). absurd (omega arith), λ (k, low, e). absurd (omega arith));
  once = λ k a b first second. absurd cc;
  last = λ a there. absurd cc;
}

pub distinct_more : (sorted old new : List Refusal) (i : ℕ) (d : Refusal) → IsNonDecreasingBy rank_of sorted → i < length sorted
    → AddsLast old new (get_or sorted i d) → IsDistinct sorted old i → IsDistinct sorted new (i + 1)
distinct_more sorted old new i d rising low adds is = record {
  same = λ x. subst (λ (front : List Refusal). Contains new x ↔ Contains front x) (sym (take_more sorted i d low))
      (same_more old new (take i sorted) (get_or sorted i d) adds is.same x);
  once = adds.once is.once;
  last = λ a there j e high within.
      subst (λ (y : Refusal). rank_of y ≤ rank_of (get_or sorted j e)) (same_some (slice_get new (length new - 1)) (get_or sorted i d) a adds.last there)
      (let up = rising i j d (omega arith) within in
      subst (λ (y : Refusal). rank_of (get_or sorted i d) ≤ rank_of y) (get_or_default sorted j d e within) up);
}

pub same_through : (P : Refusal → Type 0) (one other : List Refusal) → ((x : Refusal) → Contains other x ↔ Contains one x) → ((x : Refusal) → Contains one x ↔ P x)
    → (x : Refusal) → Contains other x ↔ P x
same_through P one other same is x = (λ h. (is x).0 ((same x).0 h), λ h. (same x).1 ((is x).1 h))
