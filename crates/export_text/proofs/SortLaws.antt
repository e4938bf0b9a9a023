-- A list that a sort leaves rises, where some order of its items does.
use Rattle.std.proofs.Common.{◌≡◌, ◌⊎◌, ℕ, zero, suc, ◌+◌, ◌<◌, ◌==◌, Bool, true, false, if◌then◌else◌, List, [], ◌∷◌, length, slice_get, get_or, set, Some, refl, sym, ap, ◌∙◌, subst, inl, inr, arith}
use Rattle.std.specs.List.{swap}
use Rattle.std.specs.List.Sorted.{IsPermutation, IsSortedBy}
use Rattle.std.proofs.lemmas.Bool.{cases_eq}
use Rattle.std.proofs.lemmas.Bool.Decides.{nat_tests}
use Rattle.std.proofs.lemmas.List.{get_or-set_same, get_or-set_other, length-set}
use Rattle.std.proofs.lemmas.List.Edits.{swap_is, length-swap}
use Rattle.std.proofs.lemmas.List.Sorted.{IsPermutation-keeps}
use Rattle.std.proofs.lemmas.Option.{slice_get_within, slice_get-get_or, get_or_from_slice_get}
use Rattle.gv_bytes.proofs.Options.{some_is}
use Rattle.package_faces.specs.Orders.{rises, rises_after}
use Rattle.type_texts.proofs.OrderLaws.{both_hold, both_held}

-- where an item stood before two places were exchanged
moved : ℕ → ℕ → ℕ → ℕ
moved i j m = if m == i then j else (if m == j then i else m)

back_first : (i j : ℕ) → j ≡ moved i j i
unfolding moved
back_first i j = grind (arith, nat_tests)

back_second : (i j : ℕ) → ¬ (i ≡ j) → i ≡ moved i j j
unfolding moved
back_second i j apart = grind (arith, nat_tests)

back_other : (i j k : ℕ) → ¬ (k ≡ i) → ¬ (k ≡ j) → k ≡ moved i j k
unfolding moved
back_other i j k first second = grind (arith, nat_tests)

module _ {A : Type 0} where
  record From (list : List A) (i j k : ℕ) (a : A) : Type 0 where
    at : ℕ
    there : slice_get list at ≡ Some a
    back : k ≡ moved i j at

  stands_at : (list : List A) (k : ℕ) (a : A) → k < length list → get_or list k a ≡ a → slice_get list k ≡ Some a
  stands_at list k a low is = slice_get-get_or list k a low ∙ ap Some is

  from : (list : List A) (i j : ℕ) → i < length list → j < length list → (k : ℕ) (a : A) → slice_get (swap list i j) k ≡ Some a → From list i j k a
  from list i j i_low j_low k a read =
      let one = get_or list j a in
      let other = get_or list i a in
      let first = set list i one in
      let is : get_or (set first j other) k a ≡ a =
      ap (λ (xs : List A). get_or xs k a) (swap_is list i j a i_low j_low) ∙ get_or_from_slice_get (swap list i j) k a a read in
      let within = slice_get_within (swap list i j) k a read in
      let size = length-swap list i j in
      let size_first = length-set list i one in
      elim (cases_eq k j) [
        | inl same ↦ record {
          at = i;
          there = stands_at list i a i_low (sym (get_or-set_same first j other a (omega arith)) ∙ (ap (λ n. get_or (set first j other) n a) (sym same) ∙ is));
          back = same ∙ back_first i j;
        }
        | inr apart ↦ elim (cases_eq k i) [
          | inl here ↦ record {
            at = j;
            there = stands_at list j a j_low
                (sym (get_or-set_same list i one a i_low) ∙ (ap (λ n. get_or first n a) (sym here) ∙ (sym (get_or-set_other first j k other a apart) ∙ is)));
            back = here ∙ back_second i j (λ e. apart (here ∙ e));
          }
          | inr away ↦ record {
            at = k;
            there = stands_at list k a (omega arith) (sym (get_or-set_other list i k one a away) ∙ (sym (get_or-set_other first j k other a apart) ∙ is));
            back = back_other i j k away apart;
          }
        ]
      ]

module _ {A : Type 0} (before : A → A → Bool) where
  -- of two items one stands before the other
  abbrev pub Apart : List A → Type 0
  Apart list = (i j : ℕ) (a b : A) → ¬ (i ≡ j) → slice_get list i ≡ Some a → slice_get list j ≡ Some b → (before a b ≡ true) ⊎ (before b a ≡ true)

  keeps_apart : (list : List A) (i j : ℕ) → i < length list → j < length list → Apart list → Apart (swap list i j)
  keeps_apart list i j i_low j_low distinct k l a b apart first second =
      let one = from list i j i_low j_low k a first in
      let other = from list i j i_low j_low l b second in
      distinct one.at other.at a b (λ e. apart (one.back ∙ (ap (moved i j) e ∙ sym other.back))) one.there other.there

  pub apart_permuted : (list sorted : List A) → IsPermutation list sorted → Apart list → Apart sorted
  apart_permuted list sorted permuted distinct = IsPermutation-keeps list Apart distinct keeps_apart sorted permuted

  -- ---- what rises is apart

  module _ (then_before : (a b c : A) → before a b ≡ true → before b c ≡ true → before a c ≡ true) where
    after_all : (x : A) (xs : List A) → rises_after before x xs ≡ true → (k : ℕ) (b : A) → slice_get xs k ≡ Some b → before x b ≡ true
    after_all x [] e k b at = absurd cc
    after_all x (y ∷ xs) e zero b at = subst (λ (z : A). before x z ≡ true) (some_is y b at) (both_hold (before x y) (rises_after before y xs) e).0
    after_all x (y ∷ xs) e (suc k) b at =
        let held = both_hold (before x y) (rises_after before y xs) e in
        then_before x y b held.0 (after_all y xs held.1 k b at)

    apart_after : (x : A) (xs : List A) → rises_after before x xs ≡ true → Apart (x ∷ xs)
    apart_after x xs e zero zero a b apart first second = absurd (apart refl)
    apart_after x xs e zero (suc j) a b apart first second = inl (subst (λ (z : A). before z b ≡ true) (some_is x a first) (after_all x xs e j b second))
    apart_after x xs e (suc i) zero a b apart first second = inr (subst (λ (z : A). before z a ≡ true) (some_is x b second) (after_all x xs e i a first))
    apart_after x [] e (suc i) (suc j) a b apart first second = absurd cc
    apart_after x (y ∷ xs) e (suc i) (suc j) a b apart first second =
        apart_after y xs (both_hold (before x y) (rises_after before y xs) e).1 i j a b (λ same. apart (ap suc same)) first second

    pub rising_apart : (xs : List A) → rises before xs ≡ true → Apart xs
    rising_apart [] e i j a b apart first second = absurd cc
    rising_apart (x ∷ xs) e i j a b apart first second = apart_after x xs e i j a b apart first second

  -- ---- what is sorted and apart rises

  only_way : (a b : A) → before b a ≡ false → (before a b ≡ true) ⊎ (before b a ≡ true) → before a b ≡ true
  only_way a b sorted apart = elim apart [
    | inl here ↦ here
    | inr there ↦ absurd (let wrong = there in let right = sorted in cc)
  ]

  steps_after : (x : A) (xs : List A) → ((k : ℕ) (a b : A) → slice_get (x ∷ xs) k ≡ Some a → slice_get xs k ≡ Some b → before a b ≡ true) → rises_after before x xs ≡ true
  steps_after x [] step = refl
  steps_after x (y ∷ xs) step = both_held (before x y) (rises_after before y xs) (step 0 x y refl refl) (steps_after y xs (λ k a b first second. step (suc k) a b first second))

  steps_rise : (xs : List A) → ((k : ℕ) (a b : A) → slice_get xs k ≡ Some a → slice_get xs (suc k) ≡ Some b → before a b ≡ true) → rises before xs ≡ true
  steps_rise [] step = refl
  steps_rise (x ∷ xs) step = steps_after x xs step

  pub sorted_rises : (list : List A) → Apart list → IsSortedBy before list → rises before list ≡ true
  sorted_rises list distinct sorted = steps_rise list (λ k a b first second.
      let low = slice_get_within list (suc k) b second in
      let e : suc k ≡ k + 1 = omega arith in
      let a_is : get_or list k a ≡ a = get_or_from_slice_get list k a a first in
      let b_is : get_or list (k + 1) a ≡ b = ap (λ n. get_or list n a) (sym e) ∙ get_or_from_slice_get list (suc k) b a second in
      only_way a b
      (subst (λ (y : A). before b y ≡ false) a_is (subst (λ (x : A). before x (get_or list k a) ≡ false) b_is (sorted k a (omega arith) (omega arith))))
      (distinct k (suc k) a b (λ same. absurd (omega arith)) first second))
