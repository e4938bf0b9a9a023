-- Objects with distinct names that are sorted by them: the names rise.
use Rattle.std.proofs.Common.{◌≡◌, ℕ, suc, ◌+◌, ◌<◌, ◌==◌, Bool, true, false, if◌then◌else◌, List, [], ◌∷◌, ◌++◌, length, slice_get, get_or, set, Some, refl, sym, ap, ◌∙◌, subst, inl, inr, nat_lt, arith}
use Rattle.std.specs.List.{Contains, swap}
use Rattle.std.specs.List.Sorted.{IsPermutation, IsSortedBy}
use Rattle.std.specs.Ordering.{is_lt, nat_cmp, ordering_then, MatchOrdering}
use Rattle.std.specs.declared.cmp.Ordering.{Ordering}
use Rattle.std.specs.declared.cmp.Ordering.TheVariants.{Less, Equal, Greater}
use Rattle.std.proofs.lemmas.Cmp.{ranked}
use Rattle.std.specs.Cmp.Lexicographic.{slice_cmp}
use Rattle.std.proofs.lemmas.Bool.{cases_eq}
use Rattle.std.proofs.lemmas.Bool.Decides.{nat_tests}
use Rattle.std.proofs.lemmas.List.{get_or-set_same, get_or-set_other, length-set}
use Rattle.std.proofs.lemmas.List.Edits.{swap_is, length-swap}
use Rattle.std.proofs.lemmas.List.Sorted.{IsPermutation-keeps}
use Rattle.std.proofs.lemmas.Option.{slice_get_within, slice_get-get_or, get_or_from_slice_get}
use Rattle.package_faces.specs.Faces.{ObjectOut}
use Rattle.package_faces.specs.Orders.{comes_before, object_before, rises, rises_after}
use Rattle.check_pkg.specs.Exports.{AreDistinct}
use Rattle.check_pkg.proofs.Lists.{push_cases}

abbrev pub before : ObjectOut → ObjectOut → Bool
before a b = is_lt (slice_cmp nat_cmp a.name b.name)

pub distinct_push : (old : List ObjectOut) (out : ObjectOut) → AreDistinct old → ((x : ObjectOut) → Contains old x → ¬ (x.name ≡ out.name)) → AreDistinct (old ++ out ∷ [])
distinct_push old out distinct fresh i j a b apart first second = elim (push_cases old out a i first) [
  | inl here ↦ elim (push_cases old out b j second) [
    | inl there ↦ distinct i j a b apart here there
    | inr (at, same) ↦ λ e. fresh a (i, slice_get_within old i a here, get_or_from_slice_get old i a a here) (e ∙ ap (λ (x : ObjectOut). x.name) same)
  ]
  | inr (end, is) ↦ elim (push_cases old out b j second) [
    | inl there ↦ λ e. fresh b (j, slice_get_within old j b there, get_or_from_slice_get old j b b there) (sym e ∙ ap (λ (x : ObjectOut). x.name) is)
    | inr (at, same) ↦ absurd (apart (end ∙ sym at))
  ]
]

-- where an element stood before two changed places
moved : ℕ → ℕ → ℕ → ℕ
moved i j m = if m == i then j else (if m == j then i else m)

record From (list : List ObjectOut) (i j k : ℕ) (a : ObjectOut) : Type 0 where
  at : ℕ
  there : slice_get list at ≡ Some a
  back : k ≡ moved i j at

back_first : (i j : ℕ) → j ≡ moved i j i
unfolding moved
back_first i j = grind (arith, nat_tests)

back_second : (i j : ℕ) → ¬ (i ≡ j) → i ≡ moved i j j
unfolding moved
back_second i j apart = grind (arith, nat_tests)

back_other : (i j k : ℕ) → ¬ (k ≡ i) → ¬ (k ≡ j) → k ≡ moved i j k
unfolding moved
back_other i j k first second = grind (arith, nat_tests)

-- an element that stands somewhere, found at an equal place
stands_at : (list : List ObjectOut) (k : ℕ) (a : ObjectOut) → k < length list → get_or list k a ≡ a → slice_get list k ≡ Some a
stands_at list k a low is = slice_get-get_or list k a low ∙ ap Some is

from : (list : List ObjectOut) (i j : ℕ) → i < length list → j < length list → (k : ℕ) (a : ObjectOut) → slice_get (swap list i j) k ≡ Some a → From list i j k a
from list i j i_low j_low k a read =
    let one = get_or list j a in
    let other = get_or list i a in
    let first = set list i one in
    let is : get_or (set first j other) k a ≡ a =
    ap (λ (xs : List ObjectOut). get_or xs k a) (swap_is list i j a i_low j_low) ∙ get_or_from_slice_get (swap list i j) k a a read in
    let within = slice_get_within (swap list i j) k a read in
    let size = length-swap list i j in
    let size_first = length-set list i one in
    elim (cases_eq k j) [
      | inl same ↦ record {
        at = i;
        there = stands_at list i a i_low
            (sym (get_or-set_same first j other a (omega arith)) ∙ (ap (λ n. get_or (set first j other) n a) (sym same) ∙ is));
        back = same ∙ back_first i j;
      }
      | inr apart ↦ elim (cases_eq k i) [
        | inl here ↦ record {
          at = j;
          there = stands_at list j a j_low
              (sym (get_or-set_same list i one a i_low) ∙ (ap (λ n. get_or first n a) (sym here) ∙ (sym (get_or-set_other first j k other a apart) ∙ is)));
          back = here ∙ back_second i j (λ e. apart (here ∙ e));
        }
        | inr away ↦ record {
          at = k;
          there = stands_at list k a (omega arith) (sym (get_or-set_other list i k one a away) ∙ (sym (get_or-set_other first j k other a apart) ∙ is));
          back = back_other i j k away apart;
        }
      ]
    ]

keeps_distinct : (list : List ObjectOut) (i j : ℕ) → i < length list → j < length list → AreDistinct list → AreDistinct (swap list i j)
keeps_distinct list i j i_low j_low distinct k l a b apart first second =
    let one = from list i j i_low j_low k a first in
    let other = from list i j i_low j_low l b second in
    distinct one.at other.at a b (λ e. apart (one.back ∙ (ap (moved i j) e ∙ sym other.back))) one.there other.there

pub distinct_permuted : (list sorted : List ObjectOut) → IsPermutation list sorted → AreDistinct list → AreDistinct sorted
distinct_permuted list sorted permuted distinct = IsPermutation-keeps list AreDistinct distinct keeps_distinct sorted permuted

both_cells : (x y : ℕ) (xs ys : List ℕ) → y ≡ x → xs ≡ ys → ◌≡◌ {A = List ℕ} (x ∷ xs) (y ∷ ys)
both_cells x y xs ys m e = cc

-- of two names the one that doesn't come later comes first, where they differ
comes_first : (xs ys : List ℕ) → is_lt (slice_cmp nat_cmp ys xs) ≡ false → ¬ (xs ≡ ys) → comes_before xs ys ≡ true
comes_first [] [] h apart = absurd (apart refl)
comes_first [] (y ∷ ys) h apart = refl
comes_first (x ∷ xs) [] h apart = absurd cc
comes_first (x ∷ xs) (y ∷ ys) h apart =
    by (nat_cmp y x) (ranked y x (nat_cmp y x) refl) (nat_cmp x y) (ranked x y (nat_cmp x y) refl) h (λ rest. comes_first xs ys rest) where
      by : (o : Ordering) → MatchOrdering o (y < x) (y ≡ x) (x < y) → (p : Ordering) → MatchOrdering p (x < y) (x ≡ y) (y < x) → is_lt (ordering_then o (slice_cmp nat_cmp ys xs)) ≡ false
          → (is_lt (slice_cmp nat_cmp ys xs) ≡ false → ¬ (xs ≡ ys) → comes_before xs ys ≡ true) → is_lt (ordering_then p (slice_cmp nat_cmp xs ys)) ≡ true
      by Less m p n h rest = absurd cc
      by Equal m Less n h rest = refl
      by Equal m Equal n h rest = rest h (λ e. apart (both_cells x y xs ys m e))
      by Equal m Greater n h rest = absurd (omega arith)
      by Greater m Less n h rest = refl
      by Greater m Equal n h rest = absurd (omega arith)
      by Greater m Greater n h rest = absurd (omega arith)

all_rise : (c : ObjectOut) (rest : List ObjectOut) → ((k : ℕ) (a b : ObjectOut) → slice_get (c ∷ rest) k ≡ Some a → slice_get rest k ≡ Some b → comes_before a.name b.name ≡ true)
    → rises_after object_before c rest ≡ true
all_rise c [] step = refl
all_rise c (e ∷ rest) step =
    both (comes_before c.name e.name) (rises_after object_before e rest) (step 0 c e refl refl) (all_rise e rest (λ k a b first second. step (suc k) a b first second)) where
      both : (x y : Bool) → x ≡ true → y ≡ true → (if x then y else false) ≡ true
      both true y held rest = rest
      both false y held rest = absurd cc

rise_by_steps : (list : List ObjectOut) → ((k : ℕ) (a b : ObjectOut) → slice_get list k ≡ Some a → slice_get list (suc k) ≡ Some b → comes_before a.name b.name ≡ true) → rises object_before list ≡ true
rise_by_steps [] step = refl
rise_by_steps (c ∷ rest) step = all_rise c rest step

pub sorted_rise : (list : List ObjectOut) → AreDistinct list → IsSortedBy before list → rises object_before list ≡ true
sorted_rise list distinct sorted = rise_by_steps list (λ k a b first second.
    let low = slice_get_within list (suc k) b second in
    let e : suc k ≡ k + 1 = omega arith in
    let a_is : get_or list k a ≡ a = get_or_from_slice_get list k a a first in
    let b_is : get_or list (k + 1) a ≡ b = ap (λ n. get_or list n a) (sym e) ∙ get_or_from_slice_get list (suc k) b a second in
    comes_first a.name b.name
    (subst (λ (y : ObjectOut). before b y ≡ false) a_is (subst (λ (x : ObjectOut). before x (get_or list k a) ≡ false) b_is (sorted k a (omega arith) (omega arith))))
    (distinct k (suc k) a b (λ same. absurd (omega arith)) first second))
