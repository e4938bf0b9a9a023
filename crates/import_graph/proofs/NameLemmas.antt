-- Texts in byte order, each once.
use Rattle.std.proofs.Common.{◌≡◌, inl, inr, ℕ, ◌+◌, ◌<◌, Bool, true, false, Some, List, [], ◌∷◌, ◌++◌, length, take, map, slice_get, slice_index_or, refl, ap, sym, ◌∙◌, subst, arith}
use Rattle.std.specs.Prelude.{Ok, Err}
use Rattle.std.specs.Str.{bytes_eq}
use Rattle.std.specs.List.{Contains, dedup}
use Rattle.std.specs.List.Sorted.{IsPermutation, IsSorted, IsSortedBy, IsStrictlySortedBy, IsBinarySearchResult}
use Rattle.std.specs.Ordering.{nat_cmp, is_lt}
use Rattle.std.specs.Cmp.{IsEquivalence}
use Rattle.std.specs.Cmp.Lexicographic.{slice_cmp}
use Rattle.std.specs.declared.cmp.Ordering.{Ordering}
use Rattle.std.specs.declared.cmp.Ordering.TheVariants.{Less, Equal, Greater}
use Rattle.std.proofs.lemmas.Cmp.{nat_list_cmp_total, tied_itself}
use Rattle.std.proofs.lemmas.Bool.{cases_lt}
use Rattle.std.proofs.lemmas.List.{take_more, map-append}
use Rattle.std.proofs.lemmas.List.Kept.{Contains-dedup, Contains-from_dedup, IsStrictlySortedBy-dedup}
use Rattle.std.proofs.lemmas.List.Sorted.{Contains-permutation, IsPermutation-sym, searchable_from_sorted}
use Rattle.std.proofs.lemmas.Map.Keys.{Less-from_sorted}
use Rattle.std.proofs.lemmas.Map.Text.{is_eq-slice_cmp}
use Rattle.std.proofs.lemmas.Option.{slice_get-get_or, slice_get_within, get_or_from_slice_get}
use Rattle.std.proofs.lemmas.Slice.Eq.{bytes_eq-Decides}
use Rattle.gv_base.proofs.FileLemmas.{before-flip, less-before, same-path}
use Rattle.import_graph.specs.Tables.{AreAscending, AreSorted}

pub same-bools : (b c : Bool) → (b ≡ true → c ≡ true) → (c ≡ true → b ≡ true) → b ≡ c
same-bools true c f g = sym (f refl)
same-bools false true f g = g refl
same-bools false false f g = refl

pub equal-texts : IsEquivalence bytes_eq
equal-texts = record {
  refl = λ x. (bytes_eq-Decides x x).1 refl;
  symm = λ x y. same-bools (bytes_eq x y) (bytes_eq y x)
      (λ h. (bytes_eq-Decides y x).1 (sym ((bytes_eq-Decides x y).0 h))) (λ h. (bytes_eq-Decides x y).1 (sym ((bytes_eq-Decides y x).0 h)));
  congr = λ x y z h. ap (λ t. bytes_eq t z) ((bytes_eq-Decides x y).0 h);
}

-- a sort and the loss of repeats
pub sorted-names : (texts sorted names : List (List ℕ)) → IsPermutation texts sorted → IsSorted (slice_cmp nat_cmp) sorted → names ≡ dedup bytes_eq sorted → AreSorted texts names
sorted-names texts sorted names moved order is =
    let strict : IsStrictlySortedBy (slice_cmp nat_cmp) (dedup bytes_eq sorted) = IsStrictlySortedBy-dedup nat_list_cmp_total (λ x y. sym (is_eq-slice_cmp x y)) sorted order in
    record {
      order = subst AreAscending (sym is) (λ i j d lt within. less-before (slice_index_or (dedup bytes_eq sorted) i d) (slice_index_or (dedup bytes_eq sorted) j d) (Less-from_sorted (slice_cmp nat_cmp) (dedup bytes_eq sorted) i j d strict lt within));
      same = λ name. (
        (λ h. Contains-permutation sorted texts name (IsPermutation-sym texts sorted moved) (Contains-from_dedup bytes_eq sorted name (subst (λ t. Contains t name) is h))),
        (λ h. subst (λ t. Contains t name) (sym is) (Contains-dedup equal-texts (λ x y. (bytes_eq-Decides x y).0) sorted name (Contains-permutation texts sorted name moved h))),
      );
    }

ascending-sorted : (names : List (List ℕ)) → AreAscending names → IsSortedBy (λ a b. is_lt (slice_cmp nat_cmp a b)) names
ascending-sorted names order k d low high = before-flip (slice_index_or names k d) (slice_index_or names (k + 1) d) (order k (k + 1) d (omega arith) high)

-- what a binary search finds
pub place-here : (names : List (List ℕ)) (text : List ℕ) (at : ℕ) → at < length names → IsBinarySearchResult (λ e. slice_cmp nat_cmp e text) names (Ok at) → slice_get names at ≡ Some text
place-here names text at l found = slice_get-get_or names at [] l ∙ ap Some (same-path (slice_index_or names at []) text (found []))

unordered : (p q : List ℕ) (o : Ordering) → slice_cmp nat_cmp p q ≡ o → p ≡ q → o ≡ Equal
unordered p q o h e = sym h ∙ ap (λ t. slice_cmp nat_cmp p t) (sym e) ∙ tied_itself nat_list_cmp_total p

pub place-none : (names : List (List ℕ)) (text : List ℕ) (at : ℕ) → AreAscending names → IsBinarySearchResult (λ e. slice_cmp nat_cmp e text) names (Err at) → Contains names text → ⊥
place-none names text at order found (k, l, e) =
    let point = found (searchable_from_sorted nat_list_cmp_total (λ e. e) names text (ascending-sorted names order)) in
    elim (cases_lt k at) [
      | inl low ↦ (let f : Less ≡ Equal = unordered (slice_index_or names k text) text Less (point.0 k text (omega arith) low) e in cc)
      | inr high ↦ (let f : Greater ≡ Equal = unordered (slice_index_or names k text) text Greater (point.1 k text high l) e in cc)
    ]

-- the places of texts in order are distinct
pub same-place : (names : List (List ℕ)) (i j : ℕ) (text : List ℕ) → AreAscending names → slice_get names i ≡ Some text → slice_get names j ≡ Some text → i < j → ⊥
same-place names i j text order f g lt =
    let l = slice_get_within names j text g in
    let h = order i j text lt l in
    let e : slice_index_or names i text ≡ text = get_or_from_slice_get names i text text f in
    let u : slice_index_or names j text ≡ text = get_or_from_slice_get names j text text g in
    let x = before-flip (slice_index_or names i text) (slice_index_or names j text) h in
    let y : is_lt (slice_cmp nat_cmp text text) ≡ true = ap (λ t. is_lt (slice_cmp nat_cmp t text)) (sym e) ∙ ap (λ t. is_lt (slice_cmp nat_cmp (slice_index_or names i text) t)) (sym u) ∙ h in
    let z : is_lt (slice_cmp nat_cmp text text) ≡ false = ap (λ t. is_lt (slice_cmp nat_cmp t text)) (sym u) ∙ ap (λ t. is_lt (slice_cmp nat_cmp (slice_index_or names j text) t)) (sym e) ∙ x in
    let w : true ≡ false = sym y ∙ z in cc

-- one item more of a list that is mapped
pub map-more : {A B : Type 0} (f : A → B) (xs : List A) (n : ℕ) (x : A) → slice_get xs n ≡ Some x → map f (take (n + 1) xs) ≡ map f (take n xs) ++ f x ∷ []
map-more f xs n x g =
    let l = slice_get_within xs n x g in
    ap (map f) (take_more xs n x l ∙ ap (λ t. take n xs ++ t ∷ []) (get_or_from_slice_get xs n x x g)) ∙ map-append f (take n xs) (x ∷ [])
