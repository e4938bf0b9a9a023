-- Tables in order of the names.
use Rattle.std.proofs.Common.{◌≡◌, ℕ, suc, zero, ◌+◌, ◌<◌, ◌≤◌, List, [], ◌∷◌, ◌++◌, length, filter, Bool, true, false, Option, Some, None, slice_index_or, insert, All, AllPairs, refl, ap, sym, ◌∙◌, subst, take, drop, arith, inl, inr}
use Rattle.std.specs.Prelude.{Result, Ok, Err}
use Rattle.std.specs.Ordering.{nat_cmp, is_lt}
use Rattle.std.specs.Str.{bytes_eq}
use Rattle.std.specs.Cmp.Lexicographic.{slice_cmp}
use Rattle.std.specs.List.Sorted.{IsBinarySearchResult, IsSearchInRange, IsSortedBy}
use Rattle.std.proofs.lemmas.List.Sorted.{searchable_from_sorted}
use Rattle.std.proofs.lemmas.List.Elements.{All-cons, filter_passes}
use Rattle.std.proofs.lemmas.List.Kept.{AllPairs-cons, AllPairs-filter}
use Rattle.std.proofs.lemmas.Bool.{cases_lt}
use Rattle.std.proofs.lemmas.Cmp.{nat_list_cmp_total}
use Rattle.std.proofs.lemmas.Slice.Eq.{bytes_eq-Decides}
use Rattle.gv_base.specs.Files.{is_before}
use Rattle.gv_base.proofs.FileLemmas.{filter-take, filter-drop, before-flip, after-flip, less-before, same-path, before-itself, before-other, after-other, before-trans, AllPairs-append}
use Rattle.fact_codec.specs.Tables.{AreInOrder, fact_of, put_fact, IsSplit, IsPlaceOf}

module _ {F : Type 0} where
  in-order-sorted : (table : List (List ℕ × F)) → AreInOrder table → IsSortedBy (λ a b. is_lt (slice_cmp nat_cmp a.0 b.0)) table
  in-order-sorted table ordered k d low high = before-flip (slice_index_or table k d).0 (slice_index_or table (k + 1) d).0 (ordered k (k + 1) d (omega arith) high)

  -- what a binary search by name answers
  pub place-found : (table : List (List ℕ × F)) (name : List ℕ) (r : Result ℕ ℕ) → AreInOrder table → IsSearchInRange r (length table)
      → IsBinarySearchResult (λ (e : List ℕ × F). slice_cmp nat_cmp e.0 name) table r → IsPlaceOf table name r
  place-found table name (Ok at) ordered range found =
      let here : (d : List ℕ × F) → (slice_index_or table at d).0 ≡ name = λ d. same-path _ _ (found d) in
      record {
        within = omega (arith, range);
        risen = omega arith;
        below = λ k d lt. let P : List ℕ → Type 0 = λ q. is_before (slice_index_or table k d).0 q ≡ true in subst P (here d) (ordered k at d lt range);
        same = λ k d low high. let e : k ≡ at = omega (arith, low, high) in ap (λ j. (slice_index_or table j d).0) e ∙ here d;
        above = λ k d low lt. let P : List ℕ → Type 0 = λ q. is_before q (slice_index_or table k d).0 ≡ true in subst P (here d) (ordered at k d (omega (arith, low)) lt);
      }
  place-found table name (Err at) ordered range found =
      let point = found (searchable_from_sorted nat_list_cmp_total (λ (e : List ℕ × F). e.0) table name (in-order-sorted table ordered)) in
      record {
        within = range;
        risen = omega arith;
        below = λ k d lt. less-before (slice_index_or table k d).0 name (point.0 k d (omega arith) lt);
        same = λ k d low high. absurd (omega (arith, low, high));
        above = λ k d low lt. after-flip (slice_index_or table k d).0 name (point.1 k d low lt);
      }

  before-split : (table : List (List ℕ × F)) (name : List ℕ) (at : ℕ) → IsSplit table name at at → filter (λ e. is_before e.0 name) table ≡ take at table
  before-split table name at split = filter-take (λ (e : List ℕ × F). is_before e.0 name) table at (λ k d lt more. split.below k d lt) (λ k d low lt. before-flip name (slice_index_or table k d).0 (split.above k d low lt))

  after-split : (table : List (List ℕ × F)) (name : List ℕ) (at : ℕ) → IsSplit table name at at → filter (λ e. is_before name e.0) table ≡ drop at table
  after-split table name at split = filter-drop (λ (e : List ℕ × F). is_before name e.0) table at (λ k d lt more. before-flip (slice_index_or table k d).0 name (split.below k d lt)) (λ k d low lt. split.above k d low lt)

  -- an entry at the place of its name
  pub insert-split : (table : List (List ℕ × F)) (name : List ℕ) (fact : F) (at : ℕ) → IsSplit table name at at → insert table at (name, fact) ≡ put_fact table name fact
  insert-split table name fact at split = sym (rw (before-split table name at split) (rw (after-split table name at split) refl))

  -- what stands before a name stands before all that stands after it
  all-between : (table : List (List ℕ × F)) (name : List ℕ)
      → All (λ e. All (λ f. is_before e.0 f.0 ≡ true) (filter (λ g. is_before name g.0) table)) (filter (λ g. is_before g.0 name) table)
  all-between table name k d lt j c less = before-trans (slice_index_or (filter (λ (g : List ℕ × F). is_before g.0 name) table) k d).0 name (slice_index_or (filter (λ (g : List ℕ × F). is_before name g.0) table) j c).0
      (filter_passes (λ (g : List ℕ × F). is_before g.0 name) table k d lt) (filter_passes (λ (g : List ℕ × F). is_before name g.0) table j c less)

  abbrev InOrder : List ℕ × F → List ℕ × F → Type 0
  InOrder e f = is_before e.0 f.0 ≡ true

  pub put-in_order : (table : List (List ℕ × F)) (name : List ℕ) (fact : F) → AreInOrder table → AreInOrder (put_fact table name fact)
  put-in_order table name fact ordered =
      AllPairs-append InOrder _ _
      (AllPairs-filter InOrder (λ (e : List ℕ × F). is_before e.0 name) table ordered)
      (AllPairs-cons InOrder (name, fact) _ (λ k d lt. filter_passes (λ (e : List ℕ × F). is_before name e.0) table k d lt) (AllPairs-filter InOrder (λ (e : List ℕ × F). is_before name e.0) table ordered))
      (λ k d lt. All-cons (λ (f : List ℕ × F). is_before (slice_index_or (filter (λ (e : List ℕ × F). is_before e.0 name) table) k d).0 f.0 ≡ true) (name, fact) _ (filter_passes (λ (e : List ℕ × F). is_before e.0 name) table k d lt) (all-between table name k d lt))

  -- the fact of a name, by where the name first stands
  fact-first : (table : List (List ℕ × F)) (name : List ℕ) (at : ℕ) (d : List ℕ × F) → at < length table
      → ((k : ℕ) → k < at → bytes_eq (slice_index_or table k d).0 name ≡ false) → (slice_index_or table at d).0 ≡ name → fact_of table name ≡ Some (slice_index_or table at d).1
  fact-first [] name at d lt others here = absurd (omega (arith, lt))
  fact-first (e ∷ es) name zero d lt others here = rw ((bytes_eq-Decides e.0 name).1 here) refl
  fact-first (e ∷ es) name (suc at) d lt others here = rw (others 0 (omega arith)) (fact-first es name at d (omega (arith, lt)) (λ k less. others (suc k) (omega (arith, less))) here)

  fact-none : (table : List (List ℕ × F)) (name : List ℕ) → ((k : ℕ) (d : List ℕ × F) → k < length table → bytes_eq (slice_index_or table k d).0 name ≡ false) → fact_of table name ≡ None
  fact-none [] name others = refl
  fact-none (e ∷ es) name others = rw (others 0 e (omega arith)) (fact-none es name (λ k d less. others (suc k) d (omega (arith, less))))

  pub fact-held : (table : List (List ℕ × F)) (name : List ℕ) (at : ℕ) (d : List ℕ × F) → IsSplit table name at (at + 1) → fact_of table name ≡ Some (slice_index_or table at d).1
  fact-held table name at d split = fact-first table name at d (omega (arith, split.within)) (λ k lt. before-other (slice_index_or table k d).0 name (split.below k d lt)) (split.same at d (omega arith) (omega arith))

  pub fact-gap : (table : List (List ℕ × F)) (name : List ℕ) (at : ℕ) → IsSplit table name at at → fact_of table name ≡ None
  fact-gap table name at split = fact-none table name others
    where
      others : (k : ℕ) (d : List ℕ × F) → k < length table → bytes_eq (slice_index_or table k d).0 name ≡ false
      others k d lt = elim (cases_lt k at) [ inl less ↦ before-other (slice_index_or table k d).0 name (split.below k d less) | inr low ↦ after-other (slice_index_or table k d).0 name (split.above k d low lt) ]

  -- a name that is held isn't absent
  pub held-not_absent : (table : List (List ℕ × F)) (name : List ℕ) (at : ℕ) → IsSplit table name at (at + 1) → fact_of table name ≡ None → ⊥
  held-not_absent [] name at split none = let within = split.within in absurd (omega (arith, within))
  held-not_absent (e ∷ es) name at split none =
      let held : fact_of (e ∷ es) name ≡ Some (slice_index_or (e ∷ es) at e).1 = fact-held (e ∷ es) name at e split in
      apart (sym held ∙ none)
    where
      apart : {x : F} → Some x ≡ None → ⊥
      apart h = cc

  -- what stands at the place of a name
  pub found-there : (table inside : List (List ℕ × F)) (at : ℕ) (name : List ℕ) (e : List ℕ × F) → inside ≡ table → e ≡ slice_index_or inside at e → IsSplit table name at (at + 1) → Some e.1 ≡ fact_of table name
  found-there table inside at name e is here split = ap (λ (x : List ℕ × F). Some x.1) (here ∙ ap (λ l. slice_index_or l at e) is) ∙ sym (fact-held table name at e split)

  pub inserted : (table inside new : List (List ℕ × F)) (at : ℕ) (copy name : List ℕ) (fact : F) → inside ≡ table → copy ≡ name → new ≡ insert inside at (copy, fact) → IsSplit table name at at → new ≡ put_fact table name fact
  inserted table inside new at copy name fact is same grown split = grown ∙ (ap (λ l. insert l at (copy, fact)) is ∙ (ap (λ n. insert table at (n, fact)) same ∙ insert-split table name fact at split))

  pub inserted-in_order : (table inside new : List (List ℕ × F)) (at : ℕ) (copy name : List ℕ) (fact : F) → inside ≡ table → AreInOrder inside → copy ≡ name → new ≡ insert inside at (copy, fact) → IsSplit table name at at → AreInOrder new
  inserted-in_order table inside new at copy name fact is ordered same grown split =
      subst AreInOrder (sym (inserted table inside new at copy name fact is same grown split)) (put-in_order table name fact (subst AreInOrder is ordered))
