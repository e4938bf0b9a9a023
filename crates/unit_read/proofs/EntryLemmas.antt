-- Lists of the cells that have something.
use Rattle.std.proofs.Common.{◌≡◌, ℕ, zero, suc, ◌+◌, ◌<◌, ◌≤◌, ◌==◌, ◌⊎◌, Bool, true, false, if◌then◌else◌, List, [], ◌∷◌, ◌++◌, length, slice_get, slice_index_or, option_and_then, Option, Some, None, refl, sym, ap, ◌∙◌, subst, inl, inr, arith}
use Rattle.std.specs.Global.{Vec}
use Rattle.std.proofs.lemmas.Bool.{eqb-true, eq-eqb}
use Rattle.std.proofs.lemmas.List.{append-nil, length_push}
use Rattle.std.specs.List.{AllWithin}
use Rattle.std.specs.List.Sorted.{IsPartitionedBy}
use Rattle.std.proofs.Math.Dec.{ltb}
use Rattle.std.proofs.lemmas.Bool.{lt-ltb, ltb-false}
use Rattle.std.proofs.lemmas.Bool.Decides.{leb_tells}
use Rattle.std.proofs.lemmas.Option.{slice_get_past, slice_get_within, slice_get-get_or, get_or_from_slice_get}
use Rattle.unit_read.specs.Entries.{stored, AreAscending, AreBelow, AreAbove, cell_in, entry_of, value_at, AreKept, AreEntries, entry}
use Rattle.unit_read.specs.Subjects.{cell}
use Rattle.unit_read.proofs.EnvironmentLemmas.{push_cases}
use Rattle.go_tree.specs.declared.tree.NodeRef.{NodeRef}

-- ---- the place of a number

below_it : (a b : ℕ) → ltb a b ≡ true → a < b
below_it a b is = elim (leb_tells (suc a) b) [ inl told ↦ told.1 | inr told ↦ absurd cc ]

module _ {X : Type 0} (list : List (ℕ × X)) (n : ℕ) where
  pub are_partitioned : AreAscending list → IsPartitionedBy (λ (e : ℕ × X). ltb e.0 n) list
  are_partitioned ascending i j d le low passes = by (less_or_same i j le) where
    less_or_same : (i j : ℕ) → i ≤ j → (i < j) ⊎ (i ≡ j)
    less_or_same i j le = grind (arith, le)

    by : (i < j) ⊎ (i ≡ j) → ltb (slice_index_or list i d).0 n ≡ true
    by (inl less) =
        let rises : (slice_index_or list i d).0 < (slice_index_or list j d).0 =
        ascending i j (slice_index_or list i d) (slice_index_or list j d) less (slice_get-get_or list i d (omega (arith, less, low))) (slice_get-get_or list j d low) in
        let last : (slice_index_or list j d).0 < n = below_it (slice_index_or list j d).0 n passes in
        lt-ltb (slice_index_or list i d).0 n (omega (arith, rises, last))
    by (inr same) = subst (λ (k : ℕ). ltb (slice_index_or list k d).0 n ≡ true) (sym same) passes

  pub below_at : (place : ℕ) → AllWithin (λ (e : ℕ × X). ltb e.0 n ≡ true) list 0 place → AreBelow list n place
  below_at place all k a low at = below_it a.0 n (subst (λ (e : ℕ × X). ltb e.0 n ≡ true) (get_or_from_slice_get list k a a at) (all k a (omega arith) low))

  pub above_at : (place : ℕ) → AllWithin (λ (e : ℕ × X). ltb e.0 n ≡ false) list place (length list) → AreAbove list n place
  above_at place all k a from at = ltb-false a.0 n (subst (λ (e : ℕ × X). ltb e.0 n ≡ false) (get_or_from_slice_get list k a a at) (all k a from (slice_get_within list k a at)))

-- ---- what stands in a list

none_past : {X : Type 0} (xs : List X) (i : ℕ) → slice_get xs i ≡ None → length xs ≤ i
none_past [] i is = omega arith
none_past (x ∷ xs) zero is = absurd cc
none_past (x ∷ xs) (suc i) is = let past = none_past xs i is in omega arith

-- what no entry has
pub stored_none : {X : Type 0} (list : List (ℕ × X)) (n : ℕ) → ((j : ℕ) (a : ℕ × X) → slice_get list j ≡ Some a → a.0 ≡ n → ⊥) → stored list n ≡ None
stored_none [] n none = refl
stored_none (e ∷ list) n none = by (e.0 == n) refl (stored_none list n (λ j a at. none (suc j) a at)) where
  by : (b : Bool) → (e.0 == n) ≡ b → stored list n ≡ None → (if b then Some e.1 else stored list n) ≡ None
  by true is later = absurd (none 0 e refl (eqb-true e.0 n is))
  by false is later = later

-- what the entry at a place has, where none before it has the number
pub stored_is : {X : Type 0} (list : List (ℕ × X)) (n place : ℕ) (e : ℕ × X) → AreBelow list n place → slice_get list place ≡ Some e → e.0 ≡ n → stored list n ≡ Some e.1
stored_is [] n place e below at is = absurd cc
stored_is (x ∷ list) n zero e below at is =
    let one : x ≡ e = cc in
    let here : (x.0 == n) ≡ true = eq-eqb x.0 n (ap (λ y. y.0) one ∙ is) in
    rw here (ap (λ y. Some y.1) one)
stored_is (x ∷ list) n (suc place) e below at is = by (x.0 == n) refl (stored_is list n place e (λ k a low. below (suc k) a (omega arith)) at is) where
  by : (b : Bool) → (x.0 == n) ≡ b → stored list n ≡ Some e.1 → (if b then Some x.1 else stored list n) ≡ Some e.1
  by true same later = absurd (let less : x.0 < n = below 0 x (omega arith) refl in let one : x.0 ≡ n = eqb-true x.0 n same in omega arith)
  by false same later = later

-- what the entry at the place of a number has, if it has the number
pub stored_not : {X : Type 0} (list : List (ℕ × X)) (n place : ℕ) (e : ℕ × X) → AreAscending list → AreBelow list n place → AreAbove list n place
    → slice_get list place ≡ Some e → (e.0 ≡ n → ⊥) → stored list n ≡ None
stored_not list n place e ascending below above at other = stored_none list n (λ j a there same. by j a there same (apart j)) where
  apart : (j : ℕ) → (j < place) ⊎ ((j ≡ place) ⊎ (place < j))
  apart j = grind arith

  by : (j : ℕ) (a : ℕ × _) → slice_get list j ≡ Some a → a.0 ≡ n → (j < place) ⊎ ((j ≡ place) ⊎ (place < j)) → ⊥
  by j a there same (inl low) = let less : a.0 < n = below j a low there in omega arith
  by j a there same (inr (inl here)) =
      let one : Some e ≡ Some a = sym at ∙ (ap (slice_get list) (sym here) ∙ there) in
      let e_is : e ≡ a = cc in
      other (ap (λ y. y.0) e_is ∙ same)
  by j a there same (inr (inr high)) =
      let less : e.0 < a.0 = ascending place j e a high at there in
      let most : n ≤ e.0 = above place e (omega arith) at in
      omega arith

pub stored_past : {X : Type 0} (list : List (ℕ × X)) (n place : ℕ) → AreBelow list n place → length list ≤ place → stored list n ≡ None
stored_past [] n place below past = refl
stored_past (x ∷ list) n zero below past = absurd (omega arith)
stored_past (x ∷ list) n (suc place) below past = by (x.0 == n) refl (stored_past list n place (λ k a low. below (suc k) a (omega arith)) (omega arith)) where
  by : (b : Bool) → (x.0 == n) ≡ b → stored list n ≡ None → (if b then Some x.1 else stored list n) ≡ None
  by true same later = absurd (let less : x.0 < n = below 0 x (omega arith) refl in let one : x.0 ≡ n = eqb-true x.0 n same in omega arith)
  by false same later = later

-- what the entry at the place of a number has
pub stored_at : {X : Type 0} (list : List (ℕ × X)) (n place : ℕ) → AreAscending list → AreBelow list n place → AreAbove list n place → value_at n (slice_get list place) ≡ stored list n
stored_at {X} list n place ascending below above = by (slice_get list place) refl where
  here : (e : ℕ × X) (b : Bool) → slice_get list place ≡ Some e → (e.0 == n) ≡ b → (if b then Some e.1 else None) ≡ stored list n
  here e true at is = sym (stored_is list n place e below at (eqb-true e.0 n is))
  here e false at is = sym (stored_not list n place e ascending below above at (λ same. let one : (e.0 == n) ≡ true = eq-eqb e.0 n same in absurd cc))

  by : (o : Option (ℕ × X)) → slice_get list place ≡ o → value_at n o ≡ stored list n
  by None none = sym (stored_past list n place below (none_past list place none))
  by (Some e) at = here e (e.0 == n) at refl

-- ---- one entry more

pub stored_front : {X : Type 0} (list : List (ℕ × X)) (e : ℕ × X) (n : ℕ) → (e.0 ≡ n → ⊥) → stored (list ++ e ∷ []) n ≡ stored list n
stored_front [] e n other = by (e.0 == n) refl where
  by : (b : Bool) → (e.0 == n) ≡ b → (if b then Some e.1 else None) ≡ None
  by true is = absurd (other (eqb-true e.0 n is))
  by false is = refl
stored_front (x ∷ list) e n other = by (x.0 == n) (stored_front list e n other) where
  by : (b : Bool) → stored (list ++ e ∷ []) n ≡ stored list n → (if b then Some x.1 else stored (list ++ e ∷ []) n) ≡ (if b then Some x.1 else stored list n)
  by true later = refl
  by false later = later

pub stored_last : {X : Type 0} (list : List (ℕ × X)) (e : ℕ × X) → stored list e.0 ≡ None → stored (list ++ e ∷ []) e.0 ≡ Some e.1
stored_last [] e none = rw (eq-eqb e.0 e.0 refl) refl
stored_last (x ∷ list) e none = by (x.0 == e.0) none (stored_last list e) where
  by : (b : Bool) → (if b then Some x.1 else stored list e.0) ≡ None → (stored list e.0 ≡ None → stored (list ++ e ∷ []) e.0 ≡ Some e.1)
      → (if b then Some x.1 else stored (list ++ e ∷ []) e.0) ≡ Some e.1
  by true is later = absurd cc
  by false is later = later is

split : (k n : ℕ) → k < n + 1 → (k < n) ⊎ (k ≡ n)
split k n h = grind arith

kept_one : {X : Type 0} (list : List (ℕ × X)) (row : List (Option X)) (n : ℕ) (x : X) → AreKept list row n → Some x ≡ cell_in row n → AreKept (list ++ (n, x) ∷ []) row (n + 1)
kept_one {X} list row n x was is = record {
  each = λ k low. elim (split k n low) [
    | inl less ↦ stored_front list (n, x) k (λ same. omega arith) ∙ was.each k less
    | inr same ↦ subst (λ (m : ℕ). stored (list ++ (n, x) ∷ []) m ≡ cell_in row m) (sym same) (stored_last list (n, x) (was.rest n (omega arith)) ∙ is)
  ];
  rest = λ k high. stored_front list (n, x) k (λ same. omega arith) ∙ was.rest k (omega arith);
  below = λ j a at. elim (push_cases list (n, x) a j at) [
    | inl before ↦ let low : a.0 < n = was.below j a before in omega arith
    | inr (here, same) ↦ let one : a.0 ≡ n = ap (λ (y : ℕ × X). y.0) same in omega arith
  ];
  ascending = λ j k a b less at_j at_k. elim (push_cases list (n, x) a j at_j) [
    | inl before ↦ elim (push_cases list (n, x) b k at_k) [
      | inl there ↦ was.ascending j k a b less before there
      | inr (here, same) ↦ let low : a.0 < n = was.below j a before in let one : b.0 ≡ n = ap (λ (y : ℕ × X). y.0) same in omega arith
    ]
    | inr (here, same) ↦ elim (push_cases list (n, x) b k at_k) [
      | inl there ↦ let low : k < length list = slice_get_within list k b there in absurd (omega arith)
      | inr (last, equal) ↦ absurd (omega arith)
    ]
  ];
}

kept_none : {X : Type 0} (list : List (ℕ × X)) (row : List (Option X)) (n : ℕ) → AreKept list row n → None ≡ cell_in row n → AreKept list row (n + 1)
kept_none {X} list row n was is = record {
  each = λ k low. elim (split k n low) [
    | inl less ↦ was.each k less
    | inr same ↦ subst (λ (m : ℕ). stored list m ≡ cell_in row m) (sym same) (was.rest n (omega arith) ∙ is)
  ];
  rest = λ k high. was.rest k (omega arith);
  below = λ j a at. let low : a.0 < n = was.below j a at in omega arith;
  ascending = was.ascending;
}

pub kept_more : {X : Type 0} (list new : List (ℕ × X)) (row : List (Option X)) (n : ℕ) (o : Option X) → AreKept list row n → o ≡ cell_in row n → new ≡ list ++ entry_of n o → AreKept new row (n + 1)
kept_more {X} list new row n None was is now = subst (λ (xs : List (ℕ × X)). AreKept xs row (n + 1)) (sym (now ∙ append-nil list)) (kept_none list row n was is)
kept_more {X} list new row n (Some x) was is now = subst (λ (xs : List (ℕ × X)). AreKept xs row (n + 1)) (sym now) (kept_one list row n x was is)

pub kept_first : {X : Type 0} (list : List (ℕ × X)) (row : List (Option X)) → list ≡ [] → AreKept list row 0
kept_first {X} list row bare = subst (λ (xs : List (ℕ × X)). AreKept xs row 0) (sym bare) (record {
  each = λ k low. absurd (omega arith);
  rest = λ k high. refl;
  below = λ j a at. absurd cc;
  ascending = λ j k a b less at_j at_k. absurd cc;
})

-- all cells are kept
pub kept_all : {X : Type 0} (list : List (ℕ × X)) (row : List (Option X)) (n : ℕ) → AreKept list row (length row) → stored list n ≡ cell_in row n
kept_all {X} list row n was = by (apart n (length row)) where
  apart : (a b : ℕ) → (a < b) ⊎ (b ≤ a)
  apart a b = grind arith

  by : (n < length row) ⊎ (length row ≤ n) → stored list n ≡ cell_in row n
  by (inl low) = was.each n low
  by (inr high) = was.rest n high ∙ sym (ap (option_and_then (λ (o : Option X). o)) (slice_get_past row n high))

pub cell_is : {X : Type 0} (row : List (Option X)) (n : ℕ) (o : Option X) → n < length row → o ≡ slice_index_or row n o → o ≡ cell_in row n
cell_is {X} row n o low is = is ∙ sym (ap (option_and_then (λ (x : Option X). x)) (slice_get-get_or row n o low))

-- ---- all rows

pub few_none : {X : Type 0} (rows : List (Vec (Option X))) (table : List (List (ℕ × X))) → table ≡ [] → AreEntries rows table 0
few_none {X} rows table bare = subst (λ (t : List (List (ℕ × X))). AreEntries rows t 0) (sym bare) (record { size = refl; each = λ f row e at there n. absurd cc })

pub few_more : {X : Type 0} (rows : List (Vec (Option X))) (table new : List (List (ℕ × X))) (k : ℕ) (row : Vec (Option X)) (e : List (ℕ × X))
    → AreEntries rows table k → slice_get rows k ≡ Some row → ((n : ℕ) → stored e n ≡ cell_in row.items n) → new ≡ table ++ e ∷ [] → AreEntries rows new (k + 1)
few_more {X} rows table new k row e was at is now = record {
  size = ap length now ∙ (length_push table e ∙ ap (λ n. n + 1) was.size);
  each = λ f r t r_at t_at n. elim (push_cases table e t f (ap (λ (xs : List (List (ℕ × X))). slice_get xs f) (sym now) ∙ t_at)) [
    | inl before ↦ was.each f r t r_at before n
    | inr (f_is, t_is) ↦
        let one : Some row ≡ Some r = sym at ∙ (ap (slice_get rows) (sym (f_is ∙ was.size)) ∙ r_at) in
        let row_is : row ≡ r = cc in
        ap (λ (x : List (ℕ × X)). stored x n) t_is ∙ (is n ∙ ap (λ (x : Vec (Option X)). cell_in x.items n) row_is)
  ];
}

-- the table has what the rows have
pub few_all : {X : Type 0} (rows : List (Vec (Option X))) (table : List (List (ℕ × X))) (at : NodeRef) → AreEntries rows table (length rows) → entry table at ≡ cell rows at
few_all {X} rows table at is = by (slice_get rows at.file) (slice_get table at.file) refl refl where
  by : (r : Option (Vec (Option X))) (t : Option (List (ℕ × X))) → slice_get rows at.file ≡ r → slice_get table at.file ≡ t
      → option_and_then (λ (row : List (ℕ × X)). stored row at.node) t ≡ option_and_then (λ (row : Vec (Option X)). cell_in row.items at.node) r
  by None None r_is t_is = refl
  by (Some row) (Some e) r_is t_is = is.each at.file row e r_is t_is at.node
  by None (Some e) r_is t_is = absurd (let low : at.file < length table = slice_get_within table at.file e t_is in let size = is.size in let past = none_past rows at.file r_is in omega arith)
  by (Some row) None r_is t_is = absurd (let low : at.file < length rows = slice_get_within rows at.file row r_is in let size = is.size in let past = none_past table at.file t_is in omega arith)
