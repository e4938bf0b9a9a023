-- Rows of readers, one more at a time.
use Rattle.std.proofs.Common.{◌≡◌, ◌⊎◌, inl, inr, ◌<◌, ◌≤◌, ◌+◌, ℕ, zero, suc, List, [], ◌∷◌, ◌++◌, length, get_or, set, Some, refl, sym, ap, ◌∙◌, subst, arith}
use Rattle.std.specs.Prelude.{slice_get, slice_index_or}
use Rattle.std.specs.List.{Contains}
use Rattle.std.proofs.lemmas.List.{get_or-set_other, get_or-set_same, length-set}
use Rattle.std.proofs.lemmas.List.Elements.{Contains-push, Contains-push_cases, Contains-append_left}
use Rattle.std.proofs.lemmas.Bool.{cases_eq}
use Rattle.std.proofs.lemmas.Option.{slice_get_within}
use Rattle.vet_printf.specs.declared.shapes.Shape.{Shape}
use Rattle.vet_printf.specs.InTable.{AreRows, AreAdded, AreReaders, IsPartOf, row_of}

pub same_some : {A : Type 0} {x y : A} → Some x ≡ Some y → x ≡ y
same_some e = cc

pub either : {A B C : Type 0} → A ⊎ B → (A → C) → (B → C) → C
either (inl a) f g = f a
either (inr b) f g = g b

pub row_pushed : (rows : List (List ℕ)) (j : ℕ) → row_of (rows ++ [] ∷ []) j ≡ row_of rows j
row_pushed [] zero = refl
row_pushed [] (suc j) = refl
row_pushed (row ∷ rows) zero = refl
row_pushed (row ∷ rows) (suc j) = row_pushed rows j

pub none_added : (i : ℕ) (parts : List ℕ) (rows : List (List ℕ)) → AreAdded i parts 0 rows rows
none_added i parts rows = record {
  size = refl;
  kept = λ j k c. c;
  added = λ m low under. absurd (omega (arith, low));
  only = λ j k c. inl c;
}

-- where there is no such row
pub not_added : (at i : ℕ) (rows new : List (List ℕ)) → length rows ≤ at → new ≡ rows → AreAdded i (at ∷ []) 1 rows new
not_added at i rows new high same = rw same (record {
  size = refl;
  kept = λ j k c. c;
  added = λ m low under. absurd (beyond m low under);
  only = λ j k c. inl c;
})
  where
    beyond : (m : ℕ) → m < 1 → slice_index_or (at ∷ []) m 0 < length rows → ⊥
    beyond zero low under = omega (arith, under)
    beyond (suc m) low under = omega (arith, low)

-- the row has the reader behind what it had
pub one_added : (at i : ℕ) (rows new : List (List ℕ)) → at < length rows → new ≡ set rows at (row_of rows at ++ i ∷ []) → AreAdded i (at ∷ []) 1 rows new
one_added at i rows new low is = record {
  size = ap length is ∙ length-set rows at (row_of rows at ++ i ∷ []);
  kept = λ j k c. either (cases_eq j at)
      (λ e. subst (λ l. Contains l k) (sym (here j e)) (Contains-append_left (row_of rows at) (i ∷ []) k (subst (λ x. Contains (row_of rows x) k) e c)))
      (λ ne. subst (λ l. Contains l k) (sym (there j ne)) c);
  added = by_place;
  only = λ j k c. either (cases_eq j at)
      (λ e. either (Contains-push_cases (row_of rows at) i k (subst (λ l. Contains l k) (here j e) c))
      (λ was. inl (subst (λ x. Contains (row_of rows x) k) (sym e) was))
      (λ same. inr (sym same)))
      (λ ne. inl (subst (λ l. Contains l k) (there j ne) c));
}
  where
    here : (j : ℕ) → j ≡ at → row_of new j ≡ row_of rows at ++ i ∷ []
    here j e = ap (row_of new) e ∙ (ap (λ l. row_of l at) is ∙ get_or-set_same rows at (row_of rows at ++ i ∷ []) [] low)

    there : (j : ℕ) → (j ≡ at → ⊥) → row_of new j ≡ row_of rows j
    there j ne = ap (λ l. row_of l j) is ∙ get_or-set_other rows at j (row_of rows at ++ i ∷ []) [] ne

    by_place : (m : ℕ) → m < 1 → slice_index_or (at ∷ []) m 0 < length rows → Contains (row_of new (slice_index_or (at ∷ []) m 0)) i
    by_place zero lt under = subst (λ l. Contains l i) (sym (here at refl)) (Contains-push (row_of rows at) i)
    by_place (suc m) lt under = absurd (omega (arith, lt))

-- one that is parts more
pub added_more : (i : ℕ) (parts : List ℕ) (m at : ℕ) (old rows new : List (List ℕ)) → at ≡ slice_index_or parts m 0
    → AreAdded i parts m old rows → AreAdded i (at ∷ []) 1 rows new → AreAdded i parts (m + 1) old new
added_more i parts m at old rows new is a b = record {
  size = b.size ∙ a.size;
  kept = λ j k c. b.kept j k (a.kept j k c);
  added = λ n low under. either (cases_eq n m)
      (λ e.
      let same : slice_index_or parts n 0 ≡ at = ap (λ x. slice_index_or parts x 0) e ∙ sym is in
      let size = a.size in
      let inside : at < length rows = subst (λ x. x < length rows) same (subst (λ x. slice_index_or parts n 0 < x) (sym size) under) in
      subst (λ x. Contains (row_of new x) i) (sym same) (b.added 0 (omega arith) inside))
      (λ ne. b.kept (slice_index_or parts n 0) i (a.added n (omega arith) under));
  only = λ j k c. either (b.only j k c) (λ was. a.only j k was) (λ e. inr e);
}

pub no_rows_yet : (shapes : List Shape) (rows : List (List ℕ)) → length rows ≡ length shapes → ((j : ℕ) → row_of rows j ≡ []) → AreRows shapes 0 rows
no_rows_yet shapes rows size empty = record {
  size = size;
  within = λ j i c. absurd (let there = subst (λ l. Contains l i) (empty j) c in let low = there.1 in omega (arith, low));
  every = λ i j low under m. absurd (omega (arith, low));
}

-- one type more
pub rows_more : (shapes : List Shape) (i : ℕ) (x : Shape) (parts : List ℕ) (old new : List (List ℕ)) → slice_get shapes i ≡ Some x → parts ≡ x.parts
    → AreRows shapes i old → AreAdded i parts (length parts) old new → AreRows shapes (i + 1) new
rows_more shapes i x parts old new at are r a = record {
  size = a.size ∙ r.size;
  within = λ j k c. either (a.only j k c) (λ was. r.within j k was) (λ e. let low = slice_get_within shapes i x at in omega arith);
  every = λ k j low under m. either (cases_eq k i)
      (λ e.
      let same : m.0 ≡ x = same_some (sym m.1 ∙ (ap (slice_get shapes) e ∙ at)) in
      let c : Contains parts j = subst (λ (l : List ℕ). Contains l j) (ap (λ (y : Shape). y.parts) same ∙ sym are) m.2 in
      let size = r.size in
      let here : slice_index_or parts c.0 0 ≡ j = default_same parts c.0 0 j c.1 ∙ c.2 in
      subst (λ y. Contains (row_of new j) y) (sym e)
      (subst (λ y. Contains (row_of new y) i) here (a.added c.0 c.1 (subst (λ y. y < length old) (sym here) (subst (λ y. j < y) (sym size) under)))))
      (λ ne. a.kept j k (r.every k j (omega arith) under m));
}
  where
    default_same : (xs : List ℕ) (j d e : ℕ) → j < length xs → get_or xs j d ≡ get_or xs j e
    default_same [] j d e lt = absurd (omega (arith, lt))
    default_same (x ∷ xs) zero d e lt = refl
    default_same (x ∷ xs) (suc j) d e lt = default_same xs j d e (omega arith)

pub all_rows : (shapes : List Shape) (n : ℕ) (rows : List (List ℕ)) → n ≡ length shapes → AreRows shapes n rows → AreRows shapes (length shapes) rows
all_rows shapes n rows end r = subst (λ k. AreRows shapes k rows) end r

-- as a proposition
pub readers_so : (shapes : List Shape) (rows : List (List ℕ)) → AreRows shapes (length shapes) rows → AreReaders shapes rows
readers_so shapes rows r = record {
  size = r.size;
  within = r.within;
  every = λ i j low m. ∣ r.every i j (slice_get_within shapes i m.0 m.1) low m ∣₁;
}
