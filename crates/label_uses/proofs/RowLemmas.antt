-- Rows, as they are gathered, and flags, as they are set.
use Rattle.std.proofs.Common.{◌≡◌, ℕ, zero, suc, ◌<◌, ◌+◌, ◌≤◌, ◌⊎◌, Bool, true, false, List, [], ◌∷◌, ◌++◌, length, set, get_or, slice_get, Some, refl, sym, ap, ◌∙◌, subst, inl, inr, arith, get_or-set_same, get_or-set_other}
use Rattle.std.proofs.Math.ListN.{length-set}
use Rattle.std.proofs.lemmas.Option.{slice_get_within}
use Rattle.label_uses.specs.Rows.{Appends, AreGathered, Sets}
use Rattle.label_uses.proofs.CaseLemmas.{nat_cases, before_or_at, before_or_not}
use Rattle.gv_base.proofs.Lists.{at_end, get_left, nothing_there, same_some}

get_cases : {A : Type 0} (xs : List A) (y a : A) (k : ℕ) → slice_get (xs ++ y ∷ []) k ≡ Some a → (slice_get xs k ≡ Some a) ⊎ ((k ≡ length xs) × (y ≡ a))
get_cases [] y a zero e = inr (refl, same_some (Some y) y a refl e)
get_cases [] y a (suc k) e = absurd (nothing_there a e)
get_cases (x ∷ xs) y a zero e = inl e
get_cases (x ∷ xs) y a (suc k) e = elim (get_cases xs y a k e) [ inl old ↦ inl old | inr this ↦ inr (ap (λ n. suc n) this.0, this.1) ]

-- where none has a name among the first few
pub gathered_none : {A : Type 0} (name : A → ℕ) (Is : A → Type 0) (Has : ℕ → Type 0) (i : ℕ) (rows : List A) → rows ≡ [] → ((n : ℕ) → n < i → Has n → ⊥) → AreGathered name Is Has i rows
gathered_none name Is Has i rows e none = subst (AreGathered name Is Has i) (sym e) (record {
  order = λ j k a b less at_j at_k. absurd (nothing_there a at_j);
  each = λ k a there. absurd (nothing_there a there);
  all = λ n low has. absurd (none n low has);
})

-- where none has one behind them
pub gathered_past : {A : Type 0} (name : A → ℕ) (Is : A → Type 0) (Has : ℕ → Type 0) (i j : ℕ) (rows : List A) → i ≤ j → ((n : ℕ) → i ≤ n → Has n → ⊥) → AreGathered name Is Has i rows → AreGathered name Is Has j rows
gathered_past name Is Has i j rows high none was = record {
  order = was.order;
  each = λ k a there. let o = was.each k a there in (o.0, let low = o.1 in omega arith);
  all = λ n low has. elim (before_or_not n i) [
    | inl before ↦ was.all n before has
    | inr past ↦ absurd (none n past has)
  ];
}

-- a row more, that of the next node
with_row : {A : Type 0} (name : A → ℕ) (Is : A → Type 0) (Has : ℕ → Type 0) (i : ℕ) (rows : List A) (y : A) → AreGathered name Is Has i rows → name y ≡ i → Is y → AreGathered name Is Has (i + 1) (rows ++ y ∷ [])
with_row {A} name Is Has i rows y was this is = record {
  order = λ j k a b less at_j at_k. elim (get_cases rows y b k at_k) [
    | inl old ↦ elim (get_cases rows y a j at_j) [
      | inl old_j ↦ was.order j k a b less old_j old
      | inr new_j ↦ absurd (let w = slice_get_within rows k b old in let e = new_j.0 in omega arith)
    ]
    | inr new ↦ elim (get_cases rows y a j at_j) [
      | inl old_j ↦ (let low = (was.each j a old_j).1 in let e : name y ≡ name b = ap name new.1 in omega arith)
      | inr new_j ↦ absurd (let e = new_j.0 in let f = new.0 in omega arith)
    ]
  ];
  each = λ k a there. elim (get_cases rows y a k there) [
    | inl old ↦ (let o = was.each k a old in (o.0, let low = o.1 in omega arith))
    | inr new ↦ (subst Is new.1 is, let e : name y ≡ name a = ap name new.1 in omega arith)
  ];
  all = λ n low has. elim (before_or_at n i low) [
    | inl before ↦ (let o = was.all n before has in (o.0, o.1, get_left rows (y ∷ []) o.0 o.1 o.2, o.3))
    | inr here ↦ (length rows, y, at_end rows y, this ∙ sym here)
  ];
}

-- none for the next node
without_row : {A : Type 0} (name : A → ℕ) (Is : A → Type 0) (Has : ℕ → Type 0) (i : ℕ) (rows : List A) → AreGathered name Is Has i rows → (Has i → ⊥) → AreGathered name Is Has (i + 1) rows
without_row name Is Has i rows was none = record {
  order = was.order;
  each = λ k a there. let o = was.each k a there in (o.0, let low = o.1 in omega arith);
  all = λ n low has. elim (before_or_at n i low) [
    | inl before ↦ was.all n before has
    | inr here ↦ absurd (none (subst Has here has))
  ];
}

pub gathered_more : {A : Type 0} (name : A → ℕ) (Is : A → Type 0) (Has : ℕ → Type 0) (i : ℕ) (old new : List A) → AreGathered name Is Has i old
    → Appends (λ a. (name a ≡ i) × Is a) (Has i → ⊥) old new → AreGathered name Is Has (i + 1) new
gathered_more name Is Has i old new was (inl (y, is, row)) = subst (AreGathered name Is Has (i + 1)) (sym is) (with_row name Is Has i old y was row.0 row.1)
gathered_more name Is Has i old new was (inr (is, none)) = subst (AreGathered name Is Has (i + 1)) (sym is) (without_row name Is Has i old was none)

-- ---- flags

pub set_one : (flags : List Bool) (n : ℕ) → n < length flags → Sets flags (set flags n true) n
set_one flags n low = record {
  size = length-set flags n true;
  sound = λ m h. elim (nat_cases m n) [
    | inl same ↦ inr (sym same)
    | inr other ↦ inl (sym (get_or-set_other flags n m true false other) ∙ h)
  ];
  kept = λ m h. elim (nat_cases m n) [
    | inl same ↦ ap (λ x. get_or (set flags n true) x false) same ∙ get_or-set_same flags n true false low
    | inr other ↦ get_or-set_other flags n m true false other ∙ h
  ];
  set = λ low2. get_or-set_same flags n true false low;
}

pub set_past : (flags : List Bool) (n : ℕ) → length flags ≤ n → Sets flags flags n
set_past flags n high = record { size = refl; sound = λ m h. inl h; kept = λ m h. h; set = λ low. absurd (omega arith) }
