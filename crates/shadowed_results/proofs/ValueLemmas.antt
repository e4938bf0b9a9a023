-- A value for each number, one more at a time.
use Rattle.std.proofs.Common.{◌≡◌, ℕ, zero, suc, ◌<◌, ◌+◌, Bool, false, List, [], ◌∷◌, ◌++◌, length, get_or, refl, sym, ap, ◌∙◌, subst, inl, inr, arith}
use Rattle.node_values.proofs.CaseLemmas.{before_or_at}
use Rattle.shadowed_results.specs.InCode.{AreValues}

kept : (xs : List Bool) (y d : Bool) (k : ℕ) → k < length xs → get_or (xs ++ y ∷ []) k d ≡ get_or xs k d
kept [] y d k low = absurd (omega arith)
kept (x ∷ xs) y d zero low = refl
kept (x ∷ xs) y d (suc k) low = kept xs y d k (omega arith)

pushed : (xs : List Bool) (y d : Bool) → get_or (xs ++ y ∷ []) (length xs) d ≡ y
pushed [] y d = refl
pushed (x ∷ xs) y d = pushed xs y d

longer : (xs : List Bool) (y : Bool) → length (xs ++ y ∷ []) ≡ length xs + 1
longer [] y = refl
longer (x ∷ xs) y = let e = longer xs y in omega arith

pub no_values : (value : ℕ → Bool) (found : List Bool) → found ≡ [] → AreValues value 0 found
no_values value found is = subst (λ (l : List Bool). AreValues value 0 l) (sym is) record { size = refl; each = λ n low. absurd (omega arith) }

pub value_more : (value : ℕ → Bool) (v : Bool) (n : ℕ) (old new : List Bool) → new ≡ old ++ v ∷ [] → v ≡ value n → AreValues value n old → AreValues value (n + 1) new
value_more value v n old new is told was = subst (λ (l : List Bool). AreValues value (n + 1) l) (sym is) record {
  size = longer old v ∙ (let s = was.size in omega arith);
  each = λ m less. elim (before_or_at m n less) [
    | inl before ↦ kept old v false m (let s = was.size in omega arith) ∙ was.each m before
    | inr same ↦ ap (λ k. get_or (old ++ v ∷ []) k false) (same ∙ sym was.size) ∙ (pushed old v false ∙ (told ∙ ap value (sym same)))
  ];
}

pub value_all : (value : ℕ → Bool) (n count : ℕ) (found : List Bool) → n ≡ count → AreValues value n found → AreValues value count found
value_all value n count found same are = subst (λ k. AreValues value k found) same are
