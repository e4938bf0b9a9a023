-- Rows of flags, one for each file.
use Rattle.std.proofs.Common.{◌≡◌, ℕ, zero, suc, ◌+◌, ◌<◌, ◌≤◌, Bool, false, List, [], ◌∷◌, ◌++◌, length, slice_get, slice_index_or, Option, Some, None, refl, sym, ap, ◌∙◌, subst, inl, inr, arith}
use Rattle.std.proofs.lemmas.List.{length_push}
use Rattle.std.specs.Global.{Vec}
use Rattle.std.specs.Option.{option_map_or}
use Rattle.gv_base.proofs.Lists.{push_cases}
use Rattle.vet_words.specs.InCode.{AreRowsOf}

pub rows_none : (given : ℕ → List Bool) (rows : List (Vec Bool)) → rows ≡ [] → AreRowsOf given rows 0
rows_none given rows bare = subst (λ (x : List (Vec Bool)). AreRowsOf given x 0) (sym bare) (record { size = refl; each = λ f row at. absurd cc })

pub rows_more : (given : ℕ → List Bool) (rows new : List (Vec Bool)) (k : ℕ) (row : Vec Bool) → AreRowsOf given rows k → row.items ≡ given k → new ≡ rows ++ (row ∷ []) → AreRowsOf given new (k + 1)
rows_more given rows new k row was is now = record {
  size = ap length now ∙ (length_push rows row ∙ ap (λ n. n + 1) was.size);
  each = λ f r r_at. elim (push_cases rows row r f (ap (λ (xs : List (Vec Bool)). slice_get xs f) (sym now) ∙ r_at)) [
    | inl before ↦ was.each f r before
    | inr (f_is, r_is) ↦
        let here : k ≡ f = sym (f_is ∙ was.size) in
        subst (λ (x : Vec Bool). x.items ≡ given f) r_is (subst (λ (n : ℕ). row.items ≡ given n) here is)
  ];
}

none_past : {X : Type 0} (xs : List X) (k : ℕ) → slice_get xs k ≡ None → length xs ≤ k
none_past [] k e = omega arith
none_past (x ∷ xs) zero e = absurd cc
none_past (x ∷ xs) (suc k) e = let h = none_past xs k e in omega arith

-- where there is no row there is no file, which has no nodes
pub flag_none : (given : ℕ → List Bool) (rows : List (Vec Bool)) (count f n : ℕ) → AreRowsOf given rows count → slice_get rows f ≡ None → (count ≤ f → given f ≡ []) → false ≡ slice_index_or (given f) n false
flag_none given rows count f n are none empty =
    let s = are.size in
    let past = none_past rows f none in
    ap (λ (l : List Bool). slice_index_or l n false) (sym (empty (omega arith)))
