-- A part of a list whose ends may lie past it.
use Rattle.std.proofs.Common.{◌≡◌, ℕ, zero, suc, ◌-◌, ◌≤◌, ◌<◌, ◌⊎◌, inl, inr, List, [], ◌∷◌, length, take, drop, refl, arith, ap, sym, ◌∙◌, min, subst}
use Rattle.std.proofs.Math.Nat.{min-eq_left, min-eq_right}
use Rattle.std.proofs.lemmas.Bool.{cases_lt}
use Rattle.std.proofs.lemmas.List.{drop_all, length-drop}

take_none : {A : Type 0} (n : ℕ) (ys : List A) → length ys ≡ 0 → take n ys ≡ []
take_none zero ys e = refl
take_none (suc n) [] e = refl
take_none (suc n) (y ∷ ys) e = absurd (omega arith)

take_past : {A : Type 0} (n m : ℕ) (xs : List A) → length xs ≤ n → length xs ≤ m → take n xs ≡ take m xs
take_past n m [] k l = take_none n [] refl ∙ sym (take_none m [] refl)
take_past zero m (x ∷ xs) k l = absurd (omega arith)
take_past (suc n) zero (x ∷ xs) k l = absurd (omega arith)
take_past (suc n) (suc m) (x ∷ xs) k l = ap (λ ys. x ∷ ys) (take_past n m xs (omega arith) (omega arith))

take_zero : {A : Type 0} (n : ℕ) (xs : List A) → n ≡ 0 → take n xs ≡ []
take_zero zero xs e = refl
take_zero (suc n) xs e = absurd (omega arith)

pub clamped : {A : Type 0} (xs : List A) (a b s e : ℕ) → e ≡ min b (length xs) → s ≡ min a e → take (e - s) (drop s xs) ≡ take (b - a) (drop a xs)
clamped {A = A} xs a b s e p q = go (cases_lt b (length xs))
  where
    none : (n : ℕ) (ys : List A) → ys ≡ [] → take n ys ≡ []
    none n ys z = take_none n ys (ap length z)

    low : b ≤ length xs → e ≡ b → (a < b) ⊎ (b ≤ a) → take (e - s) (drop s xs) ≡ take (b - a) (drop a xs)
    low l z (inl m) =
        let y : s ≡ a = q ∙ ap (min a) z ∙ min-eq_left (let w : a ≤ b = omega arith in w) in
        ap (λ v. take (v - s) (drop s xs)) z ∙ ap (λ v. take (b - v) (drop v xs)) y
    low l z (inr m) =
        let y : s ≡ b = q ∙ ap (min a) z ∙ min-eq_right m in
        take_zero (e - s) (drop s xs) (omega arith) ∙ sym (take_zero (b - a) (drop a xs) (omega arith))

    high : length xs ≤ b → e ≡ length xs → (a < length xs) ⊎ (length xs ≤ a) → take (e - s) (drop s xs) ≡ take (b - a) (drop a xs)
    high l z (inl m) =
        let y : s ≡ a = q ∙ ap (min a) z ∙ min-eq_left (let w : a ≤ length xs = omega arith in w) in
        let d = length-drop a xs in
        ap (λ v. take (v - s) (drop s xs)) z ∙ ap (λ v. take (length xs - v) (drop v xs)) y ∙ take_past (length xs - a) (b - a) (drop a xs) (omega (arith, d)) (omega (arith, d))
    high l z (inr m) =
        let y : s ≡ length xs = q ∙ ap (min a) z ∙ min-eq_right m in
        take_zero (e - s) (drop s xs) (omega arith) ∙ sym (none (b - a) (drop a xs) (drop_all a xs m))

    go : (b < length xs) ⊎ (length xs ≤ b) → take (e - s) (drop s xs) ≡ take (b - a) (drop a xs)
    go (inl l) = let w : b ≤ length xs = omega arith in low w (p ∙ min-eq_left w) (cases_lt a b)
    go (inr l) = high l (p ∙ min-eq_right l) (cases_lt a (length xs))
