-- What is left of a list from a place on.
use Rattle.std.proofs.Common.{◌≡◌, ℕ, ◌+◌, ◌≤◌, zero, suc, List, [], ◌∷◌, drop, length, slice_get, Some, refl, ap, arith}

pub dropped_at : {X : Type 0} (xs : List X) (i : ℕ) (x : X) → slice_get xs i ≡ Some x → drop i xs ≡ x ∷ drop (i + 1) xs
dropped_at [] i x is = absurd cc
dropped_at (y ∷ xs) zero x is = let same : y ≡ x = cc in ap (λ z. z ∷ xs) same
dropped_at (y ∷ xs) (suc i) x is = let e : suc i + 1 ≡ suc (i + 1) = omega arith in rw e (dropped_at xs i x is)

pub dropped_all : {X : Type 0} (xs : List X) (i : ℕ) → length xs ≤ i → drop i xs ≡ []
dropped_all [] zero low = refl
dropped_all [] (suc i) low = refl
dropped_all (x ∷ xs) zero low = absurd (omega arith)
dropped_all (x ∷ xs) (suc i) low = dropped_all xs i (omega arith)
