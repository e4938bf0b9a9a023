-- Lists from one of their items on, and what stands in them.
use Rattle.std.proofs.Common.{◌≡◌, ℕ, zero, suc, ◌+◌, ◌<◌, ◌≤◌, List, [], ◌∷◌, drop, length, slice_get, Option, Some, None, refl, sym, ap, arith}

pub drop_at : {X : Type 0} (list : List X) (i : ℕ) (x : X) → slice_get list i ≡ Some x → drop i list ≡ x ∷ drop (i + 1) list
drop_at [] i x is = absurd cc
drop_at (y ∷ list) zero x is = let same : y ≡ x = cc in ap (λ z. z ∷ list) same
drop_at (y ∷ list) (suc i) x is = let e : suc i + 1 ≡ suc (i + 1) = omega arith in rw e (drop_at list i x is)

pub drop_end : {X : Type 0} (list : List X) (i : ℕ) → length list ≤ i → drop i list ≡ []
drop_end [] zero low = refl
drop_end [] (suc i) low = refl
drop_end (x ∷ xs) zero low = absurd (omega arith)
drop_end (x ∷ xs) (suc i) low = drop_end xs i (omega arith)

pub none_past : {X : Type 0} (xs : List X) (k : ℕ) → slice_get xs k ≡ None → length xs ≤ k
none_past [] k e = omega arith
none_past (x ∷ xs) zero e = absurd cc
none_past (x ∷ xs) (suc k) e = let h = none_past xs k e in omega arith

pub got : {X : Type 0} (xs : List X) (k : ℕ) → k < length xs → (x : X) × (slice_get xs k ≡ Some x)
got [] k low = absurd (omega arith)
got (x ∷ xs) zero low = (x, refl)
got (x ∷ xs) (suc k) low = got xs k (omega arith)
