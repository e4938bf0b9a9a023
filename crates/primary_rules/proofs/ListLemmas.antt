-- Lists from one of their items on.
use Rattle.std.proofs.Common.{◌≡◌, ℕ, zero, suc, ◌+◌, ◌≤◌, ◌||◌, Bool, true, false, List, [], ◌∷◌, drop, length, map, slice_get, Option, Some, None, option_map, refl, sym, ap, ◌∙◌, arith}
use Rattle.std.specs.List.{list_any}

pub drop_at : {X : Type 0} (list : List X) (i : ℕ) (x : X) → slice_get list i ≡ Some x → drop i list ≡ x ∷ drop (i + 1) list
drop_at [] i x is = absurd cc
drop_at (y ∷ list) zero x is = let same : y ≡ x = cc in ap (λ z. z ∷ list) same
drop_at (y ∷ list) (suc i) x is = let e : suc i + 1 ≡ suc (i + 1) = omega arith in rw e (drop_at list i x is)

pub drop_end : {X : Type 0} (list : List X) (i : ℕ) → length list ≤ i → drop i list ≡ []
drop_end [] zero low = refl
drop_end [] (suc i) low = refl
drop_end (x ∷ xs) zero low = absurd (omega arith)
drop_end (x ∷ xs) (suc i) low = drop_end xs i (omega arith)

-- ---- whether an item passes a test

any_at : {X Y : Type 0} (p : Y → Bool) (v : X → Y) (xs : List X) (i : ℕ) (b : Bool) → option_map (λ x. p (v x)) (slice_get xs i) ≡ Some b
    → list_any p (map v (drop i xs)) ≡ (b || list_any p (map v (drop (i + 1) xs)))
any_at p v [] i b is = absurd cc
any_at p v (x ∷ xs) zero b is = let same : p (v x) ≡ b = cc in ap (λ c. c || list_any p (map v xs)) same
any_at p v (x ∷ xs) (suc i) b is = let e : suc i + 1 ≡ suc (i + 1) = omega arith in rw e (any_at p v xs i b is)

pub any_here : {X Y : Type 0} (p : Y → Bool) (v : X → Y) (xs : List X) (i : ℕ) → option_map (λ x. p (v x)) (slice_get xs i) ≡ Some true → list_any p (map v (drop i xs)) ≡ true
any_here p v xs i is = any_at p v xs i true is

pub any_next : {X Y : Type 0} (p : Y → Bool) (v : X → Y) (xs : List X) (i : ℕ) → option_map (λ x. p (v x)) (slice_get xs i) ≡ Some false
    → list_any p (map v (drop i xs)) ≡ list_any p (map v (drop (i + 1) xs))
any_next p v xs i is = any_at p v xs i false is

pub any_end : {X Y : Type 0} (p : Y → Bool) (v : X → Y) (xs : List X) (i : ℕ) → length xs ≤ i → list_any p (map v (drop i xs)) ≡ false
any_end p v xs i low = ap (λ l. list_any p (map v l)) (drop_end xs i low)
