-- Lists that are gone through item by item.
use Rattle.std.proofs.Common.{◌≡◌, ℕ, ◌+◌, ◌<◌, ◌≤◌, zero, suc, List, [], ◌∷◌, ◌++◌, map, take, drop, length, slice_get, Some, refl, sym, ap, ◌∙◌, subst, append_assoc, arith}
use Rattle.std.specs.List.{All}
use Rattle.std.proofs.lemmas.List.Elements.{All-tail, All-weaker}
use Rattle.type_model.specs.declared.term.TypeId.{TypeId}
use Rattle.type_model.specs.GoTypes.{AreBelow}

pub nil_last : {X : Type 0} (xs : List X) → xs ++ [] ≡ xs
nil_last [] = refl
nil_last (x ∷ xs) = ap (λ l. x ∷ l) (nil_last xs)

-- one item more
pub taken_more : {X : Type 0} (xs : List X) (i : ℕ) (x : X) → slice_get xs i ≡ Some x → take (i + 1) xs ≡ take i xs ++ x ∷ []
taken_more [] i x is = absurd cc
taken_more (y ∷ xs) zero x is = let same : y ≡ x = cc in ap (λ z. z ∷ []) same
taken_more (y ∷ xs) (suc i) x is = let e : suc i + 1 ≡ suc (i + 1) = omega arith in rw e (ap (λ l. y ∷ l) (taken_more xs i x is))

-- all of them
pub taken_all : {X : Type 0} (xs : List X) (i : ℕ) → length xs ≤ i → take i xs ≡ xs
taken_all [] zero low = refl
taken_all [] (suc i) low = refl
taken_all (x ∷ xs) zero low = absurd (omega arith)
taken_all (x ∷ xs) (suc i) low = ap (λ l. x ∷ l) (taken_all xs i (omega arith))

-- what is left
pub dropped_at : {X : Type 0} (xs : List X) (i : ℕ) (x : X) → slice_get xs i ≡ Some x → drop i xs ≡ x ∷ drop (i + 1) xs
dropped_at [] i x is = absurd cc
dropped_at (y ∷ xs) zero x is = let same : y ≡ x = cc in ap (λ z. z ∷ xs) same
dropped_at (y ∷ xs) (suc i) x is = let e : suc i + 1 ≡ suc (i + 1) = omega arith in rw e (dropped_at xs i x is)

pub dropped_all : {X : Type 0} (xs : List X) (i : ℕ) → length xs ≤ i → drop i xs ≡ []
dropped_all [] zero low = refl
dropped_all [] (suc i) low = refl
dropped_all (x ∷ xs) zero low = absurd (omega arith)
dropped_all (x ∷ xs) (suc i) low = dropped_all xs i (omega arith)

pub map_last : {X Y : Type 0} (f : X → Y) (xs : List X) (x : X) → map f (xs ++ x ∷ []) ≡ map f xs ++ f x ∷ []
map_last f [] x = refl
map_last f (y ∷ xs) x = ap (λ l. f y ∷ l) (map_last f xs x)

-- one item more of those that are taken over
pub mapped_on : {X Y : Type 0} (f : X → Y) (xs : List X) (i : ℕ) (x : X) (old mid new : List Y) → slice_get xs i ≡ Some x
    → mid ≡ old ++ map f (take i xs) → new ≡ mid ++ f x ∷ [] → new ≡ old ++ map f (take (i + 1) xs)
mapped_on f xs i x old mid new at was is =
    is ∙ ap (λ l. l ++ f x ∷ []) was ∙ append_assoc old (map f (take i xs)) (f x ∷ [])
    ∙ ap (λ l. old ++ l) (sym (map_last f (take i xs) x) ∙ ap (λ l. map f l) (sym (taken_more xs i x at)))

pub mapped_all : {X Y : Type 0} (f : X → Y) (xs : List X) (i : ℕ) (old new : List Y) → length xs ≤ i → new ≡ old ++ map f (take i xs) → new ≡ old ++ map f xs
mapped_all f xs i old new low is = is ∙ ap (λ l. old ++ map f l) (taken_all xs i low)

-- what holds of all holds of each
pub all_at : {X : Type 0} (P : X → Type 0) (xs : List X) (i : ℕ) (x : X) → slice_get xs i ≡ Some x → All P xs → P x
all_at P [] i x is all = absurd cc
all_at P (y ∷ xs) zero x is all = let same : y ≡ x = cc in subst P same (all 0 y (omega arith))
all_at P (y ∷ xs) (suc i) x is all = all_at P xs i x is (All-tail P y xs all)

pub below_weaker : (n count : ℕ) (ids : List TypeId) → n ≤ count → AreBelow n ids → AreBelow count ids
below_weaker n count ids more below = All-weaker (λ (x : TypeId). x.0 < n) (λ (x : TypeId). x.0 < count) (λ x low. omega arith) ids below
