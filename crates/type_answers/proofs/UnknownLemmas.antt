-- Methods that are gone through one after the other.
use Rattle.std.proofs.Common.{◌≡◌, ℕ, zero, suc, ◌+◌, ◌≤◌, nat_eq, Bool, true, false, List, [], ◌∷◌, drop, length, map, slice_get, Option, Some, None, option_map, refl, ap, ◌∙◌, arith}
use Rattle.std.specs.Option.{option_or}
use Rattle.std.proofs.lemmas.Bool.Decides.{Decides-eqb}
use Rattle.type_model.specs.declared.term.TypeId.{TypeId}
use Rattle.type_model.specs.GoTypes.{GoType, types_at}
use Rattle.type_answers.specs.Unknown.{first_told, are_none}

first_at : {X Y Z : Type 0} (f : Y → Option Z) (v : X → Y) (xs : List X) (i : ℕ) (o : Option Z) → option_map (λ x. f (v x)) (slice_get xs i) ≡ Some o
    → first_told f (map v (drop i xs)) ≡ option_or o (first_told f (map v (drop (i + 1) xs)))
first_at f v [] i o is = absurd cc
first_at f v (x ∷ xs) zero o is = let same : f (v x) ≡ o = cc in ap (λ p. option_or p (first_told f (map v xs))) same
first_at f v (x ∷ xs) (suc i) o is = let e : suc i + 1 ≡ suc (i + 1) = omega arith in rw e (first_at f v xs i o is)

pub first_here : {X Y Z : Type 0} (f : Y → Option Z) (v : X → Y) (xs : List X) (i : ℕ) (o : Option Z) (z : Z) → option_map (λ x. f (v x)) (slice_get xs i) ≡ Some o → o ≡ Some z
    → first_told f (map v (drop i xs)) ≡ Some z
first_here f v xs i o z is some = first_at f v xs i o is ∙ ap (λ p. option_or p (first_told f (map v (drop (i + 1) xs)))) some

pub first_next : {X Y Z : Type 0} (f : Y → Option Z) (v : X → Y) (xs : List X) (i : ℕ) (o : Option Z) → option_map (λ x. f (v x)) (slice_get xs i) ≡ Some o → o ≡ None
    → first_told f (map v (drop i xs)) ≡ first_told f (map v (drop (i + 1) xs))
first_next f v xs i o is none = first_at f v xs i o is ∙ ap (λ p. option_or p (first_told f (map v (drop (i + 1) xs)))) none

drop_end : {X : Type 0} (list : List X) (i : ℕ) → length list ≤ i → drop i list ≡ []
drop_end [] zero low = refl
drop_end [] (suc i) low = refl
drop_end (x ∷ xs) zero low = absurd (omega arith)
drop_end (x ∷ xs) (suc i) low = drop_end xs i (omega arith)

pub first_end : {X Y Z : Type 0} (f : Y → Option Z) (v : X → Y) (xs : List X) (i : ℕ) → length xs ≤ i → first_told f (map v (drop i xs)) ≡ None
first_end f v xs i low = ap (λ l. first_told f (map v l)) (drop_end xs i low)

-- ---- no types

refuted : (b : Bool) → (b ≡ true → ⊥) → b ≡ false
refuted true h = absurd (h refl)
refuted false h = refl

no_zero : (n : ℕ) → suc n ≡ zero → ⊥
no_zero n is = absurd cc

pub none_at : (types : List GoType) (ids : List TypeId) → nat_eq (length ids) 0 ≡ are_none (types_at types ids)
none_at types [] = refl
none_at types (id ∷ ids) = refuted _ (λ same. no_zero (length ids) ((Decides-eqb (length (id ∷ ids)) 0).0 same))
