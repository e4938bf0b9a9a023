-- Lists of types that are gone through side by side.
use Rattle.std.proofs.Common.{◌≡◌, ◌≢◌, ℕ, zero, suc, ◌+◌, ◌≤◌, Bool, true, false, ◌&&◌, List, [], ◌∷◌, length, drop, slice_get, Some, refl, sym, ap, ◌∙◌, subst, arith}
use Rattle.std.specs.List.{All}
use Rattle.std.proofs.lemmas.List.Elements.{All-tail}
use Rattle.type_model.specs.declared.term.TypeId.{TypeId}
use Rattle.type_model.specs.GoTypes.{GoType, type_at, types_at}
use Rattle.same_types.specs.Same.{same_type, same_types}

pub dropped_at : {X : Type 0} (xs : List X) (i : ℕ) (x : X) → slice_get xs i ≡ Some x → drop i xs ≡ x ∷ drop (i + 1) xs
dropped_at [] i x is = absurd cc
dropped_at (y ∷ xs) zero x is = let same : y ≡ x = cc in ap (λ z. z ∷ xs) same
dropped_at (y ∷ xs) (suc i) x is = let e : suc i + 1 ≡ suc (i + 1) = omega arith in rw e (dropped_at xs i x is)

pub dropped_all : {X : Type 0} (xs : List X) (i : ℕ) → length xs ≤ i → drop i xs ≡ []
dropped_all [] zero low = refl
dropped_all [] (suc i) low = refl
dropped_all (x ∷ xs) zero low = absurd (omega arith)
dropped_all (x ∷ xs) (suc i) low = dropped_all xs i (omega arith)

regrouped : (a b c : Bool) → ((a && b) && c) ≡ (a && (b && c))
regrouped true b c = refl
regrouped false b c = refl

and_true : (a : Bool) → (a && true) ≡ a
and_true true = refl
and_true false = refl

-- the types from this place on
abbrev pub left : List GoType → List TypeId → List TypeId → ℕ → Bool
left types a b i = same_types (types_at types (drop i a)) (types_at types (drop i b))

abbrev pub whole : List GoType → List TypeId → List TypeId → Bool
whole types a b = same_types (types_at types a) (types_at types b)

left_on : (types : List GoType) (a b : List TypeId) (i : ℕ) (x y : TypeId) → slice_get a i ≡ Some x → slice_get b i ≡ Some y
    → left types a b i ≡ (same_type (type_at types x) (type_at types y) && left types a b (i + 1))
left_on types a b i x y at beside =
    ap (λ (l : List TypeId). same_types (types_at types l) (types_at types (drop i b))) (dropped_at a i x at)
    ∙ ap (λ (l : List TypeId). same_types (types_at types (x ∷ drop (i + 1) a)) (types_at types l)) (dropped_at b i y beside)

pub same_on : (types : List GoType) (a b : List TypeId) (i : ℕ) (x y : TypeId) (before here next : Bool) → slice_get a i ≡ Some x → slice_get b i ≡ Some y
    → (before && left types a b i) ≡ whole types a b → here ≡ same_type (type_at types x) (type_at types y) → next ≡ (before && here)
    → (next && left types a b (i + 1)) ≡ whole types a b
same_on types a b i x y before here next at beside was is gives =
    ap (λ n. n && left types a b (i + 1)) (gives ∙ ap (λ h. before && h) is)
    ∙ regrouped before (same_type (type_at types x) (type_at types y)) (left types a b (i + 1))
    ∙ ap (λ l. before && l) (sym (left_on types a b i x y at beside))
    ∙ was

pub same_end : (types : List GoType) (a b : List TypeId) (i : ℕ) (found : Bool) → length a ≤ i → length b ≤ i → (found && left types a b i) ≡ whole types a b → found ≡ whole types a b
same_end types a b i found low its_low is =
    sym (and_true found)
    ∙ ap (λ l. found && l) (sym (ap (λ (l : List TypeId). same_types (types_at types l) (types_at types (drop i b))) (dropped_all a i low)
    ∙ ap (λ (l : List TypeId). same_types (types_at types []) (types_at types l)) (dropped_all b i its_low)))
    ∙ is

apart_rest : (x y : Bool) → y ≡ false → (x && y) ≡ false
apart_rest true y is = is
apart_rest false y is = refl

-- lists of different lengths
pub apart : (types : List GoType) (a b : List TypeId) → length a ≢ length b → whole types a b ≡ false
apart types [] [] differ = absurd (differ refl)
apart types [] (y ∷ b) differ = refl
apart types (x ∷ a) [] differ = refl
apart types (x ∷ a) (y ∷ b) differ =
    apart_rest (same_type (type_at types x) (type_at types y)) (whole types a b) (apart types a b (λ same. differ (ap suc same)))

-- what holds of all holds of each
pub below_at : {X : Type 0} (P : X → Type 0) (xs : List X) (i : ℕ) (x : X) → slice_get xs i ≡ Some x → All P xs → P x
below_at P [] i x is all = absurd cc
below_at P (y ∷ xs) zero x is all = let same : y ≡ x = cc in subst P same (all 0 y (omega arith))
below_at P (y ∷ xs) (suc i) x is all = below_at P xs i x is (All-tail P y xs all)
