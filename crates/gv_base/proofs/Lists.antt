-- Lists by their places: fronts, ends, one item more, one item set, each item mapped.
use Rattle.std.proofs.Common.{ℕ, zero, suc, ◌+◌, ◌<◌, ◌≡◌, ◌⊎◌, inl, inr, List, [], ◌∷◌, ◌++◌, length, map, slice_get, get_or, set, Option, None, Some, refl, sym, ap, ◌∙◌, arith}
use Rattle.std.proofs.lemmas.Option.{slice_get-get_or, slice_get_within}

-- one place has one item
pub same_some : {X : Type 0} (o : Option X) (x y : X) → o ≡ Some x → o ≡ Some y → x ≡ y
same_some o x y p q = cc

pub some_once : {X : Type 0} {x y : X} → Some x ≡ Some y → x ≡ y
some_once e = cc

pub nothing_there : {X : Type 0} (x : X) → None ≡ Some x → ⊥
nothing_there x e = cc

-- below n + 1 is below n, or n
pub split : (k n : ℕ) → k < n + 1 → (k < n) ⊎ (k ≡ n)
split k n low = grind arith

-- ---- items

pub got : {X : Type 0} (xs : List X) (k : ℕ) → k < length xs → (x : X) × (slice_get xs k ≡ Some x)
got [] k low = absurd (omega arith)
got (x ∷ xs) zero low = (x, refl)
got (x ∷ xs) (suc k) low = got xs k (omega arith)

-- the item of a loop over a list
pub item_is : {X : Type 0} (xs : List X) (k : ℕ) (x : X) → k < length xs → x ≡ get_or xs k x → slice_get xs k ≡ Some x
item_is xs k x low is = slice_get-get_or xs k x low ∙ ap Some (sym is)

-- two lists of one length with the same items in their places are one
pub same_list : {X : Type 0} (xs ys : List X) → length xs ≡ length ys → ((k : ℕ) (x : X) → slice_get xs k ≡ Some x → slice_get ys k ≡ Some x) → xs ≡ ys
same_list [] [] e h = refl
same_list [] (y ∷ ys) e h = absurd (omega (arith, e))
same_list (x ∷ xs) [] e h = absurd (omega (arith, e))
same_list (x ∷ xs) (y ∷ ys) e h =
    let f : Some y ≡ Some x = h 0 x refl in
    let g : x ≡ y = cc in
    let r : xs ≡ ys = same_list xs ys (omega (arith, e)) (λ k z at. h (suc k) z at) in
    cc

-- ---- more items

pub get_left : {X : Type 0} (xs ys : List X) (k : ℕ) (x : X) → slice_get xs k ≡ Some x → slice_get (xs ++ ys) k ≡ Some x
get_left [] ys k x is = absurd (cc)
get_left (y ∷ xs) ys zero x is = is
get_left (y ∷ xs) ys (suc k) x is = get_left xs ys k x is

pub push_left : {X : Type 0} (xs : List X) (x y : X) (k : ℕ) → slice_get xs k ≡ Some y → slice_get (xs ++ x ∷ []) k ≡ Some y
push_left xs x y k is = get_left xs (x ∷ []) k y is

pub get_front : {X : Type 0} (xs : List X) (y : X) (k : ℕ) → k < length xs → slice_get (xs ++ y ∷ []) k ≡ slice_get xs k
get_front [] y k low = absurd (omega arith)
get_front (x ∷ xs) y zero low = refl
get_front (x ∷ xs) y (suc k) low = get_front xs y k (omega arith)

pub at_end : {X : Type 0} (xs : List X) (x : X) → slice_get (xs ++ x ∷ []) (length xs) ≡ Some x
at_end [] x = refl
at_end (y ∷ xs) x = at_end xs x

pub get_last : {X : Type 0} (xs : List X) (x : X) (k : ℕ) → k ≡ length xs → slice_get (xs ++ x ∷ []) k ≡ Some x
get_last xs x k is = ap (slice_get (xs ++ x ∷ [])) is ∙ at_end xs x

-- what stands in a list with one item more
pub push_cases : {X : Type 0} (xs : List X) (x y : X) (k : ℕ) → slice_get (xs ++ x ∷ []) k ≡ Some y → (slice_get xs k ≡ Some y) ⊎ ((k ≡ length xs) × (x ≡ y))
push_cases [] x y zero e = inr (refl, same_some (Some x) x y refl e)
push_cases [] x y (suc k) e = absurd (cc)
push_cases (z ∷ zs) x y zero e = inl e
push_cases (z ∷ zs) x y (suc k) e = elim (push_cases zs x y k e) [
  | inl old ↦ inl old
  | inr now ↦ inr (ap suc now.0, now.1)
]

-- ---- one item set

pub get_set_same : {X : Type 0} (xs : List X) (k : ℕ) (x : X) → k < length xs → slice_get (set xs k x) k ≡ Some x
get_set_same [] k x low = absurd (omega arith)
get_set_same (y ∷ xs) zero x low = refl
get_set_same (y ∷ xs) (suc k) x low = get_set_same xs k x (omega arith)

pub get_set_other : {X : Type 0} (xs : List X) (k m : ℕ) (x : X) → (m ≡ k → ⊥) → slice_get (set xs k x) m ≡ slice_get xs m
get_set_other [] zero m x apart = refl
get_set_other [] (suc k) m x apart = refl
get_set_other (y ∷ xs) zero zero x apart = absurd (apart refl)
get_set_other (y ∷ xs) zero (suc m) x apart = refl
get_set_other (y ∷ xs) (suc k) zero x apart = refl
get_set_other (y ∷ xs) (suc k) (suc m) x apart = get_set_other xs k m x (λ e. apart (ap suc e))

pub set_cases : {X : Type 0} (xs : List X) (l : ℕ) (x : X) (k : ℕ) (y : X) → slice_get (set xs l x) k ≡ Some y → ((k ≡ l → ⊥) × (slice_get xs k ≡ Some y)) ⊎ ((k ≡ l) × (x ≡ y))
set_cases [] l x k y e = absurd (cc)
set_cases (z ∷ xs) zero x zero y e = inr (refl, same_some (Some x) x y refl e)
set_cases (z ∷ xs) zero x (suc k) y e = inl ((λ q. absurd (omega (arith, q))), e)
set_cases (z ∷ xs) (suc l) x zero y e = inl ((λ q. absurd (omega (arith, q))), e)
set_cases (z ∷ xs) (suc l) x (suc k) y e = elim (set_cases xs l x k y e) [
  | inl old ↦ inl ((λ q. old.0 (omega (arith, q))), old.1)
  | inr now ↦ inr (ap suc now.0, now.1)
]

-- ---- each item mapped

pub get_map : {X Y : Type 0} (f : X → Y) (xs : List X) (k : ℕ) (x : X) → slice_get xs k ≡ Some x → slice_get (map f xs) k ≡ Some (f x)
get_map f [] k x e = absurd (cc)
get_map f (y ∷ ys) zero x e = let g : y ≡ x = same_some (Some y) y x refl e in ap (λ t. Some (f t)) g
get_map f (y ∷ ys) (suc k) x e = get_map f ys k x e

pub map_get : {X Y : Type 0} (f : X → Y) (xs : List X) (k : ℕ) (y : Y) → slice_get (map f xs) k ≡ Some y → (x : X) × (slice_get xs k ≡ Some x) × (f x ≡ y)
map_get f [] k y e = absurd (cc)
map_get f (x ∷ xs) zero y e = (x, refl, same_some (Some (f x)) (f x) y refl e)
map_get f (x ∷ xs) (suc k) y e = map_get f xs k y e
