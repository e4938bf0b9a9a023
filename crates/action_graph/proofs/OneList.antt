-- Lists in a strict order: such a list is the only one with its members.
use Rattle.std.proofs.Common.{◌≡◌, ℕ, zero, suc, ◌+◌, ◌<◌, ◌↔◌, List, [], ◌∷◌, Some, slice_get, Contains, refl, ap, sym, ◌∙◌, subst, arith}
use Rattle.std.proofs.lemmas.Option.{slice_get_within, slice_get-get_or, get_or_from_slice_get}

pub record IsStrict {X : Type 0} (Before : X → X → Type 0) : Type 0 where
  pub trans : (a b c : X) → Before a b → Before b c → Before a c
  pub itself : (a : X) → Before a a → ⊥

-- each comes before the next
abbrev pub InOrder : {X : Type 0} → (X → X → Type 0) → List X → Type 0
InOrder {X} Before list = (k : ℕ) (a b : X) → slice_get list k ≡ Some a → slice_get list (k + 1) ≡ Some b → Before a b

-- the list has the item
abbrev Has : {X : Type 0} → List X → X → Type 0
Has xs y = (k : ℕ) × (slice_get xs k ≡ Some y)

ordered-tail : {X : Type 0} (Before : X → X → Type 0) (x : X) (xs : List X) → InOrder Before (x ∷ xs) → InOrder Before xs
ordered-tail Before x xs ordered k a b at next =
    let e : suc k + 1 ≡ suc (k + 1) = omega arith in
    ordered (suc k) a b at (ap (λ n. slice_get (x ∷ xs) n) e ∙ next)

-- the first comes before all others
first-before : {X : Type 0} (Before : X → X → Type 0) (strict : IsStrict Before) (xs : List X) (x y : X) (k : ℕ) → InOrder Before (x ∷ xs) → slice_get xs k ≡ Some y → Before x y
first-before Before strict [] x y k ordered at = absurd (let lt : k < 0 = slice_get_within [] k y at in omega (arith, lt))
first-before Before strict (z ∷ zs) x y zero ordered at = ordered 0 x y refl at
first-before Before strict (z ∷ zs) x y (suc k) ordered at =
    strict.trans x z y (ordered 0 x z refl refl) (first-before Before strict zs z y k (ordered-tail Before x (z ∷ zs) ordered) at)

some-inj : {X : Type 0} {a b : X} → Some a ≡ Some b → a ≡ b
some-inj e = cc

-- two ordered lists with the same members begin alike
same-first : {X : Type 0} (Before : X → X → Type 0) (strict : IsStrict Before) (x y : X) (xs ys : List X) → InOrder Before (x ∷ xs) → InOrder Before (y ∷ ys) → Has (y ∷ ys) x → Has (x ∷ xs) y → x ≡ y
same-first Before strict x y xs ys one other (zero, at) there = sym (some-inj at)
same-first Before strict x y xs ys one other (suc k, at) (zero, found) = some-inj found
same-first Before strict x y xs ys one other (suc k, at) (suc j, found) =
    absurd (strict.itself x (strict.trans x y x (first-before Before strict xs x y j one found) (first-before Before strict ys y x k other at)))

-- and have the same members behind the first
same-rest : {X : Type 0} (Before : X → X → Type 0) (strict : IsStrict Before) (x : X) (xs ys : List X) → InOrder Before (x ∷ xs) → ((z : X) → Has (x ∷ xs) z → Has (x ∷ ys) z) → (z : X) → Has xs z → Has ys z
same-rest Before strict x xs ys ordered into z (k, at) = behind (into z (suc k, at))
  where
    behind : Has (x ∷ ys) z → Has ys z
    behind (suc j, found) = (j, found)
    behind (zero, found) = absurd (strict.itself x (subst (Before x) (sym (some-inj found)) (first-before Before strict xs x z k ordered at)))

none-there : {X : Type 0} (y : X) (had : Has [] y) → ⊥
none-there y (k, at) = let lt : k < 0 = slice_get_within [] k y at in omega (arith, lt)

one-list : {X : Type 0} (Before : X → X → Type 0) (strict : IsStrict Before) (xs ys : List X) → InOrder Before xs → InOrder Before ys → ((z : X) → Has xs z → Has ys z) → ((z : X) → Has ys z → Has xs z) → xs ≡ ys
one-list Before strict [] [] one other to from = refl
one-list Before strict [] (y ∷ ys) one other to from = absurd (none-there y (from y (0, refl)))
one-list Before strict (x ∷ xs) [] one other to from = absurd (none-there x (to x (0, refl)))
one-list {X} Before strict (x ∷ xs) (y ∷ ys) one other to from = alike (same-first Before strict x y xs ys one other (to x (0, refl)) (from y (0, refl)))
    (λ e. let to' : (z : X) → Has (x ∷ xs) z → Has (x ∷ ys) z = subst (λ f. (z : X) → Has (x ∷ xs) z → Has (f ∷ ys) z) (sym e) to in
    let from' : (z : X) → Has (x ∷ ys) z → Has (x ∷ xs) z = subst (λ f. (z : X) → Has (f ∷ ys) z → Has (x ∷ xs) z) (sym e) from in
    let other' : InOrder Before (x ∷ ys) = subst (λ f. InOrder Before (f ∷ ys)) (sym e) other in
    one-list Before strict xs ys (ordered-tail Before x xs one) (ordered-tail Before y ys other) (same-rest Before strict x xs ys one to') (same-rest Before strict x ys xs other' from'))
  where
    alike : x ≡ y → (x ≡ y → xs ≡ ys) → (x ∷ xs) ≡ (y ∷ ys)
    alike e rest = ap (λ f. f ∷ xs) e ∙ ap (λ l. y ∷ l) (rest e)

has-contained : {X : Type 0} (xs : List X) (y : X) → Contains xs y → Has xs y
has-contained xs y in_list = (in_list.0, slice_get-get_or xs in_list.0 y in_list.1 ∙ ap Some in_list.2)

pub contained-had : {X : Type 0} (xs : List X) (y : X) (k : ℕ) → slice_get xs k ≡ Some y → Contains xs y
contained-had xs y k at = (k, slice_get_within xs k y at, get_or_from_slice_get xs k y y at)

-- two ordered lists that have what passes are one
pub same-list : {X : Type 0} (Before : X → X → Type 0) (strict : IsStrict Before) (P : X → Type 0) (xs ys : List X) → InOrder Before xs → InOrder Before ys
    → ((x : X) → Contains xs x ↔ P x) → ((x : X) → Contains ys x ↔ P x) → xs ≡ ys
same-list Before strict P xs ys one other is are = one-list Before strict xs ys one other
    (λ z had. has-contained ys z ((are z).1 ((is z).0 (contained-had xs z had.0 had.1))))
    (λ z had. has-contained xs z ((is z).1 ((are z).0 (contained-had ys z had.0 had.1))))
