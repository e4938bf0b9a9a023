-- Two lists in strict order with the same members are one.
use Rattle.std.proofs.Common.{◌≡◌, ◌⊎◌, inl, inr, ◌<◌, ℕ, zero, suc, List, [], ◌∷◌, length, get_or, refl, sym, ap, ◌∙◌, arith}
use Rattle.std.specs.List.{Contains}
use Rattle.std.specs.List.Sorted.{IsStrictlySortedBy}
use Rattle.std.specs.Cmp.{IsTotalOrder}
use Rattle.std.specs.Ordering.{ordering_reverse}
use Rattle.std.specs.declared.cmp.Ordering.{Ordering}
use Rattle.std.specs.declared.cmp.Ordering.TheVariants.{Less, Equal}
use Rattle.std.proofs.lemmas.Cmp.{tied_itself}
use Rattle.std.proofs.lemmas.List.Elements.{All-contains, All-from_recursion}
use Rattle.analysis_core.specs.FoundOrder.{AreInOrder}

either : {A B C : Type 0} → A ⊎ B → (A → C) → (B → C) → C
either (inl a) f g = f a
either (inr b) f g = g b

first_or_later : {K : Type 0} (y : K) (ys : List K) (d : K) → Contains (y ∷ ys) d → (y ≡ d) ⊎ Contains ys d
first_or_later y ys d c = at y ys d c.0 c.1 c.2
  where
    at : {K : Type 0} (y : K) (ys : List K) (d : K) (k : ℕ) → k < length (y ∷ ys) → get_or (y ∷ ys) k d ≡ d → (y ≡ d) ⊎ Contains ys d
    at y ys d zero lt e = inl e
    at y ys d (suc k) lt e = inr (k, omega arith, e)

is_first : {K : Type 0} (y : K) (ys : List K) → Contains (y ∷ ys) y
is_first y ys = (0, omega arith, refl)

is_later : {K : Type 0} (y : K) (ys : List K) (d : K) → Contains ys d → Contains (y ∷ ys) d
is_later y ys d c = (suc c.0, omega (arith, c.1), c.2)

-- what comes behind the first
behind : {K : Type 0} (R : K → K → Ordering) (x : K) (xs : List K) → IsStrictlySortedBy R (x ∷ xs) → (d : K) → Contains xs d → R x d ≡ Less
unfolding IsStrictlySortedBy
behind R x xs s d c = All-contains (λ y. R x y ≡ Less) xs d (All-from_recursion _ _ s.0) c

rest_sorted : {K : Type 0} (R : K → K → Ordering) (x : K) (xs : List K) → IsStrictlySortedBy R (x ∷ xs) → IsStrictlySortedBy R xs
unfolding IsStrictlySortedBy
rest_sorted R x xs s = s.1

not_both : {K : Type 0} {R : K → K → Ordering} (o : IsTotalOrder R) (x y : K) → R x y ≡ Less → R y x ≡ Less → ⊥
not_both o x y a b = let turned = o.antisymm x y in let is : ordering_reverse Less ≡ Less = ap ordering_reverse (sym b) ∙ (sym turned ∙ a) in absurd cc

not_itself : {K : Type 0} {R : K → K → Ordering} (o : IsTotalOrder R) (x d : K) → R x d ≡ Less → x ≡ d → ⊥
not_itself {R = R} o x d less same = let is : Less ≡ Equal = sym less ∙ (ap (R x) (sym same) ∙ tied_itself o x) in absurd cc

pub one_sorted : {K : Type 0} {R : K → K → Ordering} (o : IsTotalOrder R) (xs ys : List K) → IsStrictlySortedBy R xs → IsStrictlySortedBy R ys
    → ((d : K) → Contains xs d → Contains ys d) → ((d : K) → Contains ys d → Contains xs d) → xs ≡ ys
one_sorted o [] [] s t to back = refl
one_sorted o [] (y ∷ ys) s t to back = absurd (omega (arith, (back y (is_first y ys)).1))
one_sorted o (x ∷ xs) [] s t to back = absurd (omega (arith, (to x (is_first x xs)).1))
one_sorted {R = R} o (x ∷ xs) (y ∷ ys) s t to back =
    let same : x ≡ y = either (first_or_later y ys x (to x (is_first x xs))) (λ e. sym e)
    (λ later. either (first_or_later x xs y (back y (is_first y ys))) (λ e. e)
    (λ late. absurd (not_both o x y (behind R x xs s y late) (behind R y ys t x later)))) in
    let rest : xs ≡ ys = one_sorted o xs ys (rest_sorted R x xs s) (rest_sorted R y ys t)
    (λ d c. either (first_or_later y ys d (to d (is_later x xs d c)))
    (λ e. absurd (not_itself o x d (behind R x xs s d c) (same ∙ e))) (λ there. there))
    (λ d c. either (first_or_later x xs d (back d (is_later y ys d c)))
    (λ e. absurd (not_itself o y d (behind R y ys t d c) (sym same ∙ e))) (λ there. there)) in
    ap (λ h. h ∷ xs) same ∙ ap (λ l. y ∷ l) rest

pub one_in_order : {K : Type 0} {R : K → K → Ordering} (o : IsTotalOrder R) (P : K → Type 0) (xs ys : List K) → AreInOrder R P xs → AreInOrder R P ys → xs ≡ ys
one_in_order o P xs ys a b = one_sorted o xs ys a.rises b.rises (λ d c. b.every d (a.each d c)) (λ d c. a.every d (b.each d c))
