-- Sums over lists that change at one place.
use Rattle.std.proofs.Common.{◌≡◌, ℕ, zero, suc, ◌+◌, ◌≤◌, List, [], ◌∷◌, ◌++◌, map, length, set, sym, refl, ap, ⊎_elim, arith}
use mathlib.Core.Option.{some, some-injective, some-ne-none}
use lib.ListN.{get_elem?}
use Rattle.wave_run.specs.Numbers.{total, below, Among}

module _ {A : Type 0} (g : A → ℕ) where
  pub total-append : (l m : List A) → total g (l ++ m) ≡ total g l + total g m
  total-append [] m = omega arith
  total-append (x ∷ xs) m = omega (arith, total-append xs m)

  pub total-set : (l : List A) (j : ℕ) (v w : A) → get_elem? l j ≡ some v → total g (set l j w) + g v ≡ total g l + g w
  total-set [] j v w e = absurd (some-ne-none v (sym e))
  total-set (x ∷ xs) zero v w e = omega (arith, ap g (some-injective x v e))
  total-set (x ∷ xs) (suc j) v w e = omega (arith, total-set xs j v w e)

  pub term_le : (l : List A) (j : ℕ) (v : A) → get_elem? l j ≡ some v → g v ≤ total g l
  term_le [] j v e = absurd (some-ne-none v (sym e))
  term_le (x ∷ xs) zero v e = omega (arith, ap g (some-injective x v e))
  term_le (x ∷ xs) (suc j) v e = omega (arith, term_le xs j v e)

  pub among_le : (l : List A) (v : A) → Among v l → g v ≤ total g l
  among_le [] v has = absurd has
  among_le (x ∷ xs) v has = ⊎_elim (λ (e : v ≡ x). omega (arith, ap g e)) (λ (r : Among v xs). omega (arith, among_le xs v r)) has

  pub total-map : {B : Type 0} (f : B → A) (l : List B) → total g (map f l) ≡ total (λ b. g (f b)) l
  total-map f [] = refl
  total-map f (x ∷ xs) = omega (arith, total-map f xs)

-- where one item has all of the weight h, and what has none of it has none of g, it has all of g
module _ {A : Type 0} (h g : A → ℕ) where
  pub silent : (l : List A) → ((k : ℕ) (u : A) → get_elem? l k ≡ some u → h u ≡ 0 → g u ≡ 0) → total h l ≡ 0 → total g l ≡ 0
  silent [] idle none = refl
  silent (x ∷ xs) idle none =
      let here : g x ≡ 0 = idle 0 x refl (omega arith) in
      let there : total g xs ≡ 0 = silent xs (λ k. idle (suc k)) (omega arith) in omega arith

  pub alone : (l : List A) (j : ℕ) (v : A) → ((k : ℕ) (u : A) → get_elem? l k ≡ some u → h u ≡ 0 → g u ≡ 0) → get_elem? l j ≡ some v → total h l ≡ h v → total g l ≡ g v
  alone [] j v idle e all = absurd (some-ne-none v (sym e))
  alone (x ∷ xs) zero v idle e all =
      let same = some-injective x v e in
      let there : total g xs ≡ 0 = silent xs (λ k. idle (suc k)) (omega (arith, ap h same)) in omega (arith, ap g same)
  alone (x ∷ xs) (suc j) v idle e all =
      let part = term_le h xs j v e in
      let here : g x ≡ 0 = idle 0 x refl (omega arith) in
      let there : total g xs ≡ g v = alone xs j v (λ k. idle (suc k)) e (omega arith) in omega arith

pub below_more : (f : ℕ → ℕ) (n : ℕ) → below f (n + 1) ≡ below f n + f n
below_more f n = let e : n + 1 ≡ suc n = omega arith in ap (below f) e

pub below_ones : (n : ℕ) → below (λ _. 1) n ≡ n
below_ones zero = refl
below_ones (suc n) = omega (arith, below_ones n)

pub lengths : {A : Type 0} (l : List A) → length l ≡ total (λ _. 1) l
lengths [] = refl
lengths (x ∷ xs) = omega (arith, lengths xs)
