-- What is picked from a list keeps its order.
use Rattle.std.proofs.Common.{◌≡◌, ℕ, zero, suc, ◌<◌, ◌⊎◌, List, [], ◌∷◌, slice_get, Option, Some, None, refl, ap, ◌∙◌, subst, inl, inr, arith}
use Rattle.std.specs.List.{filter_map, cons_option}
use Rattle.gv_base.proofs.Lists.{same_some}

no_item : {X : Type 0} (k : ℕ) (x : X) → slice_get [] k ≡ Some x → ⊥
no_item k x e = cc

shift : {Y : Type 0} (o : Option Y) → ℕ → ℕ
shift None k = k
shift (Some x) k = suc k

at_shift : {Y : Type 0} (o : Option Y) (ys : List Y) (k : ℕ) (y : Y) → slice_get ys k ≡ Some y → slice_get (cons_option o ys) (shift o k) ≡ Some y
unfolding shift
at_shift None ys k y is = is
at_shift (Some x) ys k y is = is

shift_more : {Y : Type 0} (o : Option Y) (j k : ℕ) → j < k → shift o j < shift o k
unfolding shift
shift_more None j k less = less
shift_more (Some x) j k less = omega arith

shift_past : {Y : Type 0} (o : Option Y) (y : Y) (k : ℕ) → o ≡ Some y → 0 < shift o k
unfolding shift
shift_past None y k e = absurd (cc)
shift_past (Some x) y k e = omega arith

first_here : {Y : Type 0} (o : Option Y) (ys : List Y) (y : Y) → o ≡ Some y → slice_get (cons_option o ys) 0 ≡ Some y
first_here None ys y e = absurd (cc)
first_here (Some x) ys y e = e

-- an item of the longer list is the new one or an old one
back : {Y : Type 0} (o : Option Y) (ys : List Y) (k : ℕ) (y : Y) → slice_get (cons_option o ys) k ≡ Some y → ((o ≡ Some y) × (k ≡ 0)) ⊎ ((j : ℕ) × (k ≡ shift o j) × (slice_get ys j ≡ Some y))
unfolding shift
back None ys k y is = inr (k, refl, is)
back (Some x) ys zero y is = inl (is, refl)
back (Some x) ys (suc k) y is = inr (k, refl, is)

shift_back : {Y : Type 0} (o : Option Y) (j k : ℕ) → shift o j < shift o k → j < k
unfolding shift
shift_back None j k less = less
shift_back (Some x) j k less = omega arith

module _ {X Y : Type 0} (f : X → Option Y) where
  -- what stands in the list was picked
  pub picked_from : (xs : List X) (k : ℕ) (y : Y) → slice_get (filter_map f xs) k ≡ Some y → (j : ℕ) × (x : X) × (slice_get xs j ≡ Some x) × (f x ≡ Some y)
  picked_from [] k y is = absurd (no_item k y is)
  picked_from (x ∷ xs) k y is = elim (back (f x) (filter_map f xs) k y is) [
    | inl here ↦ (0, x, refl, here.0)
    | inr old ↦ (let (j, z, at, picks) = picked_from xs old.0 y old.2 in (suc j, z, at, picks))
  ]

  -- what is picked stands in the list
  pub picked_at : (xs : List X) (j : ℕ) (x : X) (y : Y) → slice_get xs j ≡ Some x → f x ≡ Some y → (k : ℕ) × (slice_get (filter_map f xs) k ≡ Some y)
  picked_at [] j x y at picks = absurd (no_item j x at)
  picked_at (z ∷ xs) zero x y at picks = (0, first_here (f z) (filter_map f xs) y (ap f (same_some (Some z) z x refl at) ∙ picks))
  picked_at (z ∷ xs) (suc j) x y at picks = let (k, is) = picked_at xs j x y at picks in (shift (f z) k, at_shift (f z) (filter_map f xs) k y is)

  -- of two items the earlier is picked earlier
  pub picked_pair : (xs : List X) (i j : ℕ) (x z : X) (y w : Y) → i < j → slice_get xs i ≡ Some x → slice_get xs j ≡ Some z → f x ≡ Some y → f z ≡ Some w
      → (a : ℕ) × (b : ℕ) × (a < b) × (slice_get (filter_map f xs) a ≡ Some y) × (slice_get (filter_map f xs) b ≡ Some w)
  picked_pair [] i j x z y w less at_i at_j picks_x picks_z = absurd (no_item i x at_i)
  picked_pair (v ∷ xs) zero zero x z y w less at_i at_j picks_x picks_z = absurd (omega arith)
  picked_pair (v ∷ xs) (suc i) zero x z y w less at_i at_j picks_x picks_z = absurd (omega arith)
  picked_pair (v ∷ xs) zero (suc j) x z y w less at_i at_j picks_x picks_z =
      let here : f v ≡ Some y = ap f (same_some (Some v) v x refl at_i) ∙ picks_x in
      let (b, is) = picked_at xs j z w at_j picks_z in
      (0, shift (f v) b, shift_past (f v) y b here, first_here (f v) (filter_map f xs) y here, at_shift (f v) (filter_map f xs) b w is)
  picked_pair (v ∷ xs) (suc i) (suc j) x z y w less at_i at_j picks_x picks_z =
      let (a, b, low, is_a, is_b) = picked_pair xs i j x z y w (omega arith) at_i at_j picks_x picks_z in
      (shift (f v) a, shift (f v) b, shift_more (f v) a b low, at_shift (f v) (filter_map f xs) a y is_a, at_shift (f v) (filter_map f xs) b w is_b)

  -- of two that were picked the earlier comes from an earlier item
  pub picked_apart : (xs : List X) (a b : ℕ) (y w : Y) → a < b → slice_get (filter_map f xs) a ≡ Some y → slice_get (filter_map f xs) b ≡ Some w
      → (i : ℕ) × (j : ℕ) × (x : X) × (z : X) × (i < j) × (slice_get xs i ≡ Some x) × (slice_get xs j ≡ Some z) × (f x ≡ Some y) × (f z ≡ Some w)
  picked_apart [] a b y w less at_a at_b = absurd (no_item a y at_a)
  picked_apart (v ∷ xs) a b y w less at_a at_b =
      from (λ (d c : ℕ) low old_a old. picked_apart xs d c y w low old_a old) (back (f v) (filter_map f xs) a y at_a) (back (f v) (filter_map f xs) b w at_b) where
        from : ((d c : ℕ) → d < c → slice_get (filter_map f xs) d ≡ Some y → slice_get (filter_map f xs) c ≡ Some w
            → (i : ℕ) × (j : ℕ) × (x : X) × (z : X) × (i < j) × (slice_get xs i ≡ Some x) × (slice_get xs j ≡ Some z) × (f x ≡ Some y) × (f z ≡ Some w))
            → ((f v ≡ Some y) × (a ≡ 0)) ⊎ ((j : ℕ) × (a ≡ shift (f v) j) × (slice_get (filter_map f xs) j ≡ Some y))
            → ((f v ≡ Some w) × (b ≡ 0)) ⊎ ((j : ℕ) × (b ≡ shift (f v) j) × (slice_get (filter_map f xs) j ≡ Some w))
            → (i : ℕ) × (j : ℕ) × (x : X) × (z : X) × (i < j) × (slice_get (v ∷ xs) i ≡ Some x) × (slice_get (v ∷ xs) j ≡ Some z) × (f x ≡ Some y) × (f z ≡ Some w)
        from rest one (inl (here, at)) = absurd (omega (arith, at, less))
        from rest (inl (here, at)) (inr (c, is, old)) =
            let (j, z, at_z, picks) = picked_from xs c w old in (0, suc j, v, z, omega arith, refl, at_z, here, picks)
        from rest (inr (d, is_a, old_a)) (inr (c, is, old)) =
            let low : d < c = shift_back (f v) d c (let p : shift (f v) d < shift (f v) c = subst (λ (n : ℕ). n < shift (f v) c) is_a (subst (λ (n : ℕ). a < n) is less) in p) in
            let (i, j, x, z, under, at_x, at_z, picks_x, picks_z) = rest d c low old_a old in (suc i, suc j, x, z, omega arith, at_x, at_z, picks_x, picks_z)
