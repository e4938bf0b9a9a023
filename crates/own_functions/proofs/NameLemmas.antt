-- Names of functions and the places of names.
use Rattle.std.proofs.Common.{◌≡◌, ◌==◌, ◌&&◌, ℕ, zero, suc, ◌+◌, Bool, true, false, cond, List, [], ◌∷◌, map, Some, None, slice_get, refl, sym, ap, ◌∙◌, subst, arith, eqb→eq, T}
use Rattle.std.specs.Bool.{Decides}
use Rattle.std.specs.List.{position_from}
use Rattle.std.specs.Str.{bytes_eq}
use Rattle.std.proofs.lemmas.Slice.Eq.{bytes_eq-Decides}
use Rattle.go_tree.specs.Lexeme.{place_of}

and_cases : (a b : Bool) → (a && b) ≡ true → (a ≡ true) × (b ≡ true)
and_cases true true e = (refl, refl)
and_cases true false e = absurd (cc)
and_cases false b e = absurd (cc)

pub both_true : (a b : Bool) → (a && b) ≡ true → (a ≡ true) × (b ≡ true)
both_true a b e = and_cases a b e

pub same_bytes : (x y : List ℕ) → bytes_eq x y ≡ true → x ≡ y
same_bytes x y e = at (bytes_eq x y) (bytes_eq-Decides x y) e where
  at : (b : Bool) → Decides b (x ≡ y) → b ≡ true → x ≡ y
  at true d h = d.0 refl
  at false d h = absurd (cc)

pub bytes_same : (x : List ℕ) → bytes_eq x x ≡ true
bytes_same x = at (bytes_eq x x) (bytes_eq-Decides x x) where
  at : (b : Bool) → Decides b (x ≡ x) → b ≡ true
  at true d = refl
  at false d = d.1 refl

pub same_number : (a b : ℕ) → (a == b) ≡ true → a ≡ b
same_number a b e = eqb→eq a b (subst (λ (x : Bool). T x) (sym e) tt)

-- ---- the first place of a name

-- the name stands at the place, counted from some number on
record IsAt (xs : List (List ℕ)) (q : List ℕ) (start i : ℕ) : Type 0 where
  pub k : ℕ
  pub is : i ≡ start + k
  pub there : slice_get xs k ≡ Some q

at_from : (xs : List (List ℕ)) (q : List ℕ) (start i : ℕ) → position_from (λ x. bytes_eq x q) start xs ≡ Some i → IsAt xs q start i
at_from [] q start i e = absurd (cc)
at_from (x ∷ xs) q start i e = by (bytes_eq x q) refl (at_from xs q (start + 1) i) e where
  it : (a b : ℕ) → Some a ≡ Some b → a ≡ b
  it a b e = cc

  by : (b : Bool) → bytes_eq x q ≡ b → (position_from (λ y. bytes_eq y q) (start + 1) xs ≡ Some i → IsAt xs q (start + 1) i)
      → cond b (Some start) (position_from (λ y. bytes_eq y q) (start + 1) xs) ≡ Some i → IsAt (x ∷ xs) q start i
  by true same later found = record { k = 0; is = (let e : start ≡ i = it start i found in omega (arith, e)); there = ap (λ y. Some y) (same_bytes x q same) }
  by false other later found = (let r = later found in record { k = suc r.k; is = (let e = r.is in omega (arith, e)); there = r.there })

pub place_there : (xs : List (List ℕ)) (q : List ℕ) (i : ℕ) → place_of xs q ≡ Some i → slice_get xs i ≡ Some q
place_there xs q i e = let r = at_from xs q 0 i e in ap (λ k. slice_get xs k) (let e = r.is in omega (arith, e)) ∙ r.there

found_from : (xs : List (List ℕ)) (q : List ℕ) (start k : ℕ) → slice_get xs k ≡ Some q → position_from (λ x. bytes_eq x q) start xs ≡ None → ⊥
found_from [] q start k there none = cc
found_from (x ∷ xs) q start zero there none = by (bytes_eq x q) (ap (λ y. bytes_eq y q) (it x q there) ∙ bytes_same q) none where
  it : (a b : List ℕ) → Some a ≡ Some b → a ≡ b
  it a b e = cc

  by : (b : Bool) → b ≡ true → cond b (Some start) (position_from (λ y. bytes_eq y q) (start + 1) xs) ≡ None → ⊥
  by true same e = cc
  by false same e = cc
found_from (x ∷ xs) q start (suc k) there none = by (bytes_eq x q) (found_from xs q (start + 1) k there) none where
  by : (b : Bool) → (position_from (λ y. bytes_eq y q) (start + 1) xs ≡ None → ⊥) → cond b (Some start) (position_from (λ y. bytes_eq y q) (start + 1) xs) ≡ None → ⊥
  by true later e = cc
  by false later e = later e

-- a name that stands somewhere has a place
pub place_none : (xs : List (List ℕ)) (q : List ℕ) (k : ℕ) → place_of xs q ≡ None → slice_get xs k ≡ Some q → ⊥
place_none xs q k none there = found_from xs q 0 k there none

pub mapped_there : {X Y : Type 0} (g : X → Y) (xs : List X) (k : ℕ) (y : Y) → slice_get (map g xs) k ≡ Some y → (x : X) × (slice_get xs k ≡ Some x) × (g x ≡ y)
mapped_there g [] k y e = absurd (cc)
mapped_there {X} {Y} g (x ∷ xs) zero y e = (x, refl, it (g x) y e) where
  it : (a b : Y) → Some a ≡ Some b → a ≡ b
  it a b e = cc
mapped_there g (x ∷ xs) (suc k) y e = mapped_there g xs k y e

pub map_twice : {X Y Z : Type 0} (g : X → Y) (h : Y → Z) (xs : List X) → map h (map g xs) ≡ map (λ x. h (g x)) xs
map_twice g h [] = refl
map_twice g h (x ∷ xs) = ap (λ l. h (g x) ∷ l) (map_twice g h xs)
