-- Lists and what stands in them.
use Rattle.std.proofs.Common.{◌≡◌, ℕ, zero, suc, ◌+◌, ◌<◌, ◌⊎◌, Bool, true, false, cond, List, [], ◌∷◌, ◌++◌, length, slice_get, get_or, Option, Some, None, refl, ap, ◌∙◌, subst, inl, inr, arith}
use Rattle.std.specs.List.{position_from}
use Rattle.std.specs.List.{Contains}
use Rattle.std.proofs.lemmas.Option.{slice_get_within, slice_get-get_or, get_or_from_slice_get}

pub same_some : {X : Type 0} (o : Option X) (a b : X) → o ≡ Some a → o ≡ Some b → a ≡ b
same_some o a b p q = cc

pub push_cases : {X : Type 0} (xs : List X) (y z : X) (o : ℕ) → slice_get (xs ++ y ∷ []) o ≡ Some z → (slice_get xs o ≡ Some z) ⊎ ((o ≡ length xs) × (z ≡ y))
push_cases [] y z zero h = inr (refl, cc)
push_cases [] y z (suc o) h = absurd cc
push_cases (x ∷ xs) y z zero h = inl h
push_cases (x ∷ xs) y z (suc o) h = elim (push_cases xs y z o h) [
  | inl before ↦ inl before
  | inr (at, is) ↦ inr (ap (λ (n : ℕ). suc n) at, is)
]

pub there : {X : Type 0} (xs : List X) (i : ℕ) → i < length xs → (x : X) × (slice_get xs i ≡ Some x)
there [] i h = absurd (omega arith)
there (y ∷ ys) i h = (get_or (y ∷ ys) i y, slice_get-get_or (y ∷ ys) i y h)

-- what a list contains stands somewhere
pub stands_in : {X : Type 0} (xs : List X) (x : X) → Contains xs x → (i : ℕ) × (slice_get xs i ≡ Some x)
stands_in xs x (k, low, e) = (k, slice_get-get_or xs k x low ∙ ap Some e)

pub contains_at : {X : Type 0} (xs : List X) (i : ℕ) (x : X) → slice_get xs i ≡ Some x → Contains xs x
contains_at xs i x h = (i, slice_get_within xs i x h, get_or_from_slice_get xs i x x h)

-- ---- the first that passes a test

-- the place found is the first
pub record IsFirst {X : Type 0} (test : X → Bool) (i : ℕ) (xs : List X) (k : ℕ) : Type 0 where
  pub at : ℕ
  pub place : k ≡ i + at
  pub item : X
  pub there : slice_get xs at ≡ Some item
  pub passes : test item ≡ true
  pub first : (j : ℕ) (y : X) → j < at → slice_get xs j ≡ Some y → test y ≡ false

pub first_is : {X : Type 0} (test : X → Bool) (i : ℕ) (xs : List X) (k : ℕ) → position_from test i xs ≡ Some k → IsFirst test i xs k
first_is test i [] k h = absurd cc
first_is {X} test i (x ∷ xs) k h = by (test x) refl (λ e. first_is test (i + 1) xs k e) h where
  later : test x ≡ false → IsFirst test (i + 1) xs k → IsFirst test i (x ∷ xs) k
  later not r =
      let place = r.place in
      record {
        at = suc r.at;
        place = omega arith;
        item = r.item;
        there = r.there;
        passes = r.passes;
        first = λ j. elim j as (λ (n : ℕ). (y : X) → n < suc r.at → slice_get (x ∷ xs) n ≡ Some y → test y ≡ false) [
          | zero ↦ λ y low e. let same : x ≡ y = cc in subst (λ (z : X). test z ≡ false) same not
          | suc n ↦ λ y low e. r.first n y (omega arith) e
        ];
      }

  by : (b : Bool) → test x ≡ b → (position_from test (i + 1) xs ≡ Some k → IsFirst test (i + 1) xs k) → cond b (Some i) (position_from test (i + 1) xs) ≡ Some k → IsFirst test i (x ∷ xs) k
  by true is rest e =
      let same : i ≡ k = cc in
      record { at = 0; place = omega arith; item = x; there = refl; passes = is; first = λ j y low e. absurd (omega arith) }
  by false is rest e = later is (rest e)

pub none_is : {X : Type 0} (test : X → Bool) (i : ℕ) (xs : List X) → position_from test i xs ≡ None → (j : ℕ) (y : X) → slice_get xs j ≡ Some y → test y ≡ false
none_is test i [] h j y e = absurd cc
none_is {X} test i (x ∷ xs) h j y e = by (test x) refl (λ none n there. none_is test (i + 1) xs none n y there) h j e where
  by : (b : Bool) → test x ≡ b → (position_from test (i + 1) xs ≡ None → (j : ℕ) → slice_get xs j ≡ Some y → test y ≡ false)
      → cond b (Some i) (position_from test (i + 1) xs) ≡ None → (j : ℕ) → slice_get (x ∷ xs) j ≡ Some y → test y ≡ false
  by true is rest e j there = absurd cc
  by false is rest e zero there = let same : x ≡ y = cc in subst (λ (z : X). test z ≡ false) same is
  by false is rest e (suc n) there = rest e n there
