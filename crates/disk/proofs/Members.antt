-- Members of lists, and what tests of two Bools say.
use Rattle.std.proofs.Common.{◌≡◌, ◌⊎◌, inl, inr, ℕ, List, [], ◌∷◌, ◌++◌, Bool, true, false, ◌&&◌, not, bytes_eq, refl, ap, sym, ◌∙◌}
use Rattle.std.proofs.lemmas.Slice.Eq.{bytes_eq-Decides}
use Rattle.disk.specs.Folders.{Has}

pub has-left : {X : Type 0} (xs ys : List X) (x : X) → Has xs x → Has (xs ++ ys) x
has-left [] ys x h = absurd h
has-left (y ∷ xs) ys x h = elim h [ inl e ↦ inl e | inr k ↦ inr (has-left xs ys x k) ]

pub has-right : {X : Type 0} (xs ys : List X) (x : X) → Has ys x → Has (xs ++ ys) x
has-right [] ys x h = h
has-right (y ∷ xs) ys x h = inr (has-right xs ys x h)

pub has-cases : {X : Type 0} (xs ys : List X) (x : X) → Has (xs ++ ys) x → Has xs x ⊎ Has ys x
has-cases [] ys x h = inr h
has-cases {X} (y ∷ xs) ys x h = elim h [ inl e ↦ inl (inl e) | inr k ↦ further (has-cases xs ys x k) ]
  where
    further : Has xs x ⊎ Has ys x → Has (y ∷ xs) x ⊎ Has ys x
    further (inl a) = inl (inr a)
    further (inr b) = inr b

pub and-true : (a b : Bool) → a ≡ true → b ≡ true → (a && b) ≡ true
and-true true b e f = f
and-true false b e f = e

pub and-first : (a b : Bool) → (a && b) ≡ true → a ≡ true
and-first true b e = refl
and-first false b e = e

pub and-second : (a b : Bool) → (a && b) ≡ true → b ≡ true
and-second true b e = e
and-second false b e = absurd (let f : ◌≡◌ {A = Bool} false true = e in cc)

-- two texts are one, or they aren't
pub one-or_two : (q p : List ℕ) (b : Bool) → bytes_eq q p ≡ b → (q ≡ p) ⊎ (q ≡ p → ⊥)
one-or_two q p true e = inl ((bytes_eq-Decides q p).0 e)
one-or_two q p false e = inr (λ s. let t : bytes_eq q p ≡ true = (bytes_eq-Decides q p).1 s in let f : ◌≡◌ {A = Bool} false true = sym e ∙ t in cc)

pub not-same : (q p : List ℕ) (b : Bool) → bytes_eq q p ≡ b → (q ≡ p → ⊥) → not b ≡ true
not-same q p true e n = absurd (n ((bytes_eq-Decides q p).0 e))
not-same q p false e n = refl

pub same-not : (q p : List ℕ) → not (bytes_eq q p) ≡ true → q ≡ p → ⊥
same-not q p h s = let t : bytes_eq q p ≡ true = (bytes_eq-Decides q p).1 s in let f : ◌≡◌ {A = Bool} false true = sym (ap not t) ∙ h in cc
