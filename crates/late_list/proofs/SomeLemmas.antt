-- What a list gains from some things in turn.
use Rattle.std.proofs.Common.{◌≡◌, ℕ, ◌<◌, ◌≤◌, ◌+◌, ◌⊎◌, ◌↔◌, List, [], ◌∷◌, ◌++◌, take, length, get_or, refl, sym, subst, inl, inr, arith}
use Rattle.std.specs.List.{Contains}
use Rattle.std.proofs.lemmas.List.{take_more, take_all}
use Rattle.std.proofs.lemmas.List.Elements.{Contains-append_left, Contains-push, Contains-push_cases}
use Rattle.late_list.specs.declared.late.LateFault.{LateFault}
use Rattle.late_list.specs.Gains.{Gains}
use Rattle.late_list.specs.Collected.{SomeOf}
use Rattle.late_list.proofs.GainLemmas.{gains_none, gains_as, gains_then}

pub some_none : {X : Type 0} (P : X → LateFault → Type 0) (list : List LateFault) → Gains (SomeOf [] P) list list
some_none P list = gains_none (SomeOf [] P) list list refl (λ x (c, (k, low, e), holds). absurd (omega arith))

pub some_more : {X : Type 0} (xs : List X) (P : X → LateFault → Type 0) (i : ℕ) (d : X) (start old new : List LateFault) → i < length xs
    → Gains (SomeOf (take i xs) P) start old → Gains (P (get_or xs i d)) old new → Gains (SomeOf (take (i + 1) xs) P) start new
some_more {X} xs P i d start old new low before here =
    subst (λ (front : List X). Gains (SomeOf front P) start new) (sym (take_more xs i d low))
    (gains_as (λ x. SomeOf (take i xs) P x ⊎ P (get_or xs i d) x) (SomeOf (take i xs ++ get_or xs i d ∷ []) P) start new
    (gains_then (SomeOf (take i xs) P) (P (get_or xs i d)) start old new before here) (λ x. (
      λ h. elim h [
        | inl (c, has, holds) ↦ (c, Contains-append_left (take i xs) (get_or xs i d ∷ []) c has, holds)
        | inr holds ↦ (get_or xs i d, Contains-push (take i xs) (get_or xs i d), holds)
      ],
      λ (c, has, holds). elim (Contains-push_cases (take i xs) (get_or xs i d) c has) [
        | inl earlier ↦ inl (c, earlier, holds)
        | inr same ↦ inr (subst (λ y. P y x) (sym same) holds)
      ],
    )))

pub some_all : {X : Type 0} (xs : List X) (P : X → LateFault → Type 0) (i : ℕ) (start new : List LateFault) → length xs ≤ i
    → Gains (SomeOf (take i xs) P) start new → Gains (SomeOf xs P) start new
some_all {X} xs P i start new past gains = subst (λ (front : List X). Gains (SomeOf front P) start new) (take_all i xs past) gains

-- what an empty list gained is all that it has
pub all_gained : (P : LateFault → Type 0) (old new : List LateFault) → old ≡ [] → Gains P old new → (x : LateFault) → Contains new x ↔ P x
all_gained P old new none gains x = (
  λ h. elim ((gains.all x).0 h) [
    | inl before ↦ absurd (let (k, low, e) = subst (λ (xs : List LateFault). Contains xs x) none before in omega (arith, low))
    | inr gained ↦ gained
  ],
  λ h. (gains.all x).1 (inr h),
)

-- the same of a thing that is told to stand there
pub some_more_at : {X : Type 0} (xs : List X) (P : X → LateFault → Type 0) (i : ℕ) (y : X) (start old new : List LateFault) → i < length xs → y ≡ get_or xs i y
    → Gains (SomeOf (take i xs) P) start old → Gains (P y) old new → Gains (SomeOf (take (i + 1) xs) P) start new
some_more_at {X} xs P i y start old new low is before here = some_more xs P i y start old new low before (subst (λ (z : X). Gains (P z) old new) is here)
