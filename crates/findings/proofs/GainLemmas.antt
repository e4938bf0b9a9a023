-- What a list gains, step by step.
use Rattle.std.proofs.Common.{◌≡◌, Bool, true, false, ℕ, Option, Some, None, ◌+◌, ◌<◌, ◌⊎◌, ◌↔◌, List, [], ◌∷◌, ◌++◌, refl, sym, subst, inl, inr, arith}
use Rattle.std.specs.List.{Contains}
use Rattle.std.proofs.lemmas.Bool.{cases_eq}
use Rattle.std.proofs.lemmas.List.Elements.{Contains-append_left, Contains-append_right, Contains-append_cases, Contains-push, Contains-push_cases}
use Rattle.findings.specs.Gains.{Gains, SomeBelow, OfSome}

-- nothing is gained
pub gains_none : {A : Type 0} → (P : A → Type 0) (old new : List A) → new ≡ old → ((x : A) → P x → ⊥) → Gains P old new
gains_none {A} P old new is none = subst (λ (list : List A). Gains P old list) (sym is) record {
  all = λ x. (λ h. inl h, λ h. elim h [ inl before ↦ before | inr gained ↦ absurd (none x gained) ]);
}

-- one is gained
pub gains_push : {A : Type 0} → (P : A → Type 0) (old new : List A) (r : A) → new ≡ old ++ r ∷ [] → P r → ((x : A) → P x → x ≡ r) → Gains P old new
gains_push {A} P old new r is holds only = subst (λ (list : List A). Gains P old list) (sym is) record {
  all = λ x. (
    λ h. elim (Contains-push_cases old r x h) [ inl before ↦ inl before | inr same ↦ inr (subst P same holds) ],
    λ h. elim h [
      | inl before ↦ Contains-append_left old (r ∷ []) x before
      | inr gained ↦ subst (λ (y : A). Contains (old ++ r ∷ []) y) (sym (only x gained)) (Contains-push old r)
    ],
  );
}

-- the same by another name
pub gains_as : {A : Type 0} → (P Q : A → Type 0) (old new : List A) → Gains P old new → ((x : A) → P x ↔ Q x) → Gains Q old new
gains_as {A} P Q old new gains same = record {
  all = λ x. (
    λ h. elim ((gains.all x).0 h) [ inl before ↦ inl before | inr gained ↦ inr ((same x).0 gained) ],
    λ h. elim h [ inl before ↦ (gains.all x).1 (inl before) | inr gained ↦ (gains.all x).1 (inr ((same x).1 gained)) ],
  );
}

-- first these, then those
pub gains_then : {A : Type 0} → (P Q : A → Type 0) (first second third : List A) → Gains P first second → Gains Q second third → Gains (λ x. P x ⊎ Q x) first third
gains_then {A} P Q first second third one other = record {
  all = λ x. (
    λ h. elim ((other.all x).0 h) [
      | inl before ↦ elim ((one.all x).0 before) [ inl older ↦ inl older | inr gained ↦ inr (inl gained) ]
      | inr gained ↦ inr (inr gained)
    ],
    λ h. elim h [
      | inl before ↦ (other.all x).1 (inl ((one.all x).1 (inl before)))
      | inr gained ↦ elim gained [
        | inl a ↦ (other.all x).1 (inl ((one.all x).1 (inr a)))
        | inr b ↦ (other.all x).1 (inr b)
      ]
    ],
  );
}

pub below_none : {A : Type 0} → (Nth : ℕ → A → Type 0) (list : List A) → Gains (SomeBelow 0 Nth) list list
below_none {A} Nth list = gains_none (SomeBelow 0 Nth) list list refl (λ x (k, low, holds). absurd (omega arith))

-- one more
pub below_more : {A : Type 0} → (Nth : ℕ → A → Type 0) (k : ℕ) (start old new : List A) → Gains (SomeBelow k Nth) start old → Gains (Nth k) old new → Gains (SomeBelow (k + 1) Nth) start new
below_more {A} Nth k start old new before here =
    gains_as (λ x. SomeBelow k Nth x ⊎ Nth k x) (SomeBelow (k + 1) Nth) start new (gains_then (SomeBelow k Nth) (Nth k) start old new before here) (λ x. (
      λ h. elim h [ inl (j, low, holds) ↦ (j, omega arith, holds) | inr holds ↦ (k, omega arith, holds) ],
      λ (j, low, holds). elim (cases_eq j k) [
        | inl same ↦ inr (subst (λ n. Nth n x) same holds)
        | inr apart ↦ inl (j, omega arith, holds)
      ],
    ))

-- as many as there are
pub below_all : {A : Type 0} → (Nth : ℕ → A → Type 0) (k count : ℕ) (start new : List A) → k ≡ count → Gains (SomeBelow k Nth) start new → Gains (SomeBelow count Nth) start new
below_all {A} Nth k count start new same gains = subst (λ n. Gains (SomeBelow n Nth) start new) same gains

pub gains_some : {A : Type 0} → {X : Type 0} (o : Option X) (P : X → A → Type 0) (c : X) (old new : List A) → o ≡ Some c → Gains (P c) old new → Gains (OfSome o P) old new
gains_some {A} {X} o P c old new is gains = gains_as (P c) (OfSome o P) old new gains (λ x. (
  λ h. (c, is, h),
  λ (d, there, h). subst (λ (y : X). P y x) (same o d c there is) h,
)) where
  same : {X : Type 0} (o : Option X) (a b : X) → o ≡ Some a → o ≡ Some b → a ≡ b
  same o a b p q = cc

pub gains_nothing : {A : Type 0} → {X : Type 0} (o : Option X) (P : X → A → Type 0) (list : List A) → o ≡ None → Gains (OfSome o P) list list
gains_nothing {A} {X} o P list is = gains_none (OfSome o P) list list refl (λ x (c, there, h). differ o c is there) where
  differ : {X : Type 0} (o : Option X) (c : X) → o ≡ None → o ≡ Some c → ⊥
  differ o c p q = cc

-- what is given where a test holds
pub gains_if : {A : Type 0} → (b : Bool) (P : A → Type 0) (old new : List A) → b ≡ true → Gains P old new → Gains (λ x. (b ≡ true) × P x) old new
gains_if {A} b P old new held gains = gains_as P (λ x. (b ≡ true) × P x) old new gains (λ x. (λ h. (held, h), λ (e, h). h))

pub gains_unless : {A : Type 0} → (b : Bool) (P : A → Type 0) (list : List A) → b ≡ false → Gains (λ x. (b ≡ true) × P x) list list
gains_unless {A} b P list failed = gains_none (λ x. (b ≡ true) × P x) list list refl (λ x (e, h). differ b failed e) where
  differ : (b : Bool) → b ≡ false → b ≡ true → ⊥
  differ b p q = cc

-- what a list has
pub gains_list : {A : Type 0} → (more old new : List A) → new ≡ old ++ more → Gains (λ x. Contains more x) old new
gains_list {A} more old new is = subst (λ (list : List A). Gains (λ x. Contains more x) old list) (sym is) record {
  all = λ x. (
    λ h. Contains-append_cases old more x h,
    λ h. elim h [ inl before ↦ Contains-append_left old more x before | inr gained ↦ Contains-append_right old more x gained ],
  );
}
