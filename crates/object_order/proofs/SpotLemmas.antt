-- Spots and their keys, places in lists.
use Rattle.std.proofs.Common.{◌≡◌, ℕ, zero, suc, ◌+◌, ◌*◌, ◌<◌, ◌⊎◌, Bool, true, false, ◌&&◌, List, [], ◌∷◌, ◌++◌, length, slice_get, slice_index_or, Option, Some, refl, sym, ap, ◌∙◌, subst, inl, inr, arith, nat_eq, eqb→eq, eq-eqb, T}
use Rattle.std.specs.List.{Contains}
use Rattle.std.proofs.lemmas.Option.{slice_get_within, slice_get-get_or, get_or_from_slice_get}
use Rattle.go_tree.specs.declared.tree.NodeRef.{NodeRef}
use Rattle.go_tree.specs.Spells.{Among}
use Rattle.object_order.specs.declared.spot.Mode.{Mode}
use Rattle.object_order.specs.declared.spot.Mode.TheVariants as m
use Rattle.object_order.specs.declared.spot.Spot.{Spot}
use Rattle.object_order.specs.Spots.{place, spot}
use Rattle.object_order.specs.Views.{same_key}
use Rattle.object_order.specs.Searches.{code, key_of}
use Rattle.gv_base.proofs.Lists.{same_some}

-- ---- keys

mode_of : ℕ → Mode
mode_of n = slice_index_or (m.Needs ∷ m.Reach ∷ m.Steps ∷ m.Follow ∷ m.Direct ∷ m.Lengths ∷ m.Whole ∷ m.Aliases ∷ m.AliasSteps ∷ m.Embeds ∷ m.Alone ∷ m.Kin ∷ []) n m.Needs

decoded : (x : Mode) → mode_of (code x) ≡ x
unfolding mode_of
decoded m.Needs = refl
decoded m.Reach = refl
decoded m.Steps = refl
decoded m.Follow = refl
decoded m.Kin = refl
decoded m.Direct = refl
decoded m.Lengths = refl
decoded m.Whole = refl
decoded m.Aliases = refl
decoded m.AliasSteps = refl
decoded m.Embeds = refl
decoded m.Alone = refl

low_code : (x : Mode) → code x < 12
low_code m.Needs = omega arith
low_code m.Reach = omega arith
low_code m.Steps = omega arith
low_code m.Follow = omega arith
low_code m.Kin = omega arith
low_code m.Direct = omega arith
low_code m.Lengths = omega arith
low_code m.Whole = omega arith
low_code m.Aliases = omega arith
low_code m.AliasSteps = omega arith
low_code m.Embeds = omega arith
low_code m.Alone = omega arith

pub one_code : (x y : Mode) → code x ≡ code y → x ≡ y
one_code x y e = sym (decoded x) ∙ (ap mode_of e ∙ decoded y)

pub same_place : (a b : NodeRef) → a.file ≡ b.file → a.node ≡ b.node → a ≡ b
same_place a b e f = ap (λ (x : ℕ). place x a.node) e ∙ ap (λ (x : ℕ). place b.file x) f

pub same_spot : (s t : Spot) → s.mode ≡ t.mode → s.at ≡ t.at → s ≡ t
same_spot s t e f = ap (λ (x : Mode). spot x s.at) e ∙ ap (λ (x : NodeRef). spot t.mode x) f

apart_codes : (a b c d : ℕ) → c < 12 → d < 12 → a * 12 + c ≡ b * 12 + d → (a ≡ b) × (c ≡ d)
apart_codes a b c d low_c low_d e = let same : a ≡ b = omega arith in (same, omega arith)

pub one_key : (s t : Spot) → key_of s ≡ key_of t → s ≡ t
one_key s t e =
    let files : s.at.file ≡ t.at.file = ap (λ (x : ℕ × ℕ). x.0) e in
    let rest : s.at.node * 12 + code s.mode ≡ t.at.node * 12 + code t.mode = ap (λ (x : ℕ × ℕ). x.1) e in
    let parts = apart_codes s.at.node t.at.node (code s.mode) (code t.mode) (low_code s.mode) (low_code t.mode) rest in
    same_spot s t (one_code s.mode t.mode parts.1) (same_place s.at t.at files parts.0)

pub key_parts : (a b : ℕ × ℕ) → same_key a b ≡ true → a ≡ b
key_parts a b is = at (nat_eq a.0 b.0) (nat_eq a.1 b.1) refl refl is where
  at : (x y : Bool) → nat_eq a.0 b.0 ≡ x → nat_eq a.1 b.1 ≡ y → (x && y) ≡ true → a ≡ b
  at true true e f h =
      let one : a.0 ≡ b.0 = eqb→eq a.0 b.0 (subst (λ (x : Bool). T x) (sym e) tt) in
      let two : a.1 ≡ b.1 = eqb→eq a.1 b.1 (subst (λ (x : Bool). T x) (sym f) tt) in
      let pair = λ (x y : ℕ). (let p : ℕ × ℕ = (x, y) in p) in
      ap (λ (x : ℕ). pair x a.1) one ∙ ap (λ (y : ℕ). pair b.0 y) two
  at true false e f h = absurd (cc)
  at false y e f h = absurd (cc)

pub key_itself : (a : ℕ × ℕ) → same_key a a ≡ true
key_itself a = ap (λ x. x && nat_eq a.1 a.1) (eq-eqb a.0 a.0 refl) ∙ eq-eqb a.1 a.1 refl

-- ---- places in lists

pub among_left : {X : Type 0} (x : X) (xs ys : List X) → Among x xs → Among x (xs ++ ys)
among_left x [] ys h = absurd h
among_left x (y ∷ xs) ys (inl e) = inl e
among_left x (y ∷ xs) ys (inr h) = inr (among_left x xs ys h)

pub among_right : {X : Type 0} (x : X) (xs ys : List X) → Among x ys → Among x (xs ++ ys)
among_right x [] ys h = h
among_right x (y ∷ xs) ys h = inr (among_right x xs ys h)

pub among_cases : {X : Type 0} (x : X) (xs ys : List X) → Among x (xs ++ ys) → Among x xs ⊎ Among x ys
among_cases x [] ys h = inr h
among_cases x (y ∷ xs) ys (inl e) = inl (inl e)
among_cases x (y ∷ xs) ys (inr h) = elim (among_cases x xs ys h) [ inl l ↦ inl (inr l) | inr r ↦ inr r ]

pub among_at : {X : Type 0} (xs : List X) (k : ℕ) (x : X) → slice_get xs k ≡ Some x → Among x xs
among_at [] k x is = absurd (cc)
among_at (y ∷ xs) zero x is = inl (same_some (Some y) y x refl is)
among_at (y ∷ xs) (suc k) x is = inr (among_at xs k x is)

pub at_among : {X : Type 0} (xs : List X) (x : X) → Among x xs → (k : ℕ) × (slice_get xs k ≡ Some x)
at_among [] x h = absurd h
at_among (y ∷ xs) x (inl e) = (0, ap (λ v. Some v) e)
at_among (y ∷ xs) x (inr h) = let (k, is) = at_among xs x h in (suc k, is)

pub among_contains : {X : Type 0} (xs : List X) (x : X) → Contains xs x → Among x xs
among_contains xs x (k, low, is) = among_at xs k x (slice_get-get_or xs k x low ∙ ap (λ v. Some v) is)

pub contains_among : {X : Type 0} (xs : List X) (x : X) → Among x xs → Contains xs x
contains_among xs x h = let (k, is) = at_among xs x h in (k, slice_get_within xs k x is, get_or_from_slice_get xs k x x is)

pub there : {X : Type 0} (xs : List X) (k : ℕ) → k < length xs → (x : X) × (slice_get xs k ≡ Some x)
there [] k low = absurd (omega arith)
there (x ∷ xs) zero low = (x, refl)
there (x ∷ xs) (suc k) low = there xs k (omega arith)
