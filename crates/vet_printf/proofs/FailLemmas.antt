-- The least set of types that fail, and the types that do.
use Rattle.std.proofs.Common.{◌≡◌, ◌⊎◌, ◌↔◌, ◌<◌, inl, inr, ℕ, zero, suc, Bool, true, false, not, ◌&&◌, ◌||◌, List, [], ◌∷◌, map, length, Option, Some, refl, sym, ap, ◌∙◌, subst, arith}
use Rattle.std.specs.Prelude.{slice_get}
use Rattle.std.specs.List.{Contains}
use Rattle.std.specs.Option.{option_map_or}
use Rattle.std.proofs.lemmas.List.Elements.{Contains-append_left, Contains-append_right, Contains-append_cases, Contains-push, Contains-push_cases}
use Rattle.vet_printf.specs.declared.shapes.Shape.{Shape}
use Rattle.vet_printf.specs.InTable.{any_of, fails_shape}
use Rattle.vet_printf.proofs.ReaderLemmas.{same_some}

-- ---- lists

none_in : {X : Type 0} (b : X) → Contains [] b → ⊥
none_in b (k, low, e) = omega arith

single_is : {X : Type 0} (a b : X) → Contains (a ∷ []) b → a ≡ b
single_is {X} a b there = elim (Contains-push_cases {X = X} [] a b there) [ inl none ↦ absurd (none_in b none) | inr same ↦ same ]

place_of : {X : Type 0} (xs : List X) (x : X) → Contains xs x → (k : ℕ) × (slice_get xs k ≡ Some x)
place_of {X} [] x there = absurd (none_in x there)
place_of {X} (y ∷ xs) x there = elim (Contains-append_cases (y ∷ []) xs x there) [
  | inl here ↦ (0, ap (λ z. Some z) (single_is y x here))
  | inr later ↦ (let r = place_of xs x later in (suc r.0, r.1))
]

pub at_place : {X : Type 0} (xs : List X) (k : ℕ) (x : X) → slice_get xs k ≡ Some x → Contains xs x
at_place {X} [] k x e = absurd (cc)
at_place {X} (y ∷ xs) zero x e = subst (λ (z : X). Contains (y ∷ xs) z) (same_some e) (Contains-append_left (y ∷ []) xs y (Contains-push [] y))
at_place {X} (y ∷ xs) (suc k) x e = Contains-append_right (y ∷ []) xs x (at_place xs k x e)

pub mapped : {X Y : Type 0} (f : X → Y) (xs : List X) (x : X) → Contains xs x → Contains (map f xs) (f x)
mapped f [] x there = absurd (none_in x there)
mapped {X} {Y} f (y ∷ xs) x there = elim (Contains-append_cases (y ∷ []) xs x there) [
  | inl here ↦ subst (λ (z : Y). Contains (f y ∷ map f xs) z) (ap f (single_is y x here)) (Contains-append_left (f y ∷ []) (map f xs) (f y) (Contains-push [] (f y)))
  | inr later ↦ Contains-append_right (f y ∷ []) (map f xs) (f x) (mapped f xs x later)
]

pub unmapped : {X Y : Type 0} (f : X → Y) (xs : List X) (y : Y) → Contains (map f xs) y → (x : X) × Contains xs x × (f x ≡ y)
unmapped f [] y there = absurd (none_in y there)
unmapped {X} {Y} f (x ∷ xs) y there = elim (Contains-append_cases (f x ∷ []) (map f xs) y there) [
  | inl here ↦ (x, Contains-append_left (x ∷ []) xs x (Contains-push [] x), single_is (f x) y here)
  | inr later ↦ (let r = unmapped f xs y later in (r.0, Contains-append_right (x ∷ []) xs r.0 r.1, r.2))
]

pub item_at : {X : Type 0} (xs : List X) (k : ℕ) → k < length xs → (x : X) × (slice_get xs k ≡ Some x)
item_at [] k low = absurd (omega (arith, low))
item_at (x ∷ xs) zero low = (x, refl)
item_at (x ∷ xs) (suc k) low = item_at xs k (omega arith)

-- ---- tests

or_right : (a b : Bool) → b ≡ true → (a || b) ≡ true
or_right true b e = refl
or_right false b e = e

pub any_in : (M : ℕ → Bool) (ids : List ℕ) (id : ℕ) → Contains ids id → M id ≡ true → any_of M ids ≡ true
any_in M [] id there e = absurd (none_in id there)
any_in M (x ∷ ids) id there e = elim (Contains-append_cases (x ∷ []) ids id there) [
  | inl here ↦ ap (λ b. b || any_of M ids) (ap M (single_is x id here) ∙ e)
  | inr later ↦ or_right (M x) (any_of M ids) (any_in M ids id later e)
]

or_cases : (a b : Bool) → (a || b) ≡ true → (a ≡ true) ⊎ (b ≡ true)
or_cases true b e = inl refl
or_cases false b e = inr e

pub in_any : (M : ℕ → Bool) (ids : List ℕ) → any_of M ids ≡ true → (id : ℕ) × Contains ids id × (M id ≡ true)
in_any M [] e = absurd (cc)
in_any M (x ∷ ids) e = elim (or_cases (M x) (any_of M ids) e) [
  | inl here ↦ (x, Contains-append_left (x ∷ []) ids x (Contains-push [] x), here)
  | inr later ↦ (let r = in_any M ids later in (r.0, Contains-append_right (x ∷ []) ids r.0 r.1, r.2))
]

not_both : (b : Bool) → b ≡ true → b ≡ false → ⊥
not_both b e f = cc

falls : (b : Bool) → (b ≡ true → ⊥) → b ≡ false
falls true none = absurd (none refl)
falls false none = refl

-- what a shape that fails says
opened : (M : ℕ → Bool) (fit parted : Bool) (ids : List ℕ) → (not fit && (not parted || any_of M ids)) ≡ true → (fit ≡ false) × ((parted ≡ false) ⊎ (any_of M ids ≡ true))
opened M true parted ids e = absurd (cc)
opened M false true ids e = (refl, inr e)
opened M false false ids e = (refl, inl refl)

pub open_at : (M : ℕ → Bool) (fit : Bool) (o : Option Shape) (x : Shape) → o ≡ Some x → option_map_or (fails_shape M fit) o false ≡ true → (fit ≡ false) × ((x.parted ≡ false) ⊎ (any_of M x.parts ≡ true))
open_at M fit o x is e = opened M fit x.parted x.parts (sym (ap (λ p. option_map_or (fails_shape M fit) p false) is) ∙ e)

pub closed_at : (M : ℕ → Bool) (fit : Bool) (o : Option Shape) (x : Shape) → o ≡ Some x → fit ≡ false → (not x.parted || any_of M x.parts) ≡ true → option_map_or (fails_shape M fit) o false ≡ true
closed_at M fit o x is out e = ap (λ p. option_map_or (fails_shape M fit) p false) is ∙ (ap (λ b. not b && (not x.parted || any_of M x.parts)) out ∙ e)

unparted : (parted rest : Bool) → parted ≡ false → (not parted || rest) ≡ true
unparted parted rest e = ap (λ b. not b || rest) e

pub says_same : (a b : Bool) → a ≡ b → (a ≡ true) ↔ (b ≡ true)
says_same a b e = (λ h. sym e ∙ h, λ h. e ∙ h)
