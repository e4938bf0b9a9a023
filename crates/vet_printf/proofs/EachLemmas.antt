-- Rows, one thing more at a time.
use Rattle.std.proofs.Common.{◌≡◌, ℕ, zero, suc, ◌+◌, ◌<◌, Bool, List, [], ◌∷◌, ◌++◌, length, Option, Some, None, IfSome, slice_get, refl, sym, ap, ◌∙◌, subst, inl, inr, arith}
use Rattle.std.proofs.lemmas.List.{length_push}
use Rattle.gv_base.proofs.Lists.{same_some, push_cases}
use Rattle.vet_printf.specs.InTable.{AreEach, flag_at}

pub none_yet : {X : Type 0} (P : ℕ → X → Type 0) (list : List X) → list ≡ [] → AreEach P 0 list
none_yet {X} P list is = subst (λ (l : List X). AreEach P 0 l) (sym is) (record { size = refl; each = λ k x at. absurd (cc) })

pub one_more : {X : Type 0} (P : ℕ → X → Type 0) (n : ℕ) (list new : List X) (x : X) → AreEach P n list → P n x → new ≡ list ++ x ∷ [] → AreEach P (n + 1) new
one_more {X} P n list new x was is now = subst (λ (l : List X). AreEach P (n + 1) l) (sym now) (record {
  size = length_push list x ∙ ap (λ m. m + 1) was.size;
  each = λ k y at. elim (push_cases list x y k at) [
    | inl before ↦ was.each k y before
    | inr (last, same) ↦ subst (λ (z : X). P k z) same (subst (λ (m : ℕ). P m x) (sym (last ∙ was.size)) is)
  ];
})

pub all_there : {X : Type 0} (P : ℕ → X → Type 0) (n total : ℕ) (list : List X) → n ≡ total → AreEach P n list → AreEach P total list
all_there {X} P n total list e are = subst (λ (m : ℕ). AreEach P m list) e are

-- what holds of what is there
pub if_some : {X : Type 0} (P : X → Type 0) (o : Option X) (x : X) → o ≡ Some x → IfSome o P → P x
if_some {X} P None x e h = absurd (cc)
if_some {X} P (Some y) x e h = subst P (same_some (Some y) y x refl e) h

item_at : {X : Type 0} (xs : List X) (k : ℕ) → k < length xs → (x : X) × (slice_get xs k ≡ Some x)
item_at [] k low = absurd (omega (arith, low))
item_at (x ∷ xs) zero low = (x, refl)
item_at (x ∷ xs) (suc k) low = item_at xs k (omega arith)

flag_of : (flags : List Bool) (n : ℕ) (b : Bool) → slice_get flags n ≡ Some b → flag_at flags n ≡ b
flag_of [] n b e = absurd (cc)
flag_of (x ∷ flags) zero b e = same_some (Some x) x b refl e
flag_of (x ∷ flags) (suc n) b e = flag_of flags n b e

-- a flag of such a row
pub flag_each : (P : ℕ → Bool → Type 0) (total : ℕ) (flags : List Bool) → AreEach P total flags → (n : ℕ) → n < total → P n (flag_at flags n)
flag_each P total flags are n low =
    let size = are.size in
    let s = item_at flags n (omega (arith, low, size)) in
    subst (λ (b : Bool). P n b) (sym (flag_of flags n s.0 s.1)) (are.each n s.0 s.1)
