-- Options that are there, and what that says of what they are made of.
use Rattle.std.proofs.Common.{◌≡◌, ◌&&◌, ℕ, zero, suc, Bool, true, false, if◌then◌else◌, List, [], ◌∷◌, map, length, Option, Some, None, is_some, option_map, slice_get, refl, sym, ap, ◌∙◌, arith}
use Rattle.std.specs.Prelude.{option_and_then}

pub same_some : {X : Type 0} (a b : X) → Some a ≡ Some b → a ≡ b
same_some a b e = cc

pub no_some : {X C : Type 0} (a : X) → None ≡ Some a → C
no_some a e = absurd (cc)

pub differ : (b : Bool) → b ≡ true → b ≡ false → ⊥
differ b p q = cc

pub bound : {X Y : Type 0} (f : X → Option Y) (o : Option X) (y : Y) → option_and_then f o ≡ Some y → (x : X) × (o ≡ Some x) × (f x ≡ Some y)
bound f None y e = absurd (cc)
bound f (Some x) y e = (x, refl, e)

pub mapped : {X Y : Type 0} (f : X → Y) (o : Option X) (y : Y) → option_map f o ≡ Some y → (x : X) × (o ≡ Some x) × (f x ≡ y)
mapped f None y e = absurd (cc)
mapped f (Some x) y e = (x, refl, same_some (f x) y e)

pub where_true : {X : Type 0} (b : Bool) (o : Option X) (x : X) → (if b then o else None) ≡ Some x → (b ≡ true) × (o ≡ Some x)
where_true true o x e = (refl, e)
where_true false o x e = absurd (cc)

pub where_false : {X : Type 0} (b : Bool) (o : Option X) (x : X) → (if b then None else o) ≡ Some x → (b ≡ false) × (o ≡ Some x)
where_false true o x e = absurd (cc)
where_false false o x e = (refl, e)

pub some_there : {X : Type 0} (o : Option X) (x : X) → o ≡ Some x → is_some o ≡ true
some_there None x e = absurd (cc)
some_there (Some y) x e = refl

pub not_none : {X : Type 0} (o : Option X) → (o ≡ None → ⊥) → is_some o ≡ true
not_none None there = absurd (there refl)
not_none (Some x) there = refl

pub both_so : (b c : Bool) → b ≡ true → c ≡ true → (b && c) ≡ true
both_so true c e f = f
both_so false c e f = e

-- ---- places in lists

pub get_mapped : {X Y : Type 0} (f : X → Y) (xs : List X) (k : ℕ) (x : X) → slice_get xs k ≡ Some x → slice_get (map f xs) k ≡ Some (f x)
get_mapped f [] k x e = no_some x e
get_mapped f (y ∷ xs) zero x e = ap (option_map f) e
get_mapped f (y ∷ xs) (suc k) x e = get_mapped f xs k x e

-- a list as long has an element there too
pub element : {X Y : Type 0} (xs : List X) (ys : List Y) (k : ℕ) (y : Y) → length xs ≡ length ys → slice_get ys k ≡ Some y → (x : X) × (slice_get xs k ≡ Some x)
element [] [] k y size e = no_some y e
element [] (z ∷ ys) k y size e = absurd (omega (arith, size))
element (x ∷ xs) [] k y size e = absurd (omega (arith, size))
element (x ∷ xs) (z ∷ ys) zero y size e = (x, refl)
element (x ∷ xs) (z ∷ ys) (suc k) y size e = element xs ys k y (omega (arith, size)) e
