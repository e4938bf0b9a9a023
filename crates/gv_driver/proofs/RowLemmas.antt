-- Rows of numbers as flags, and rising lists.
use Rattle.std.proofs.Common.{◌≡◌, ◌⊎◌, inl, inr, ℕ, ◌<◌, ◌≤◌, zero, suc, Bool, true, false, Some, List, [], ◌∷◌, ◌++◌, length, slice_get, replicate, refl, sym, ap, ◌∙◌, subst, arith}
use Rattle.std.specs.Prelude.{slice_set, slice_index_or}
use Rattle.std.specs.List.{Contains}
use Rattle.std.proofs.lemmas.Option.{same_Some, slice_get_within, slice_get-get_or, get_or_from_slice_get}
use Rattle.gv_driver.specs.Rows.{IsSet, with_all, one_if, places_below}
use Rattle.gv_driver.specs.Whole.{AreRising}
use Rattle.gv_driver.proofs.Places.{append-none, contains-head, contains-tail, cons-cases, nothing-contained, get-push_cases}
use Rattle.std.proofs.lemmas.List.Elements.{Contains-append_left, Contains-append_right, Contains-append_cases}

-- ---- flags

-- a flag that is set after one more was set
pub set-cases : (flags : List Bool) (p q : ℕ) → IsSet (slice_set flags p true) q → IsSet flags q ⊎ (p ≡ q)
set-cases [] p q is = inl is
set-cases (b ∷ flags) zero zero is = inr refl
set-cases (b ∷ flags) zero (suc q) is = inl is
set-cases (b ∷ flags) (suc p) zero is = inl is
set-cases (b ∷ flags) (suc p) (suc q) is = elim (set-cases flags p q is) [
  | inl h ↦ inl h
  | inr e ↦ inr (ap suc e)
]

pub set-keeps : (flags : List Bool) (p q : ℕ) → IsSet flags q → IsSet (slice_set flags p true) q
set-keeps [] p q is = is
set-keeps (b ∷ flags) zero zero is = refl
set-keeps (b ∷ flags) zero (suc q) is = is
set-keeps (b ∷ flags) (suc p) zero is = is
set-keeps (b ∷ flags) (suc p) (suc q) is = set-keeps flags p q is

pub set-here : (flags : List Bool) (p : ℕ) → p < length flags → IsSet (slice_set flags p true) p
set-here [] p low = absurd (omega (arith, low))
set-here (b ∷ flags) zero low = refl
set-here (b ∷ flags) (suc p) low = set-here flags p (omega (arith, low))

pub set-long : (flags : List Bool) (p : ℕ) → length (slice_set flags p true) ≡ length flags
set-long [] p = refl
set-long (b ∷ flags) zero = refl
set-long (b ∷ flags) (suc p) = ap suc (set-long flags p)

-- what isn't a place stays
pub set-past : (flags : List Bool) (p : ℕ) → length flags ≤ p → slice_set flags p true ≡ flags
set-past [] p low = refl
set-past (b ∷ flags) zero low = absurd (omega (arith, low))
set-past (b ∷ flags) (suc p) low = ap (λ (l : List Bool). b ∷ l) (set-past flags p (omega (arith, low)))

pub none-set : (n q : ℕ) → IsSet (replicate n false) q → ⊥
none-set zero q is = cc
none-set (suc n) zero is = cc
none-set (suc n) (suc q) is = none-set n q is

-- ---- several flags

pub all-cases : (row : List ℕ) (flags : List Bool) (q : ℕ) → IsSet (with_all row flags) q → IsSet flags q ⊎ Contains row q
all-cases [] flags q is = inl is
all-cases (p ∷ row) flags q is = elim (all-cases row (slice_set flags p true) q is) [
  | inr c ↦ inr (contains-tail p q row c)
  | inl h ↦ elim (set-cases flags p q h) [
    | inl g ↦ inl g
    | inr e ↦ inr (subst (λ (n : ℕ). Contains (p ∷ row) n) e (contains-head p row))
  ]
]

pub all-keeps : (row : List ℕ) (flags : List Bool) (q : ℕ) → IsSet flags q → IsSet (with_all row flags) q
all-keeps [] flags q is = is
all-keeps (p ∷ row) flags q is = all-keeps row (slice_set flags p true) q (set-keeps flags p q is)

pub all-long : (row : List ℕ) (flags : List Bool) → length (with_all row flags) ≡ length flags
all-long [] flags = refl
all-long (p ∷ row) flags = all-long row (slice_set flags p true) ∙ set-long flags p

pub all-here : (row : List ℕ) (flags : List Bool) (q : ℕ) → q < length flags → Contains row q → IsSet (with_all row flags) q
all-here [] flags q low c = absurd (nothing-contained q c)
all-here (p ∷ row) flags q low c = elim (cons-cases p q row c) [
  | inl e ↦ all-keeps row (slice_set flags p true) q (subst (λ (n : ℕ). IsSet (slice_set flags p true) n) e (set-here flags p (omega (arith, low, e))))
  | inr h ↦ all-here row (slice_set flags p true) q (let long : length (slice_set flags p true) ≡ length flags = set-long flags p in omega (arith, low, long)) h
]

-- ---- the places that are set

one-is : (b : Bool) (k q : ℕ) → Contains (one_if b k) q → (b ≡ true) × (k ≡ q)
one-is true k q c = elim (cons-cases k q [] c) [ inl e ↦ (refl, e) | inr h ↦ absurd (nothing-contained q h) ]
one-is false k q c = absurd (nothing-contained q c)

one-in : (b : Bool) (k : ℕ) → b ≡ true → Contains (one_if b k) k
one-in true k e = contains-head k []
one-in false k e = cc

pub place-set : (flags : List Bool) (n q : ℕ) → Contains (places_below flags n) q → (q < n) × IsSet flags q
place-set flags zero q c = absurd (nothing-contained q c)
place-set flags (suc n) q c = elim (Contains-append_cases (places_below flags n) (one_if (slice_index_or flags n false) n) q c) [
  | inl h ↦ (let low = (place-set flags n q h).0 in omega (arith, low), (place-set flags n q h).1)
  | inr h ↦ (let one = one-is (slice_index_or flags n false) n q h in (let e = one.1 in omega (arith, e), subst (λ (m : ℕ). IsSet flags m) one.1 one.0))
]

pub less-or-last : (q n : ℕ) → q < suc n → (q < n) ⊎ (q ≡ n)
less-or-last q n low = grind arith

pub set-place : (flags : List Bool) (n q : ℕ) → q < n → IsSet flags q → Contains (places_below flags n) q
set-place flags zero q low is = absurd (omega (arith, low))
set-place flags (suc n) q low is = elim (less-or-last q n low) [
  | inl l ↦ Contains-append_left (places_below flags n) (one_if (slice_index_or flags n false) n) q (set-place flags n q l is)
  | inr e ↦ Contains-append_right (places_below flags n) (one_if (slice_index_or flags n false) n) q
      (subst (λ (m : ℕ). Contains (one_if (slice_index_or flags n false) n) m) (sym e) (one-in (slice_index_or flags n false) n (subst (λ (m : ℕ). IsSet flags m) e is)))
]

-- ---- rising lists

pub rising-push : (xs : List ℕ) (n : ℕ) → AreRising xs → ((q : ℕ) → Contains xs q → q < n) → AreRising (xs ++ n ∷ [])
rising-push xs n rise low j k q r less at there = elim (get-push_cases xs n r k there) [
  | inl b ↦ elim (get-push_cases xs n q j at) [
    | inl a ↦ rise j k q r less a b
    | inr a ↦ absurd (let within : k < length xs = slice_get_within xs k r b in let e = a.0 in omega (arith, e, less, within))
  ]
  | inr b ↦ elim (get-push_cases xs n q j at) [
    | inl a ↦ (let l : q < n = low q (j, slice_get_within xs j q a, get_or_from_slice_get xs j q q a) in let e = b.1 in omega (arith, l, e))
    | inr a ↦ absurd (let e = a.0 in let f = b.0 in omega (arith, e, f, less))
  ]
]

rising-one : (b : Bool) (xs : List ℕ) (n : ℕ) → AreRising xs → ((q : ℕ) → Contains xs q → q < n) → AreRising (xs ++ one_if b n)
rising-one true xs n rise low = rising-push xs n rise low
rising-one false xs n rise low = subst AreRising (sym (append-none xs)) rise

pub places-rise : (flags : List Bool) (n : ℕ) → AreRising (places_below flags n)
places-rise flags zero = λ j k q r less at there. cc
places-rise flags (suc n) = rising-one (slice_index_or flags n false) (places_below flags n) n (places-rise flags n) (λ q c. (place-set flags n q c).0)

rest-rises : (x : ℕ) (xs : List ℕ) → AreRising (x ∷ xs) → AreRising xs
rest-rises x xs rise j k q r less at there = rise (suc j) (suc k) q r (omega (arith, less)) at there

first-least : (x : ℕ) (xs : List ℕ) (q : ℕ) → AreRising (x ∷ xs) → Contains xs q → x < q
first-least x xs q rise c = rise 0 (suc c.0) x q (omega arith) refl (slice_get-get_or xs c.0 q c.1 ∙ ap Some c.2)

first-same : (x y : ℕ) (xs ys : List ℕ) → AreRising (x ∷ xs) → AreRising (y ∷ ys) → Contains (y ∷ ys) x → Contains (x ∷ xs) y → x ≡ y
first-same x y xs ys p q one two = elim (cons-cases y x ys one) [
  | inl e ↦ sym e
  | inr h ↦ elim (cons-cases x y xs two) [
    | inl e ↦ e
    | inr g ↦ absurd (let a = first-least y ys x q h in let b = first-least x xs y p g in omega (arith, a, b))
  ]
]

other-in : (x y q : ℕ) (xs ys : List ℕ) → x ≡ y → AreRising (x ∷ xs) → Contains xs q → Contains (y ∷ ys) q → Contains ys q
other-in x y q xs ys same rise c d = elim (cons-cases y q ys d) [
  | inl e ↦ absurd (let a = first-least x xs q rise c in omega (arith, a, same, e))
  | inr h ↦ h
]

-- rising lists with the same members are the same
pub same-rising : (xs ys : List ℕ) → AreRising xs → AreRising ys → ((q : ℕ) → Contains xs q → Contains ys q) → ((q : ℕ) → Contains ys q → Contains xs q) → xs ≡ ys
same-rising [] [] p q to from = refl
same-rising [] (y ∷ ys) p q to from = absurd (nothing-contained y (from y (contains-head y ys)))
same-rising (x ∷ xs) [] p q to from = absurd (nothing-contained x (to x (contains-head x xs)))
same-rising (x ∷ xs) (y ∷ ys) p q to from =
    let same : x ≡ y = first-same x y xs ys p q (to x (contains-head x xs)) (from y (contains-head y ys)) in
    let rest : xs ≡ ys = same-rising xs ys (rest-rises x xs p) (rest-rises y ys q)
    (λ z c. other-in x y z xs ys same p c (to z (contains-tail x z xs c)))
    (λ z c. other-in y x z ys xs (sym same) q c (from z (contains-tail y z ys c))) in
    ap (λ (z : ℕ). z ∷ xs) same ∙ ap (λ (zs : List ℕ). y ∷ zs) rest
