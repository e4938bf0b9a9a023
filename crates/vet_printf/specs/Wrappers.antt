-- Functions that print by handing their arguments on.
use Rattle.std.specs.Prelude.{◌≡◌, ◌⊎◌, ◌↔◌, ◌<◌, ℕ, Bool, true, false, List, length, Option, Some, slice_get}
use Rattle.std.specs.List.{Contains}
use Rattle.least.specs.Numbered.{IsNumbering}
use Rattle.least.specs.Staged.{Sees}
use Rattle.least.specs.Tables.{Member, home}
use Rattle.vet_printf.specs.declared.shapes.Shape.{Shape}

-- A function with a kind is admitted if it is listed, or if its body hands its arguments on to a member. `forwards` tells to whom it does, each with its kind.
abbrev pub Admits : (Member → Bool) → (Member → Member → Type 0) → (Member → Bool) → Member → Type 0
Admits listed forwards N m = (listed m ≡ true) ⊎ ((g : Member) × forwards m g × (N g ≡ true))

-- the same where lists tell to whom each function hands on
abbrev pub HandsTo : (Member → List Member) → Member → Member → Type 0
HandsTo forwards m g = Contains (forwards m) g

-- to whom a function hands on is in its package or in its environment
abbrev pub SeeTheirCallees : (List ℕ → List ℕ → Type 0) → (Member → Member → Type 0) → Type 0
SeeTheirCallees env forwards = (m g : Member) → forwards m g → Sees home env (home m) g

-- the environment of the package p has q, as a test tells
abbrev pub Has : (List ℕ → List ℕ → Bool) → List ℕ → List ℕ → Type 0
Has env p q = env p q ≡ true

-- ---- by numbers

-- it is listed, or hands on to a member that is handed in
abbrev pub IsSettled : (Member → Bool) → (Member → Member → Type 0) → (Member → Bool) → Member → Type 0
IsSettled listed forwards given m = (listed m ≡ true) ⊎ ((g : Member) × forwards m g × (given g ≡ true))

-- A function with a kind by number: whether it is settled, and the numbers of those of its package to whom it hands on. A shape serves for it: it is parted
-- where it isn't settled.
pub record IsItem (listed : Member → Bool) (forwards : Member → Member → Type 0) (given : Member → Bool) (number : Member → Option ℕ) (m : Member) (x : Shape) : Type 0 where
  pub settled : (x.parted ≡ false) ↔ IsSettled listed forwards given m
  pub only : (j : ℕ) → Contains x.parts j → (g : Member) × forwards m g × (number g ≡ Some j)
  pub every : (g : Member) (j : ℕ) → forwards m g → number g ≡ Some j → Contains x.parts j

-- those of package p, over the members handed in
pub record AreItems (listed : Member → Bool) (forwards : Member → Member → Type 0) (p : List ℕ) (given : Member → Bool) (number : Member → Option ℕ) (name : ℕ → Member) (items : List Shape) : Type 0 where
  pub numbering : IsNumbering home (Admits listed forwards) p (length items) number name
  pub each : (i : ℕ) (x : Shape) → slice_get items i ≡ Some x → IsItem listed forwards given number (name i) x
