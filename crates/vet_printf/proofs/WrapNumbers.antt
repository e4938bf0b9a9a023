-- The functions of a package by number are those by name.
use Rattle.std.proofs.Common.{◌≡◌, ◌⊎◌, ◌↔◌, ◌<◌, inl, inr, ℕ, Bool, true, false, not, cond, ◌&&◌, ◌||◌, List, [], ◌∷◌, length, Option, Some, None, refl, sym, ap, ◌∙◌, subst, if◌then◌else◌}
use Rattle.std.specs.Prelude.{slice_get}
use Rattle.std.specs.List.{Contains}
use Rattle.std.specs.Option.{option_map_or}
use Rattle.least.specs.Least.{IsLeast}
use Rattle.least.specs.Staged.{IsLeastIn}
use Rattle.least.specs.Tables.{Member, home}
use Rattle.least.specs.Work.{among}
use Rattle.least.specs.Numbered.{is_marked, by_number, admits_number, IsNumbering}
use Rattle.least.proofs.Numbers.{by_numbers}
use Rattle.vet_printf.specs.declared.shapes.Shape.{Shape}
use Rattle.vet_printf.specs.InTable.{flag_at, any_of, fails_shape, fails_by, Admits}
use Rattle.vet_printf.specs.Wrappers as wraps
use Rattle.vet_printf.specs.Wrappers.{IsSettled, IsItem, AreItems}
use Rattle.vet_printf.proofs.FailLemmas.{item_at, any_in, in_any, open_at, closed_at}
use Rattle.vet_printf.proofs.ReaderLemmas.{same_some, either}
use Rattle.vet_printf.proofs.WrapperLemmas.{monotone}

-- a member is handed in, or its number is marked
split : (g : Bool) (M : ℕ → Bool) (o : Option ℕ) → (if g then true else is_marked M o) ≡ true → (g ≡ true) ⊎ ((j : ℕ) × (o ≡ Some j) × (M j ≡ true))
split true M o e = inl refl
split false M None e = absurd cc
split false M (Some j) e = inr (j, refl, e)

join_given : (g : Bool) (M : ℕ → Bool) (o : Option ℕ) → g ≡ true → (if g then true else is_marked M o) ≡ true
join_given g M o e = ap (λ b. if b then true else is_marked M o) e

join_number : (g : Bool) (M : ℕ → Bool) (o : Option ℕ) (j : ℕ) → o ≡ Some j → M j ≡ true → (if g then true else is_marked M o) ≡ true
join_number true M o j is e = refl
join_number false M o j is e = ap (is_marked M) is ∙ e

no_fit : (i : ℕ) → flag_at [] i ≡ false
no_fit i = refl

or_right : (a b : Bool) → b ≡ true → (a || b) ≡ true
or_right true b e = refl
or_right false b e = e

unparted : (parted rest : Bool) → parted ≡ false → (not parted || rest) ≡ true
unparted parted rest e = ap (λ b. not b || rest) e

module _ (listed : Member → Bool) (forwards : Member → Member → Type 0) (p : List ℕ) (given : Member → Bool) (number : Member → Option ℕ) (name : ℕ → Member) (items : List Shape)
    (are : AreItems listed forwards p given number name items) where
  -- what is admitted by number is admitted by name
  pub to_admits : (M : ℕ → Bool) (i : ℕ) → i < length items → Admits [] items M i → admits_number (wraps.Admits listed forwards) given number name M i
  to_admits M i low a =
      let s = item_at items i low in
      let item = are.each i s.0 s.1 in
      either (open_at M (flag_at [] i) (slice_get items i) s.0 s.1 a).1
      (λ out. either (item.settled.0 out)
      (λ l. inl l)
      (λ (g, there, is). inr (g, there, join_given (given g) M (number g) is)))
      (λ some. (let k = in_any M s.0.parts some in let o = item.only k.0 k.1 in inr (o.0, o.1, join_number (given o.0) M (number o.0) k.0 o.2 k.2)))

  pub by_admits : (M : ℕ → Bool) (i : ℕ) → i < length items → admits_number (wraps.Admits listed forwards) given number name M i → Admits [] items M i
  by_admits M i low a =
      let s = item_at items i low in
      let item = are.each i s.0 s.1 in
      let close = closed_at M (flag_at [] i) (slice_get items i) s.0 s.1 (no_fit i) in
      either a
      (λ l. close (unparted s.0.parted (any_of M s.0.parts) (item.settled.1 (inl l))))
      (λ (g, there, is). either (split (given g) M (number g) is)
      (λ handed. close (unparted s.0.parted (any_of M s.0.parts) (item.settled.1 (inr (g, there, handed)))))
      (λ (j, at, marked). close (or_right (not s.0.parted) (any_of M s.0.parts) (any_in M s.0.parts j (item.every g j there at) marked))))

  -- the least set of the numbers is that of the package
  pub by_items : (marks : ℕ → Bool) → IsLeast (among (length items) (Admits [] items)) marks → IsLeastIn home (wraps.Admits listed forwards) p given (by_number number marks)
  by_items marks l =
      by_numbers home (wraps.Admits listed forwards) p given (length items) number name marks (monotone listed forwards) are.numbering
      (record {
        closed = λ i a. l.closed i (a.0, by_admits marks i a.0 a.1);
        least = λ M closed i is. l.least M (λ j a. closed j (a.0, to_admits M j a.0 a.1)) i is;
      })
