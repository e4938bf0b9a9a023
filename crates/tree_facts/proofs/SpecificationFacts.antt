-- What the definition of the functions that print says of a tree, case by case.
use Rattle.std.proofs.Common.{◌≡◌, ◌==◌, ◌&&◌, not, inl, inr, ℕ, Bool, true, false, List, [], refl, sym, ap, ◌∙◌, subst, eq-eqb}
use Rattle.std.specs.Str.{bytes_eq}
use Rattle.fact_codec.specs.declared.wraps.WrapKind.{WrapKind}
use Rattle.least.specs.Least.{IsClosed}
use Rattle.least.specs.Tables.{Member, member}
use Rattle.known_callees.proofs.FunctionNames.{both_true, bytes_same, same_bytes, same_number}
use Rattle.known_callees.specs.Functions.{declared_at}
use Rattle.typed_marks.specs.declared.item.Item.{Item}
use Rattle.typed_marks.specs.Meanings.{Meaning}
use Rattle.unit_read.specs.Units.{Unit}
use Rattle.known_callees.specs.Forwards.{Forwards, listed_in}
use Rattle.known_callees.specs.Wraps.{number_of}
use Rattle.gv_driver.specs.declared.tree.PackageTexts.{PackageTexts}
use Rattle.known_callees.proofs.Words.{no_some}
use Rattle.tree_facts.specs.Accepted.{IsAccepted}
use Rattle.tree_facts.specs.Prints.{IsPrinting, Prints}

-- in a tree without packages nothing prints
none_prints : (kind : WrapKind) (m : Member) → Prints [] kind m → ⊥
none_prints kind m prints = differ (prints (λ x. false) (λ x w. no_some w.accepted.pack w.accepted.at)) where
  differ : false ≡ true → ⊥
  differ e = cc

module _ (tree : List PackageTexts) (p : ℕ) (u : Unit) (marks : Item → Meaning) (here : IsAccepted tree p u marks) (kind : WrapKind) (m : Member) (own : m.path ≡ u.path) (way : m.kind ≡ number_of kind) where
  -- `fmt.Printf` prints, where an accepted package `fmt` declares it, whatever its body
  listed_prints : listed_in (declared_at u) u marks m ≡ true → Prints tree kind m
  listed_prints listed N closed = closed m (record { p = p; unit = u; marks = marks; accepted = here; own = own; way = way; admits = inl listed })

  -- so does what hands its arguments on to what prints, of this package or another
  handing_prints : (g : Member) → Forwards (declared_at u) u marks m g → Prints tree kind g → Prints tree kind m
  handing_prints g hands prints N closed = closed m (record { p = p; unit = u; marks = marks; accepted = here; own = own; way = way; admits = inr (g, hands, prints N closed) })

-- what would print only if it did doesn't: one that hands on to itself alone
module _ (tree : List PackageTexts) (kind : WrapKind) (m : Member) (alone : (N : Member → Bool) → IsPrinting tree kind N m → N m ≡ true) where
  abbrev is_m : Member → Bool
  is_m x = bytes_eq x.path m.path && (bytes_eq x.name m.name && (x.kind == m.kind))

  abbrev others : Member → Bool
  others x = not (is_m x)

  is_it : (x : Member) → is_m x ≡ true → x ≡ m
  is_it x e =
      let one = both_true (bytes_eq x.path m.path) (bytes_eq x.name m.name && (x.kind == m.kind)) e in
      let two = both_true (bytes_eq x.name m.name) (x.kind == m.kind) one.1 in
      ap (λ (l : List ℕ). member l x.name x.kind) (same_bytes x.path m.path one.0)
      ∙ (ap (λ (l : List ℕ). member m.path l x.kind) (same_bytes x.name m.name two.0) ∙ ap (λ (n : ℕ). member m.path m.name n) (same_number x.kind m.kind two.1))

  others_closed : IsClosed (IsPrinting tree kind) others
  others_closed x w = by (is_m x) refl where
    by : (b : Bool) → is_m x ≡ b → not b ≡ true
    by true same = ap not (sym same) ∙ subst (λ (z : Member). others z ≡ true) (sym (is_it x same)) (alone others (subst (λ (z : Member). IsPrinting tree kind others z) (is_it x same) w))
    by false other = refl

  circle_is_silent : Prints tree kind m → ⊥
  circle_is_silent prints = differ (is_m m) itself (prints others others_closed) where
    differ : (b : Bool) → b ≡ true → not b ≡ true → ⊥
    differ b e f = cc

    both : (a b c : Bool) → a ≡ true → b ≡ true → c ≡ true → (a && (b && c)) ≡ true
    both true true true d e f = refl
    both true true false d e f = f
    both true false c d e f = absurd (cc)
    both false b c d e f = absurd (cc)

    itself : is_m m ≡ true
    itself = both (bytes_eq m.path m.path) (bytes_eq m.name m.name) (m.kind == m.kind) (bytes_same m.path) (bytes_same m.name) (eq-eqb m.kind m.kind refl)
