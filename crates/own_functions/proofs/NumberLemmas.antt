-- The functions of a package are numbered.
use Rattle.std.proofs.Common.{◌≡◌, ◌<◌, ◌==◌, ℕ, Bool, true, false, if◌then◌else◌, [], length, Option, Some, None, slice_get, refl, sym, ap, ◌∙◌}
use Rattle.std.specs.Option.{option_map_or}
use Rattle.std.specs.Str.{bytes_eq}
use Rattle.std.proofs.lemmas.Option.{slice_get_within}
use Rattle.least.specs.Numbered.{IsNumbering}
use Rattle.least.specs.Tables.{Member, member, home}
use Rattle.unit_read.specs.Units.{Unit}
use Rattle.own_functions.specs.Functions.{Named, name_in, functions, names, first_of, is_own, number, member_at}
use Rattle.own_functions.proofs.NameLemmas.{both_true, same_bytes, same_number, place_there, mapped_there}

-- what a number says of its member
record IsNumber (kind : ℕ) (u : Unit) (m : Member) (i : ℕ) : Type 0 where
  pub of : m.kind ≡ kind
  pub path : m.path ≡ u.path
  pub place : first_of u m.name ≡ Some i
  pub function : Named
  pub there : slice_get (functions u) i ≡ Some function
  pub name : function.0 ≡ m.name

own_parts : (kind : ℕ) (u : Unit) (m : Member) → is_own kind u m ≡ true → (m.kind ≡ kind) × (m.path ≡ u.path)
own_parts kind u m e = let both = both_true (m.kind == kind) (bytes_eq m.path u.path) e in (same_number m.kind kind both.0, same_bytes m.path u.path both.1)

number_is : (kind : ℕ) (u : Unit) (m : Member) (i : ℕ) → number kind u m ≡ Some i → IsNumber kind u m i
number_is kind u m i e = by (is_own kind u m) refl e where
  by : (b : Bool) → is_own kind u m ≡ b → (if b then first_of u m.name else None) ≡ Some i → IsNumber kind u m i
  by true own e =
      let parts = own_parts kind u m own in
      let (x, there, is) = mapped_there name_in (functions u) i m.name (place_there (names u) m.name i e) in
      record { of = parts.0; path = parts.1; place = e; function = x; there = there; name = is }
  by false own e = absurd (cc)

same_member : (a b : Member) → a.path ≡ b.path → a.name ≡ b.name → a.kind ≡ b.kind → a ≡ b
same_member a b e f g = ap (λ x. member x a.name a.kind) e ∙ (ap (λ x. member b.path x a.kind) f ∙ ap (λ x. member b.path b.name x) g)

pub number_named : (kind : ℕ) (u : Unit) (m : Member) (i : ℕ) → number kind u m ≡ Some i → member_at kind u i ≡ m
number_named kind u m i e =
    let n = number_is kind u m i e in
    same_member (member_at kind u i) m (sym n.path) (ap (λ (o : Option Named). option_map_or name_in o []) n.there ∙ n.name) (sym n.of)

pub number_below : (kind : ℕ) (u : Unit) (m : Member) (i : ℕ) → number kind u m ≡ Some i → i < length (functions u)
number_below kind u m i e = let n = number_is kind u m i e in slice_get_within (functions u) i n.function n.there

number_inside : (kind : ℕ) (u : Unit) (m : Member) (i : ℕ) → number kind u m ≡ Some i → home m ≡ u.path
number_inside kind u m i e = (number_is kind u m i e).path

-- where what has no number isn't admitted
pub numbered : (admits : (Member → Bool) → Member → Type 0) (kind : ℕ) (u : Unit) → ((N : Member → Bool) (m : Member) → number kind u m ≡ None → admits N m → ⊥)
    → IsNumbering home admits u.path (length (functions u)) (number kind u) (member_at kind u)
numbered admits kind u others = record {
  own = λ i low. refl;
  inside = λ m i e. number_inside kind u m i e;
  below = λ m i e. number_below kind u m i e;
  named = λ m i e. number_named kind u m i e;
  others = λ N m at none it. others N m none it;
}
