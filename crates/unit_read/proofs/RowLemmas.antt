-- A row of places is filled one after the other.
use Rattle.std.proofs.Common.{◌≡◌, ℕ, ◌<◌, ◌≤◌, ◌+◌, ◌==◌, Bool, true, false, if◌then◌else◌, List, [], ◌∷◌, ◌++◌, length, slice_index_or, Option, Some, None, refl, sym, ap, ◌∙◌, subst, arith}
use Rattle.package_objects.specs.Declares.{gather}
use Rattle.package_objects.proofs.GatherLemmas.{gather_next}
use Rattle.unit_read.specs.declared.place.Place.{Place}
use Rattle.unit_read.specs.declared.place.Standing.{Standing}
use Rattle.unit_read.specs.Places.{first_for, put_at, Puts, first_of, PutsAll}

of_none : {X : Type 0} (o : Option X) → first_of o None ≡ o
of_none None = refl
of_none (Some x) = refl

of_more : {X : Type 0} (a b c : Option X) → first_of (first_of a b) c ≡ first_of a (first_of b c)
of_more None b c = refl
of_more (Some x) b c = refl

for_join : (n : ℕ) (xs ys : List Standing) → first_for n (xs ++ ys) ≡ first_of (first_for n xs) (first_for n ys)
for_join n [] ys = refl
for_join n (s ∷ xs) ys = by (for_join n xs ys) (s.node == n) where
  by : first_for n (xs ++ ys) ≡ first_of (first_for n xs) (first_for n ys)
      → (b : Bool) → (if b then Some s.place else first_for n (xs ++ ys)) ≡ first_of (if b then Some s.place else first_for n xs) (first_for n ys)
  by more true = refl
  by more false = more

pub puts_none : (row : List (Option Place)) (list : List Standing) → list ≡ [] → PutsAll row row list
puts_none row list empty = record { size = refl; each = λ n low. sym (ap (λ (xs : List Standing). first_of (slice_index_or row n None) (first_for n xs)) empty ∙ of_none (slice_index_or row n None)) }

pub puts_one : (old new : List (Option Place)) (s : Standing) → Puts old new s → PutsAll old new (s ∷ [])
puts_one old new s puts = record { size = puts.size; each = λ n low. puts.each n low ∙ by (slice_index_or old n None) (s.node == n) } where
  by : (o : Option Place) (b : Bool) → put_at o b s.place ≡ first_of o (if b then Some s.place else None)
  by (Some p) b = refl
  by None true = refl
  by None false = refl

puts_join : (old mid new : List (Option Place)) (xs ys : List Standing) → PutsAll old mid xs → PutsAll mid new ys → PutsAll old new (xs ++ ys)
puts_join old mid new xs ys a b = record {
  size = b.size ∙ a.size;
  each = λ n low.
      b.each n (let s = a.size in omega (arith, s))
      ∙ (ap (λ (o : Option Place). first_of o (first_for n ys)) (a.each n low)
      ∙ (of_more (slice_index_or old n None) (first_for n xs) (first_for n ys) ∙ ap (λ (o : Option Place). first_of (slice_index_or old n None) o) (sym (for_join n xs ys))));
}

-- one number more
pub puts_more : (g : ℕ → List Standing) (i : ℕ) (old mid new : List (Option Place)) → PutsAll old mid (gather g i) → PutsAll mid new (g i) → PutsAll old new (gather g (i + 1))
puts_more g i old mid new a b = subst (λ (xs : List Standing). PutsAll old new xs) (gather_next g i) (puts_join old mid new (gather g i) (g i) a b)

-- all numbers
pub puts_all : (g : ℕ → List Standing) (i n : ℕ) (old new : List (Option Place)) → n ≤ i → i ≤ n → PutsAll old new (gather g i) → PutsAll old new (gather g n)
puts_all g i n old new low high a = let same : i ≡ n = omega arith in subst (λ (k : ℕ). PutsAll old new (gather g k)) same a

-- in a row in which nothing stood
pub puts_first : (old new : List (Option Place)) (list : List Standing) (count : ℕ) → length old ≡ count → ((n : ℕ) → n < count → slice_index_or old n None ≡ None) → PutsAll old new list
    → (n : ℕ) → n < count → slice_index_or new n None ≡ first_for n list
puts_first old new list count size blank puts n low = puts.each n (omega (arith, size)) ∙ ap (λ (o : Option Place). first_of o (first_for n list)) (blank n low)
