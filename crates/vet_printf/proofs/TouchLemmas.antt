-- Rows of flags, more set at a time.
use Rattle.std.proofs.Common.{◌≡◌, ◌⊎◌, ◌<◌, ◌≤◌, ◌+◌, ◌==◌, inl, inr, ℕ, zero, suc, Bool, true, false, ◌||◌, List, [], ◌∷◌, ◌++◌, take, length, set, replicate, Option, Some, None, refl, sym, ap, ◌∙◌, subst, arith}
use Rattle.std.specs.Prelude.{slice_get}
use Rattle.std.specs.List.{list_any}
use Rattle.std.specs.Option.{option_map_or}
use Rattle.std.proofs.lemmas.Bool.{cases_eq, eqb-true, eq-eqb}
use Rattle.std.proofs.lemmas.List.{get_or-set_other, get_or-set_same, length-set}
use Rattle.go_tree.specs.declared.tree.Node.{Node}
use Rattle.unit_read.specs.Units.{Unit}
use Rattle.vet_printf.specs.Forwards.{touches, IsMore, AreTouched}
use Rattle.vet_printf.specs.InTable.{flag_at}
use Rattle.vet_printf.proofs.ReaderLemmas.{same_some, either}

or_false : (b : Bool) → (b || false) ≡ b
or_false true = refl
or_false false = refl

or_true : (b : Bool) → (b || true) ≡ true
or_true true = refl
or_true false = refl

or_assoc : (a b c : Bool) → ((a || b) || c) ≡ (a || (b || c))
or_assoc true b c = refl
or_assoc false b c = refl

falls : (b : Bool) → (b ≡ true → ⊥) → b ≡ false
falls true none = absurd (none refl)
falls false none = refl

apart : (q m : ℕ) → (q ≡ m → ⊥) → (q == m) ≡ false
apart q m ne = falls (q == m) (λ e. ne (eqb-true q m e))

pub more_none : (test : ℕ → Bool) (row : List Bool) → ((m : ℕ) → m < length row → test m ≡ false) → IsMore test row row
more_none test row none = record { size = refl; each = λ m low. sym (ap (λ b. flag_at row m || b) (none m low) ∙ or_false (flag_at row m)) }

pub more_as : (s t : ℕ → Bool) (old new : List Bool) → IsMore s old new → ((m : ℕ) → s m ≡ t m) → IsMore t old new
more_as s t old new more same = record { size = more.size; each = λ m low. more.each m low ∙ ap (λ b. flag_at old m || b) (same m) }

pub more_then : (s t : ℕ → Bool) (a b c : List Bool) → IsMore s a b → IsMore t b c → IsMore (λ m. s m || t m) a c
more_then s t a b c one other = record {
  size = other.size ∙ one.size;
  each = λ m low. (
      other.each m (subst (λ (n : ℕ). m < n) (sym one.size) low)
      ∙ (ap (λ x. x || t m) (one.each m low) ∙ or_assoc (flag_at a m) (s m) (t m))
      );
}

pub touch_in : (row new : List Bool) (q : ℕ) → q < length row → new ≡ set row q true → IsMore (λ m. q == m) row new
touch_in row new q low is = subst (λ (l : List Bool). IsMore (λ m. q == m) row l) (sym is) (record {
  size = length-set row q true;
  each = λ m under. either (cases_eq m q)
      (λ e. ap (λ k. flag_at (set row q true) k) e ∙ (get_or-set_same row q true false low ∙ sym (ap (λ b. flag_at row m || b) (eq-eqb q m (sym e)) ∙ or_true (flag_at row m))))
      (λ ne. get_or-set_other row q m true false ne ∙ sym (ap (λ b. flag_at row m || b) (apart q m (λ h. ne (sym h))) ∙ or_false (flag_at row m)));
})

pub touch_out : (row : List Bool) (q : ℕ) → length row ≤ q → IsMore (λ m. q == m) row row
touch_out row q high = more_none (λ m. q == m) row (λ m low. apart q m (λ e. (let same : q ≡ m = e in omega (arith, high, low, same))))

-- ---- lists

any_none : {X : Type 0} (test : X → Bool) (xs : List X) → xs ≡ [] → list_any test xs ≡ false
any_none test xs is = ap (list_any test) is

any_suc : {X : Type 0} (test : X → Bool) (xs : List X) (i : ℕ) → list_any test (take (suc i) xs) ≡ (list_any test (take i xs) || option_map_or test (slice_get xs i) false)
any_suc test [] zero = refl
any_suc test [] (suc i) = refl
any_suc test (x ∷ xs) zero = or_false (test x)
any_suc test (x ∷ xs) (suc i) = ap (λ b. test x || b) (any_suc test xs i) ∙ sym (or_assoc (test x) (list_any test (take i xs)) (option_map_or test (slice_get xs i) false))

pub any_take : {X : Type 0} (test : X → Bool) (xs : List X) (i : ℕ) → list_any test (take (i + 1) xs) ≡ (list_any test (take i xs) || option_map_or test (slice_get xs i) false)
any_take test xs i = let step : i + 1 ≡ suc i = omega arith in ap (λ n. list_any test (take n xs)) step ∙ any_suc test xs i

pub any_whole : {X : Type 0} (test : X → Bool) (xs : List X) (i : ℕ) → i ≡ length xs → list_any test (take i xs) ≡ list_any test xs
any_whole {X} test xs i e = ap (list_any test) (ap (λ n. take n xs) e ∙ whole xs) where
  whole : (ys : List X) → take (length ys) ys ≡ ys
  whole [] = refl
  whole (y ∷ ys) = ap (λ l. y ∷ l) (whole ys)

flag_none : (count m : ℕ) → flag_at (replicate count false) m ≡ false
flag_none zero m = refl
flag_none (suc count) zero = refl
flag_none (suc count) (suc m) = flag_none count m

counted : (count : ℕ) → length (replicate count false) ≡ count
counted zero = refl
counted (suc count) = ap suc (counted count)

module _ (u : Unit) (f : ℕ) where
  pub none_touched : (count : ℕ) (nodes : List Node) (row : List Bool) → row ≡ replicate count false → nodes ≡ [] → AreTouched u f count nodes row
  none_touched count nodes row is none = record {
    size = ap length is ∙ counted count;
    each = λ m low. ap (λ l. flag_at l m) is ∙ (flag_none count m ∙ sym (any_none (touches u f m) nodes none));
  }

  pub touched_more : (count : ℕ) (nodes : List Node) (i : ℕ) (x : Node) (row new : List Bool) → slice_get nodes i ≡ Some x → AreTouched u f count (take i nodes) row → IsMore (λ m. touches u f m x) row new
      → AreTouched u f count (take (i + 1) nodes) new
  touched_more count nodes i x row new at were more = record {
    size = more.size ∙ were.size;
    each = λ m low. (
        more.each m (subst (λ (n : ℕ). m < n) (sym were.size) low)
        ∙ (ap (λ b. b || touches u f m x) (were.each m low)
        ∙ sym (any_take (touches u f m) nodes i ∙ ap (λ o. list_any (touches u f m) (take i nodes) || option_map_or (touches u f m) o false) at))
        );
  }

  pub all_touched : (count : ℕ) (nodes : List Node) (i : ℕ) (row : List Bool) → i ≡ length nodes → AreTouched u f count (take i nodes) row → AreTouched u f count nodes row
  all_touched count nodes i row e were = record { size = were.size; each = λ m low. were.each m low ∙ any_whole (touches u f m) nodes i e }

pub any_at : {X : Type 0} (test : X → Bool) (xs : List X) (i : ℕ) → option_map_or test (slice_get xs i) false ≡ true → list_any test xs ≡ true
any_at test [] i e = absurd cc
any_at test (x ∷ xs) zero e = ap (λ b. b || list_any test xs) e
any_at test (x ∷ xs) (suc i) e = ap (λ b. test x || b) (any_at test xs i e) ∙ or_true (test x)

pub any_fails : {X : Type 0} (test : X → Bool) (xs : List X) (i : ℕ) → list_any test (take i xs) ≡ false → option_map_or test (slice_get xs i) false ≡ false → list_any test (take (i + 1) xs) ≡ false
any_fails test xs i e h = any_take test xs i ∙ (ap (λ b. b || option_map_or test (slice_get xs i) false) e ∙ h)

got : (row : List Bool) (q : ℕ) (b : Bool) → Some b ≡ slice_get row q → (b ≡ flag_at row q) × (q < length row)
got [] q b e = absurd cc
got (x ∷ row) zero b e = (same_some e, omega arith)
got (x ∷ row) (suc q) b e = let r = got row q b e in (r.0, (let low = r.1 in omega (arith, low)))

-- a flag that is there
pub flag_got : (u : Unit) (f count : ℕ) (nodes : List Node) (row : List Bool) (q : ℕ) (b : Bool) → Some b ≡ slice_get row q → AreTouched u f count nodes row → b ≡ list_any (touches u f q) nodes
flag_got u f count nodes row q b at are = let g = got row q b at in g.0 ∙ are.each q (subst (λ (n : ℕ). q < n) are.size g.1)
