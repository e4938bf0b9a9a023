-- Buckets, with one more in one of them.
use Rattle.std.proofs.Common.{◌≡◌, ◌⊎◌, ◌<◌, ◌==◌, inl, inr, ℕ, zero, suc, Bool, true, false, ◌||◌, List, [], ◌∷◌, ◌++◌, length, set, replicate, Option, Some, None, refl, sym, ap, ◌∙◌, subst, if◌then◌else◌, arith}
use Rattle.std.specs.Prelude.{slice_set}
use Rattle.std.specs.List.{list_any}
use Rattle.std.proofs.lemmas.Bool.{cases_eq, eqb-true, eq-eqb}
use Rattle.std.proofs.lemmas.List.{get_or-set_other, get_or-set_same, length-set, append-nil}
use Rattle.least.specs.Tables.{Member}
use Rattle.vet_printf.specs.InTable.{flag_at, row_of}
use Rattle.vet_printf.specs.Handing.{with_number, numbers_in, listed_number, with_one, AreBuckets}
use Rattle.vet_printf.proofs.ReaderLemmas.{either}

falls : (b : Bool) → (b ≡ true → ⊥) → b ≡ false
falls true none = absurd (none refl)
falls false none = refl

or_false : (b : Bool) → (b || false) ≡ b
or_false true = refl
or_false false = refl

or_assoc : (a b c : Bool) → ((a || b) || c) ≡ (a || (b || c))
or_assoc true b c = refl
or_assoc false b c = refl

or_true : (b : Bool) → (b || true) ≡ true
or_true true = refl
or_true false = refl

-- ---- lists

any_end : (given : Member → Bool) (list : List Member) (g : Member) → list_any given (list ++ g ∷ []) ≡ (list_any given list || given g)
any_end given [] g = or_false (given g)
any_end given (x ∷ list) g = ap (λ b. given x || b) (any_end given list g) ∙ sym (or_assoc (given x) (list_any given list) (given g))

with_end : (o : Option ℕ) (a b : List ℕ) → with_number o (a ++ b) ≡ with_number o a ++ b
with_end None a b = refl
with_end (Some j) a b = refl

only_one : (o : Option ℕ) → with_number o [] ≡ listed_number o
only_one None = refl
only_one (Some j) = refl

numbers_end : (number : Member → Option ℕ) (list : List Member) (g : Member) → numbers_in number (list ++ g ∷ []) ≡ numbers_in number list ++ listed_number (number g)
numbers_end number [] g = only_one (number g)
numbers_end number (x ∷ list) g = ap (with_number (number x)) (numbers_end number list g) ∙ with_end (number x) (numbers_in number list) (listed_number (number g))

pub one_here : (lists : ℕ → List Member) (i : ℕ) (g : Member) (k : ℕ) → k ≡ i → with_one lists i g k ≡ lists k ++ g ∷ []
one_here lists i g k e = ap (λ b. if b then lists k ++ g ∷ [] else lists k) (eq-eqb k i e)

pub one_else : (lists : ℕ → List Member) (i : ℕ) (g : Member) (k : ℕ) → (k ≡ i → ⊥) → with_one lists i g k ≡ lists k
one_else lists i g k ne = ap (λ b. if b then lists k ++ g ∷ [] else lists k) (falls (k == i) (λ e. ne (eqb-true k i e)))

-- ---- flags

settled_size : (settled : List Bool) (i : ℕ) (b : Bool) → length (if b then set settled i true else settled) ≡ length settled
settled_size settled i true = length-set settled i true
settled_size settled i false = refl

settled_here : (settled : List Bool) (i : ℕ) (b : Bool) → i < length settled → flag_at (if b then set settled i true else settled) i ≡ (flag_at settled i || b)
settled_here settled i true low = get_or-set_same settled i true false low ∙ sym (or_true (flag_at settled i))
settled_here settled i false low = sym (or_false (flag_at settled i))

settled_else : (settled : List Bool) (i : ℕ) (b : Bool) (k : ℕ) → (k ≡ i → ⊥) → flag_at (if b then set settled i true else settled) k ≡ flag_at settled k
settled_else settled i true k ne = get_or-set_other settled i k true false ne
settled_else settled i false k ne = refl

-- ---- buckets

flag_none : (count m : ℕ) → flag_at (replicate count false) m ≡ false
flag_none zero m = refl
flag_none (suc count) zero = refl
flag_none (suc count) (suc m) = flag_none count m

counted : (count : ℕ) → length (replicate count false) ≡ count
counted zero = refl
counted (suc count) = ap suc (counted count)

pub empty_buckets : (count : ℕ) (settled : List Bool) (parts : List (List ℕ)) → settled ≡ replicate count false → length parts ≡ count → ((j : ℕ) → row_of parts j ≡ []) → (given : Member → Bool) (number : Member → Option ℕ)
    → AreBuckets count (λ (i : ℕ). []) given number settled parts
empty_buckets count settled parts is size empty given number = record {
  flags = ap length is ∙ counted count;
  rows = size;
  settles = λ i low. ap (λ l. flag_at l i) is ∙ flag_none count i;
  numbers = λ i low. empty i;
}

pub bucket_put : (i : ℕ) (handed : Bool) (j : Option ℕ) (settled new : List Bool) (parts more : List (List ℕ)) → i < length settled → i < length parts
    → new ≡ (if handed then set settled i true else settled) → more ≡ slice_set parts i (row_of parts i ++ listed_number j)
    → (count : ℕ) (lists : ℕ → List Member) (given : Member → Bool) (number : Member → Option ℕ) (g : Member) → given g ≡ handed → number g ≡ j → AreBuckets count lists given number settled parts
    → AreBuckets count (with_one lists i g) given number new more
bucket_put i handed j settled new parts more low under is put count lists given number g told at were = record {
  flags = ap length is ∙ (settled_size settled i handed ∙ were.flags);
  rows = ap length put ∙ (length-set parts i (row_of parts i ++ listed_number j) ∙ were.rows);
  settles = λ k inside. ap (λ l. flag_at l k) is ∙ either (cases_eq k i)
      (λ e.
      ap (λ x. flag_at (if handed then set settled i true else settled) x) e
      ∙ (settled_here settled i handed low
      ∙ (ap (λ b. b || handed) (ap (flag_at settled) (sym e) ∙ were.settles k inside)
      ∙ (ap (λ b. list_any given (lists k) || b) (sym told) ∙ (sym (any_end given (lists k) g) ∙ sym (ap (list_any given) (one_here lists i g k e)))))))
      (λ ne. settled_else settled i handed k ne ∙ (were.settles k inside ∙ sym (ap (list_any given) (one_else lists i g k ne))));
  numbers = λ k inside. ap (λ l. row_of l k) put ∙ either (cases_eq k i)
      (λ e.
      ap (λ x. row_of (set parts i (row_of parts i ++ listed_number j)) x) e
      ∙ (get_or-set_same parts i (row_of parts i ++ listed_number j) [] under
      ∙ (ap (λ l. l ++ listed_number j) (ap (row_of parts) (sym e) ∙ were.numbers k inside)
      ∙ (ap (λ o. numbers_in number (lists k) ++ listed_number o) (sym at) ∙ (sym (numbers_end number (lists k) g) ∙ sym (ap (numbers_in number) (one_here lists i g k e)))))))
      (λ ne. get_or-set_other parts i k (row_of parts i ++ listed_number j) [] ne ∙ (were.numbers k inside ∙ sym (ap (numbers_in number) (one_else lists i g k ne))));
}

-- nothing is added: the row is set to what it was
pub set_back : (parts : List (List ℕ)) (i : ℕ) → parts ≡ set parts i (row_of parts i ++ [])
set_back [] i = refl
set_back (row ∷ parts) zero = ap (λ (r : List ℕ). r ∷ parts) (sym (append-nil row))
set_back (row ∷ parts) (suc i) = ap (λ (l : List (List ℕ)). row ∷ l) (set_back parts i)
