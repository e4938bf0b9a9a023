-- The numbers of the items that pass a test, and answers of a test that isn't computed.
use Rattle.std.proofs.Common.{◌≡◌, ℕ, zero, suc, ◌+◌, ◌<◌, ◌≤◌, inl, inr, Bool, true, false, cond, Some, None, List, [], ◌∷◌, length, slice_get, slice_index, refl, ap, sym, ◌∙◌, subst, arith}
use Rattle.std.specs.List.{AllByRecursion, Contains}
use Rattle.std.specs.List.Sorted.{IsStrictlyIncreasing}
use Rattle.import_graph.specs.Packages.{numbers_from}
use Rattle.import_graph.proofs.OrderLemmas.{contains-cases, contains-head, contains-tail}

-- ---- which numbers they are

pub record Passed {A : Type 0} (test : A → Bool) (n : ℕ) (xs : List A) (m : ℕ) : Type 0 where
  pub place : ℕ
  pub item : A
  pub number : m ≡ n + place
  pub stands : slice_get xs place ≡ Some item
  pub told : test item ≡ true

passed_later : {A : Type 0} (test : A → Bool) (n : ℕ) (y : A) (ys : List A) (m : ℕ) → Passed test (suc n) ys m → Passed test n (y ∷ ys) m
passed_later test n y ys m r = record { place = suc r.place; item = r.item; number = (let e = r.number in omega (arith, e)); stands = r.stands; told = r.told }

passed_by : {A : Type 0} (test : A → Bool) (n : ℕ) (y : A) (ys : List A) (m : ℕ) (b : Bool) → test y ≡ b → (Contains (numbers_from test (suc n) ys) m → Passed test (suc n) ys m)
    → Contains (cond b (n ∷ numbers_from test (suc n) ys) (numbers_from test (suc n) ys)) m → Passed test n (y ∷ ys) m
passed_by test n y ys m false is more c = passed_later test n y ys m (more c)
passed_by test n y ys m true is more c = elim (contains-cases n (numbers_from test (suc n) ys) m c) [
  | inl e ↦ record { place = 0; item = y; number = omega (arith, e); stands = refl; told = is }
  | inr h ↦ passed_later test n y ys m (more h)
]

pub numbers_in : {A : Type 0} (test : A → Bool) (n : ℕ) (xs : List A) (m : ℕ) → Contains (numbers_from test n xs) m → Passed test n xs m
numbers_in test n [] m (k, l, e) = absurd (omega (arith, l))
numbers_in test n (y ∷ ys) m c = passed_by test n y ys m (test y) refl (numbers_in test (suc n) ys m) c

first_in : (b : Bool) (n : ℕ) (ns : List ℕ) (m : ℕ) → b ≡ true → n ≡ m → Contains (cond b (n ∷ ns) ns) m
first_in true n ns m is same = subst (Contains (n ∷ ns)) same (contains-head n ns)
first_in false n ns m is same = absurd (cc)

later_in : (b : Bool) (n : ℕ) (ns : List ℕ) (m : ℕ) → Contains ns m → Contains (cond b (n ∷ ns) ns) m
later_in true n ns m c = contains-tail n ns m c
later_in false n ns m c = c

pub in_numbers : {A : Type 0} (test : A → Bool) (n : ℕ) (xs : List A) (m : ℕ) → Passed test n xs m → Contains (numbers_from test n xs) m
in_numbers {A} test n xs m r = at n xs r.place r.number r.stands
  where
    at : (n : ℕ) (xs : List A) (k : ℕ) → m ≡ n + k → slice_get xs k ≡ Some r.item → Contains (numbers_from test n xs) m
    at n [] k e stands = absurd (let f : None ≡ Some r.item = stands in cc)
    at n (y ∷ ys) zero e stands =
        let f : Some y ≡ Some r.item = stands in
        let g : y ≡ r.item = cc in
        first_in (test y) n (numbers_from test (suc n) ys) m (ap test g ∙ r.told) (omega (arith, e))
    at n (y ∷ ys) (suc k) e stands = later_in (test y) n (numbers_from test (suc n) ys) m (at (suc n) ys k (omega (arith, e)) stands)

-- ---- they rise

above_by : (b : Bool) (j n : ℕ) (ns : List ℕ) → j < n → AllByRecursion (λ (m : ℕ). j < m) ns → AllByRecursion (λ (m : ℕ). j < m) (cond b (n ∷ ns) ns)
above_by true j n ns lt all = (lt, all)
above_by false j n ns lt all = all

above : {A : Type 0} (test : A → Bool) (n : ℕ) (xs : List A) (j : ℕ) → j < n → AllByRecursion (λ (m : ℕ). j < m) (numbers_from test n xs)
above test n [] j lt = tt
above test n (y ∷ ys) j lt = above_by (test y) j n (numbers_from test (suc n) ys) lt (above test (suc n) ys j (omega (arith, lt)))

rising_cons : (x : ℕ) (xs : List ℕ) → AllByRecursion (λ (m : ℕ). x < m) xs → IsStrictlyIncreasing xs → IsStrictlyIncreasing (x ∷ xs)
rising_cons x [] all rising k within = absurd (omega (arith, within))
rising_cons x (y ∷ ys) all rising zero within = all.0
rising_cons x (y ∷ ys) all rising (suc k) within =
    let e : suc (k + 1) ≡ suc k + 1 = omega arith in
    subst (λ (n : ℕ). slice_index (y ∷ ys) k < slice_index (x ∷ y ∷ ys) n) e (rising k (omega (arith, within)))

rising_by : (b : Bool) (n : ℕ) (ns : List ℕ) → AllByRecursion (λ (m : ℕ). n < m) ns → IsStrictlyIncreasing ns → IsStrictlyIncreasing (cond b (n ∷ ns) ns)
rising_by true n ns all rising = rising_cons n ns all rising
rising_by false n ns all rising = rising

pub numbers_rise : {A : Type 0} (test : A → Bool) (n : ℕ) (xs : List A) → IsStrictlyIncreasing (numbers_from test n xs)
numbers_rise test n [] = λ k within. absurd (omega (arith, within))
numbers_rise test n (y ∷ ys) = rising_by (test y) n (numbers_from test (suc n) ys) (above test (suc n) ys n (omega arith)) (numbers_rise test (suc n) ys)

-- ---- what holds of each of n numbers isn't without a table

pub record Table (P : ℕ → Type 0) (n : ℕ) : Type 0 where
  pub tells : ℕ → Bool
  pub so : (k : ℕ) → k < n → tells k ≡ true → P k
  pub told : (k : ℕ) → k < n → P k → tells k ≡ true

abbrev shifted : Bool → (ℕ → Bool) → ℕ → Bool
shifted b tells zero = b
shifted b tells (suc k) = tells k

table_more : (P : ℕ → Type 0) (n : ℕ) (b : Bool) → (b ≡ true → P 0) → (P 0 → b ≡ true) → Table (λ (k : ℕ). P (suc k)) n → Table P (suc n)
table_more P n b so told t = record { tells = shifted b t.tells; so = so_at; told = told_at }
  where
    so_at : (k : ℕ) → k < suc n → shifted b t.tells k ≡ true → P k
    so_at zero lt h = so h
    so_at (suc k) lt h = t.so k (omega (arith, lt)) h

    told_at : (k : ℕ) → k < suc n → P k → shifted b t.tells k ≡ true
    told_at zero lt h = told h
    told_at (suc k) lt h = t.told k (omega (arith, lt)) h

pub table : (P : ℕ → Type 0) (n : ℕ) → (Table P n → ⊥) → ⊥
table P zero none = none (record { tells = λ k. false; so = λ k lt h. absurd (omega (arith, lt)); told = λ k lt h. absurd (omega (arith, lt)) })
table P (suc n) none = table (λ (k : ℕ). P (suc k)) n (λ t.
    none (table_more P n false (λ h. absurd (cc)) (λ p. absurd (none (table_more P n true (λ h. p) (λ q. refl) t))) t))
