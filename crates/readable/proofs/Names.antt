-- Some texts in byte order, each once.
use Rattle.std.proofs.Common.{◌≡◌, ℕ, zero, suc, ◌<◌, ◌⊎◌, inl, inr, Bool, true, false, List, [], ◌∷◌, length, refl, ap, sym, ◌∙◌, subst, arith}
use Rattle.std.specs.List.{AllByRecursion, AllPairs, Contains}
use Rattle.std.specs.Cmp.Lexicographic.{slice_cmp}
use Rattle.std.specs.Ordering.{nat_cmp}
use Rattle.std.specs.declared.cmp.Ordering.{Ordering}
use Rattle.std.specs.declared.cmp.Ordering.TheVariants.{Less, Equal, Greater}
use Rattle.gv_base.specs.Files.{is_before}
use Rattle.gv_base.proofs.FileLemmas.{after-flip, before-trans, less-before, same-path}
use Rattle.import_graph.proofs.OrderLemmas.{contains-cases, contains-head, contains-tail}

-- each stands before those behind it
abbrev pub Rising : List (List ℕ) → Type 0
Rising [] = Unit {0}
Rising (n ∷ ns) = AllByRecursion (λ (m : List ℕ). is_before n m ≡ true) ns × Rising ns

abbrev put_by : Ordering → List ℕ → List ℕ → List (List ℕ) → List (List ℕ) → List (List ℕ)
put_by Less t n ns more = t ∷ n ∷ ns
put_by Equal t n ns more = n ∷ ns
put_by Greater t n ns more = n ∷ more

-- a text among texts in order
abbrev put : List ℕ → List (List ℕ) → List (List ℕ)
put t [] = t ∷ []
put t (n ∷ ns) = put_by (slice_cmp nat_cmp t n) t n ns (put t ns)

abbrev pub names_of : List (List ℕ) → List (List ℕ)
names_of [] = []
names_of (t ∷ ts) = put t (names_of ts)

-- ---- what stands in it

into_by : (o : Ordering) (t n : List ℕ) (ns more : List (List ℕ)) (x : List ℕ) → (Contains more x → (t ≡ x) ⊎ Contains ns x) → Contains (put_by o t n ns more) x → (t ≡ x) ⊎ Contains (n ∷ ns) x
into_by Less t n ns more x ih c = contains-cases t (n ∷ ns) x c
into_by Equal t n ns more x ih c = inr c
into_by Greater t n ns more x ih c = elim (contains-cases n more x c) [
  | inl e ↦ inr (subst (Contains (n ∷ ns)) e (contains-head n ns))
  | inr h ↦ elim (ih h) [ inl e ↦ inl e | inr k ↦ inr (contains-tail n ns x k) ]
]

put_into : (t : List ℕ) (ns : List (List ℕ)) (x : List ℕ) → Contains (put t ns) x → (t ≡ x) ⊎ Contains ns x
put_into t [] x c = contains-cases t [] x c
put_into t (n ∷ ns) x c = into_by (slice_cmp nat_cmp t n) t n ns (put t ns) x (put_into t ns x) c

keeps_by : (o : Ordering) (t n : List ℕ) (ns more : List (List ℕ)) (x : List ℕ) → (Contains ns x → Contains more x) → Contains (n ∷ ns) x → Contains (put_by o t n ns more) x
keeps_by Less t n ns more x ih c = contains-tail t (n ∷ ns) x c
keeps_by Equal t n ns more x ih c = c
keeps_by Greater t n ns more x ih c = elim (contains-cases n ns x c) [ inl e ↦ subst (Contains (n ∷ more)) e (contains-head n more) | inr h ↦ contains-tail n more x (ih h) ]

put_keeps : (t : List ℕ) (ns : List (List ℕ)) (x : List ℕ) → Contains ns x → Contains (put t ns) x
put_keeps t [] x c = contains-tail t [] x c
put_keeps t (n ∷ ns) x c = keeps_by (slice_cmp nat_cmp t n) t n ns (put t ns) x (put_keeps t ns x) c

has_by : (o : Ordering) (t n : List ℕ) (ns more : List (List ℕ)) → slice_cmp nat_cmp t n ≡ o → Contains more t → Contains (put_by o t n ns more) t
has_by Less t n ns more is ih = contains-head t (n ∷ ns)
has_by Equal t n ns more is ih = subst (Contains (n ∷ ns)) (sym (same-path t n is)) (contains-head n ns)
has_by Greater t n ns more is ih = contains-tail n more t ih

put_has : (t : List ℕ) (ns : List (List ℕ)) → Contains (put t ns) t
put_has t [] = contains-head t []
put_has t (n ∷ ns) = has_by (slice_cmp nat_cmp t n) t n ns (put t ns) refl (put_has t ns)

pub names_from : (ts : List (List ℕ)) (x : List ℕ) → Contains (names_of ts) x → Contains ts x
names_from [] x c = c
names_from (t ∷ ts) x c = elim (put_into t (names_of ts) x c) [ inl e ↦ subst (Contains (t ∷ ts)) e (contains-head t ts) | inr h ↦ contains-tail t ts x (names_from ts x h) ]

pub names_have : (ts : List (List ℕ)) (x : List ℕ) → Contains ts x → Contains (names_of ts) x
names_have [] x c = c
names_have (t ∷ ts) x c = elim (contains-cases t ts x c) [ inl e ↦ subst (Contains (put t (names_of ts))) e (put_has t (names_of ts)) | inr h ↦ put_keeps t (names_of ts) x (names_have ts x h) ]

-- ---- its order

all_by : (o : Ordering) (P : List ℕ → Type 0) (t n : List ℕ) (ns more : List (List ℕ)) → P t → AllByRecursion P (n ∷ ns) → AllByRecursion P more → AllByRecursion P (put_by o t n ns more)
all_by Less P t n ns more one all rest = (one, all)
all_by Equal P t n ns more one all rest = all
all_by Greater P t n ns more one all rest = (all.0, rest)

all_put : (P : List ℕ → Type 0) (t : List ℕ) (ns : List (List ℕ)) → P t → AllByRecursion P ns → AllByRecursion P (put t ns)
all_put P t [] one all = (one, tt)
all_put P t (n ∷ ns) one all = all_by (slice_cmp nat_cmp t n) P t n ns (put t ns) one all (all_put P t ns one all.1)

all_beyond : (t n : List ℕ) (ns : List (List ℕ)) → is_before t n ≡ true → AllByRecursion (λ (m : List ℕ). is_before n m ≡ true) ns → AllByRecursion (λ (m : List ℕ). is_before t m ≡ true) ns
all_beyond t n [] first all = tt
all_beyond t n (m ∷ ms) first all = (before-trans t n m first all.0, all_beyond t n ms first all.1)

rising_by : (o : Ordering) (t n : List ℕ) (ns more : List (List ℕ)) → slice_cmp nat_cmp t n ≡ o → Rising (n ∷ ns) → (is_before n t ≡ true → AllByRecursion (λ (m : List ℕ). is_before n m ≡ true) more) → Rising more → Rising (put_by o t n ns more)
rising_by Less t n ns more is rising all rest = ((less-before t n is, all_beyond t n ns (less-before t n is) rising.0), rising)
rising_by Equal t n ns more is rising all rest = rising
rising_by Greater t n ns more is rising all rest = (all (after-flip t n is), rest)

put_rising : (t : List ℕ) (ns : List (List ℕ)) → Rising ns → Rising (put t ns)
put_rising t [] rising = (tt, tt)
put_rising t (n ∷ ns) rising =
    rising_by (slice_cmp nat_cmp t n) t n ns (put t ns) refl rising (λ before. all_put (λ (m : List ℕ). is_before n m ≡ true) t ns before rising.0) (put_rising t ns rising.1)

pub names_rising : (ts : List (List ℕ)) → Rising (names_of ts)
names_rising [] = tt
names_rising (t ∷ ts) = put_rising t (names_of ts) (names_rising ts)
