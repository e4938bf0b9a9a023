-- Texts are held one by one, and the entries of rows of their numbers are put.
use Rattle.std.proofs.Common.{◌≡◌, ℕ, ◌<◌, ◌≤◌, ◌+◌, ◌⊎◌, Some, None, List, [], ◌∷◌, ◌++◌, length, slice_get, get_or, map, take, refl, sym, ap, ◌∙◌, subst, inl, inr, arith, zero, suc}
use Rattle.std.specs.Prelude.{All}
use Rattle.std.specs.List.{flat_map}
use Rattle.std.proofs.lemmas.Option.{same_Some}
use Rattle.fact_cache.specs.declared.spread.Key.{Key}
use Rattle.fact_cache.specs.declared.kept.Place.{Place}
use Rattle.fact_cache.specs.declared.list.Entry.{Entry}
use Rattle.fact_cache.specs.declared.numbered.Numbered.{Numbered}
use Rattle.fact_cache.specs.Inputs.{Text}
use Rattle.fact_cache.specs.Spread.{bucket_of}
use Rattle.fact_cache.specs.Caches.{lookup, AreDistinct}
use Rattle.fact_cache.specs.Kept.{uses_at, text_at, one_at, AreMixed, IsAbsent, IsThere}
use Rattle.fact_cache.specs.Numbered.{input_in, entry_in, numbers_of, times, AreTaken, AreFreed, entry_bucket, IsCache}
use Rattle.fact_cache.specs.Coded.{nth, decoded, rises, AreApart}
use Rattle.fact_cache.specs.Placed.{place_at, placed, AreBelow, IsHeldNext, IsPut}
use Rattle.fact_cache.proofs.ListFacts.{map-push, length-mapped, get-unmapped}
use Rattle.fact_cache.proofs.LookupLemmas.{lookup-none}
use Rattle.fact_cache.proofs.NumberedLemmas.{take-push, taken-turn, times-append, times-push, one-here, map-agree}
use Rattle.fact_cache.proofs.CacheLemmas.{row-agree, rows-agree, cache-put}
use Rattle.fact_cache.proofs.CodedLemmas.{later, one-is, left-of, right-of, rises-below}
use Rattle.fact_cache.proofs.AgainLemmas.{at-times, texts-used, outcome-used}

lower : (a b : ℕ) → suc a < suc b → a < b
lower a b i = let x : suc a ≡ a + 1 = omega arith in let y : suc b ≡ b + 1 = omega arith in omega (arith, i, x, y)

raise : (a b : ℕ) → a < b → suc a < suc b
raise a b i = let x : suc a ≡ a + 1 = omega arith in let y : suc b ≡ b + 1 = omega arith in omega (arith, i, x, y)

-- where a number stands
position : (ns : List ℕ) (m : ℕ) → 0 < times m ns → (a : ℕ) × (below : a < length ns) × (get_or ns a 0 ≡ m)
position [] m l = absurd (omega (arith, l))
position (n ∷ ns) m l = elim (later (one_at n m) (times m ns) l) [
  | inl here ↦ (0, omega arith, one-is n m here)
  | inr there ↦ let p = position ns m there in (suc p.0, raise p.0 (length ns) p.1, p.2)
]

pub mapped-nth : {X : Type 0} (f : ℕ → X) (d : X) (ns : List ℕ) (a : ℕ) → a < length ns → get_or (map f ns) a d ≡ f (get_or ns a 0)
mapped-nth f d [] a l = absurd (omega (arith, l))
mapped-nth f d (n ∷ ns) zero l = refl
mapped-nth f d (n ∷ ns) (suc a) l = mapped-nth f d ns a (lower a (length ns) l)

taken-nth : (ts : List Text) (i a : ℕ) → a < i → nth (take i ts) a ≡ nth ts a
taken-nth ts zero a l = absurd (omega (arith, l))
taken-nth [] (suc i) a l = refl
taken-nth (t ∷ ts) (suc i) zero l = refl
taken-nth (t ∷ ts) (suc i) (suc a) l = taken-nth ts i a (lower a i l)

taken-length : {X : Type 0} (xs : List X) (i : ℕ) → i ≤ length xs → length (take i xs) ≡ i
taken-length xs zero l = refl
taken-length [] (suc i) l = let x : suc i ≡ i + 1 = omega arith in absurd (omega (arith, l, x))
taken-length (x ∷ xs) (suc i) l = ap (λ k. suc k) (taken-length xs i (under i (length xs) l))
  where
    under : (a b : ℕ) → suc a ≤ suc b → a ≤ b
    under a b i = let x : suc a ≡ a + 1 = omega arith in let y : suc b ≡ b + 1 = omega arith in omega (arith, i, x, y)

-- the text of the place of a number
record AreAt (kept : List Place) (ns : List ℕ) (ts : List Text) (i : ℕ) : Type 0 where
  pub count : length ns ≡ i
  pub texts : (a : ℕ) → a < i → text_at kept (get_or ns a 0) ≡ nth ts a

are-at : (old mid : List Place) (ts : List Text) (ns : List ℕ) (i : ℕ) → i ≤ length ts → AreTaken old mid (take i ts) ns → AreAt mid ns ts i
are-at old mid ts ns i l are =
    let count : length ns ≡ i = sym (length-mapped (text_at mid) ns) ∙ (ap length are.spelled ∙ taken-length ts i l) in
    record {
      count = count;
      texts = λ a below. sym (mapped-nth (text_at mid) [] ns a (subst (λ k. a < k) (sym count) below)) ∙ (ap (λ (l : List Text). nth l a) are.spelled ∙ taken-nth ts i a below);
    }

-- no two of the first texts are equal
abbrev pub AreApartTo : List Text → ℕ → Type 0
AreApartTo ts n = (a b : ℕ) → a < n → b < n → nth ts a ≡ nth ts b → a ≡ b

pub below-or : (a i : ℕ) → a < i + 1 → (a < i) ⊎ (a ≡ i)
below-or zero zero l = inr refl
below-or zero (suc i) l = inl (omega arith)
below-or (suc a) zero l = let x : suc a ≡ a + 1 = omega arith in absurd (omega (arith, l, x))
below-or (suc a) (suc i) l = elim (below-or a i (let x : suc a ≡ a + 1 = omega arith in let y : suc i ≡ i + 1 = omega arith in omega (arith, l, x, y))) [
  | inl m ↦ inl (raise a i m)
  | inr e ↦ inr (ap (λ k. suc k) e)
]

clash : (old mid : List Place) (ts : List Text) (ns : List ℕ) (i a : ℕ) → AreTaken old mid (take i ts) ns → i < length ts → IsAbsent mid (nth ts i) → a < i → nth ts a ≡ nth ts i → ⊥
clash old mid ts ns i a are inside absent below same =
    let at : AreAt mid ns ts i = are-at old mid ts ns i (omega (arith, inside)) are in
    let used : 0 < uses_at mid (get_or ns a 0) =
    left-of (uses_at mid (get_or ns a 0)) (times (get_or ns a 0) ns) (uses_at old (get_or ns a 0)) (are.more (get_or ns a 0)) (at-times ns a 0 (subst (λ k. a < k) (sym at.count) below)) in
    absent (get_or ns a 0) used (at.texts a below ∙ same)

pub apart-turn : (old mid : List Place) (ts : List Text) (ns : List ℕ) (i : ℕ) → AreTaken old mid (take i ts) ns → i < length ts → IsAbsent mid (nth ts i) → AreApartTo ts i → AreApartTo ts (i + 1)
apart-turn old mid ts ns i are inside absent apart a b la lb same = elim (below-or a i la) [
  | inl ma ↦ elim (below-or b i lb) [
    | inl mb ↦ apart a b ma mb same
    | inr eb ↦ absurd (clash old mid ts ns i a are inside absent ma (same ∙ ap (nth ts) eb))
  ]
  | inr ea ↦ elim (below-or b i lb) [
    | inl mb ↦ absurd (clash old mid ts ns i b are inside absent mb (sym same ∙ ap (nth ts) ea))
    | inr eb ↦ ea ∙ sym eb
  ]
]

-- a text that is kept already stands among the first
pub not-apart : (old mid : List Place) (ts : List Text) (ns : List ℕ) (i : ℕ) (t : Text) → old ≡ [] → AreTaken old mid (take i ts) ns → i < length ts → t ≡ nth ts i → IsThere mid t → AreApart ts → ⊥
not-apart old mid ts ns i t empty are inside t_is there apart =
    let at : AreAt mid ns ts i = are-at old mid ts ns i (omega (arith, inside)) are in
    let none : uses_at old there.0 ≡ 0 = ap (λ (l : List Place). uses_at l there.0) empty in
    let mentioned : 0 < times there.0 ns = by (uses_at mid there.0) (times there.0 ns) (uses_at old there.0) (are.more there.0) none there.1 in
    let p = position ns there.0 mentioned in
    let below : p.0 < i = subst (λ k. p.0 < k) at.count p.1 in
    let same : nth ts p.0 ≡ nth ts i = sym (at.texts p.0 below) ∙ (ap (text_at mid) p.2 ∙ (there.2 ∙ t_is)) in
    let one : p.0 ≡ i = apart p.0 i (through p.0 i (length ts) below inside) inside same in wrong p.0 i below one
  where
    by : (a b c : ℕ) → a ≡ b + c → c ≡ 0 → 0 < a → 0 < b
    by a b c e z l = omega (arith, e, z, l)

    through : (a b c : ℕ) → a < b → b < c → a < c
    through a b c l m = omega (arith, l, m)

    wrong : (a b : ℕ) → a < b → a ≡ b → ⊥
    wrong a b l e = omega (arith, l, e)

pub hold-turn : (old mid new : List Place) (ts : List Text) (i : ℕ) (ns after : List ℕ) (t : Text) → AreTaken old mid (take i ts) ns → i < length ts → t ≡ nth ts i → IsHeldNext mid new t ns after
    → AreTaken old new (take (i + 1) ts) after
hold-turn old mid new ts i ns after t are inside t_is next =
    taken-turn old mid new ts i ns after (nth ts i) t next.0 are inside (within ts i inside) t_is next.1 next.2
  where
    within : (l : List Text) (k : ℕ) → k < length l → nth l k ≡ get_or l k (nth l k)
    within [] k i = absurd (omega (arith, i))
    within (x ∷ xs) zero i = refl
    within (x ∷ xs) (suc k) i = within xs k (lower k (length xs) i)

-- the numbers of a placed row are places
pub mapped-times : (f : ℕ → ℕ) (ns : List ℕ) (m : ℕ) → 0 < times m (map f ns) → (n : ℕ) × (there : 0 < times n ns) × (f n ≡ m)
mapped-times f [] m l = absurd (omega (arith, l))
mapped-times f (n ∷ ns) m l = elim (later (one_at (f n) m) (times m (map f ns)) l) [
  | inl here ↦ (n, left-of (times n (n ∷ ns)) (one_at n n) (times n ns) refl (subst (λ k. 0 < k) (sym (one-here n)) (omega arith)), one-is (f n) m here)
  | inr there ↦ let p = mapped-times f ns m there in (p.0, right-of (times p.0 (n ∷ ns)) (one_at n p.0) (times p.0 ns) refl p.1, p.2)
]

numbers-placed : (places : List ℕ) (row : Numbered) → numbers_of (placed places row) ≡ map (place_at places) (numbers_of row)
numbers-placed places row = sym (map-push (place_at places) row.texts row.outcome)

pub place-used : (key : Key) (places : List ℕ) (kept : List Place) (index : List ℕ) (rows : List Numbered) (n : ℕ) → IsCache key places kept index rows → n < length places → 0 < uses_at kept (place_at places n)
place-used key places kept index rows n is below =
    right-of (uses_at kept (place_at places n)) (times (place_at places n) (flat_map numbers_of rows)) (times (place_at places n) places) (is.uses (place_at places n)) (at-times places n 0 below)

pub placed-used : (key : Key) (places : List ℕ) (kept : List Place) (index : List ℕ) (rows : List Numbered) (coded row : Numbered) → IsCache key places kept index rows → AreBelow (length places) (numbers_of coded)
    → row ≡ placed places coded → (m : ℕ) → 0 < times m (numbers_of row) → 0 < uses_at kept m
placed-used key places kept index rows coded row is below row_is m l =
    let p = mapped-times (place_at places) (numbers_of coded) m (subst (λ (ns : List ℕ). 0 < times m ns) (ap numbers_of row_is ∙ numbers-placed places coded) l) in
    subst (λ k. 0 < uses_at kept k) p.2 (place-used key places kept index rows p.0 is (below p.0 p.1))

pub placed-texts : (key : Key) (places : List ℕ) (kept : List Place) (index : List ℕ) (rows : List Numbered) (coded row : Numbered) → IsCache key places kept index rows → AreBelow (length places) (numbers_of coded)
    → row ≡ placed places coded → All (λ m. 0 < uses_at kept m) row.texts
placed-texts key places kept index rows coded row is below row_is = texts-used kept row (placed-used key places kept index rows coded row is below row_is)

pub placed-outcome : (key : Key) (places : List ℕ) (kept : List Place) (index : List ℕ) (rows : List Numbered) (coded row : Numbered) → IsCache key places kept index rows → AreBelow (length places) (numbers_of coded)
    → row ≡ placed places coded → 0 < uses_at kept row.outcome
placed-outcome key places kept index rows coded row is below row_is = outcome-used kept row (placed-used key places kept index rows coded row is below row_is)

-- and the row is put
pub row-put : (key : Key) (places : List ℕ) (old new : List Place) (index grown : List ℕ) (rows more : List Numbered) (coded row : Numbered) (head : ℕ) → IsCache key places old index rows
    → AreBelow (length places) (numbers_of coded) → row ≡ placed places coded → AreTaken old new (map (text_at old) (numbers_of row)) (numbers_of row)
    → lookup (map (entry_in old) rows) (input_in old row) ≡ None → head ≡ bucket_of key (input_in old row) → grown ≡ index ++ head ∷ [] → more ≡ rows ++ row ∷ [] → AreMixed key new
    → IsPut key places old new grown rows more (placed places coded)
row-put key places old new index grown rows more coded row head is below row_is taken none head_is grown_is more_is mixed =
    let used : (m : ℕ) → 0 < times m (numbers_of row) → 0 < uses_at old m = placed-used key places old index rows coded row is below row_is in
    let both = cache-put key places old new index grown rows more row (entry_in old row) (map (text_at old) (numbers_of row)) head is taken
    (row-agree old new row (λ m l. taken.same m (used m l))) none head_is grown_is more_is mixed in
    record {
      cache = both.0;
      entries = both.1 ∙ ap (λ (r : Numbered). map (entry_in old) rows ++ entry_in old r ∷ []) row_is;
      same = map-agree (text_at new) (text_at old) places (λ m l. taken.same m (right-of (uses_at old m) (times m (flat_map numbers_of rows)) (times m places) (is.uses m) l));
    }

pub row-found : (places : List ℕ) (old : List Place) (rows : List Numbered) (coded row : Numbered) → row ≡ placed places coded
    → (lookup (map (entry_in old) rows) (input_in old row) ≡ None → ⊥) → lookup (map (entry_in old) rows) (input_in old (placed places coded)) ≡ None → ⊥
row-found places old rows coded row row_is found none = found (ap (λ (r : Numbered). lookup (map (entry_in old) rows) (input_in old r)) row_is ∙ none)

-- one row of all
pub row-below : (rows : List Numbered) (i count : ℕ) (r : Numbered) → slice_get rows i ≡ Some r → AreBelow count (flat_map numbers_of rows) → AreBelow count (numbers_of r)
row-below [] i count r g below m l = cc
row-below (x ∷ xs) zero count r g below m l =
    below m (left-of (times m (flat_map numbers_of (x ∷ xs))) (times m (numbers_of x)) (times m (flat_map numbers_of xs)) (times-append m (numbers_of x) (flat_map numbers_of xs))
    (subst (λ (y : Numbered). 0 < times m (numbers_of y)) (sym (same_Some x r g)) l))
row-below (x ∷ xs) (suc i) count r g below m l =
    row-below xs i count r g (λ n k. below n (right-of (times n (flat_map numbers_of (x ∷ xs))) (times n (numbers_of x)) (times n (flat_map numbers_of xs)) (times-append n (numbers_of x) (flat_map numbers_of xs)) k)) m l

placed-decoded : (kept : List Place) (places : List ℕ) (row : Numbered) → AreBelow (length places) (numbers_of row) → entry_in kept (placed places row) ≡ decoded (map (text_at kept) places) row
placed-decoded kept places row below =
    ap (λ (l : List Text). record { input = record { node = row.node; texts = l }; outcome = text_at kept (place_at places row.outcome) })
    (each row.texts (λ m l. below m (left-of (times m (numbers_of row)) (times m row.texts) (one_at row.outcome m) (times-push m row.texts row.outcome) l)))
    ∙ ap (λ (o : Text). record { input = record { node = row.node; texts = map (nth (map (text_at kept) places)) row.texts }; outcome = o })
    (sym (mapped-nth (text_at kept) [] places row.outcome
    (below row.outcome (right-of (times row.outcome (numbers_of row)) (times row.outcome row.texts) (one_at row.outcome row.outcome) (times-push row.outcome row.texts row.outcome) (subst (λ k. 0 < k) (sym (one-here row.outcome)) (omega arith))))))
  where
    each : (ns : List ℕ) → ((m : ℕ) → 0 < times m ns → m < length places) → map (text_at kept) (map (place_at places) ns) ≡ map (nth (map (text_at kept) places)) ns
    each [] l = refl
    each (n ∷ ns) l =
        ap (λ t. t ∷ map (text_at kept) (map (place_at places) ns)) (sym (mapped-nth (text_at kept) [] places n (l n (left-of (times n (n ∷ ns)) (one_at n n) (times n ns) refl (subst (λ k. 0 < k) (sym (one-here n)) (omega arith))))))
        ∙ ap (λ ts. nth (map (text_at kept) places) n ∷ ts) (each ns (λ m k. l m (right-of (times m (n ∷ ns)) (one_at n m) (times m ns) refl k)))

-- a turn of the loop over the rows
pub rows-turn : (key : Key) (places : List ℕ) (first mid new : List Place) (index : List ℕ) (before after coded : List Numbered) (i : ℕ) (r : Numbered) → map (text_at mid) places ≡ map (text_at first) places
    → map (entry_in mid) before ≡ map (decoded (map (text_at first) places)) (take i coded) → slice_get coded i ≡ Some r → AreBelow (length places) (numbers_of r)
    → IsPut key places mid new index before after (placed places r)
    → IsCache key places new index after × (map (text_at new) places ≡ map (text_at first) places) × (map (entry_in new) after ≡ map (decoded (map (text_at first) places)) (take (i + 1) coded))
rows-turn key places first mid new index before after coded i r same view there below put = (
  put.cache,
  put.same ∙ same,
  put.entries
      ∙ (ap (λ (l : List Entry). l ++ entry_in mid (placed places r) ∷ []) view
      ∙ (ap (λ (e : Entry). map (decoded (map (text_at first) places)) (take i coded) ++ e ∷ []) (placed-decoded mid places r below ∙ ap (λ (ts : List Text). decoded ts r) same)
      ∙ (sym (map-push (decoded (map (text_at first) places)) (take i coded) r) ∙ ap (map (decoded (map (text_at first) places))) (sym (take-push coded i r there))))),
)

taken-get : {X : Type 0} (xs : List X) (i k : ℕ) (x : X) → slice_get (take i xs) k ≡ Some x → (k < i) × (slice_get xs k ≡ Some x)
taken-get xs zero k x g = cc
taken-get [] (suc i) k x g = cc
taken-get (y ∷ ys) (suc i) zero x g = (omega arith, g)
taken-get (y ∷ ys) (suc i) (suc k) x g = let p = taken-get ys i k x g in (raise k i p.0, p.1)

get-mapped : {X Y : Type 0} (f : X → Y) (xs : List X) (k : ℕ) (x : X) → slice_get xs k ≡ Some x → slice_get (map f xs) k ≡ Some (f x)
get-mapped f [] k x g = cc
get-mapped f (y ∷ ys) zero x g = ap (λ z. Some (f z)) (same_Some y x g)
get-mapped f (y ∷ ys) (suc k) x g = get-mapped f ys k x g

distinct-front : (f : Numbered → Entry) (rows : List Numbered) (i : ℕ) (r : Numbered) → AreDistinct (map f rows) → slice_get rows i ≡ Some r → lookup (map f (take i rows)) (f r).input ≡ None
distinct-front f rows i r distinct there =
    lookup-none (map f (take i rows)) (f r).input (λ k e g same.
    let x = get-unmapped f (take i rows) k e g in
    let at = taken-get rows i k x.0 x.1 in
    distinct k i (f x.0) (f r) at.0 (get-mapped f rows k x.0 at.1) (get-mapped f rows i r there) (ap (λ (y : Entry). y.input) x.2 ∙ same))

pub rows-same : (places : List ℕ) (first mid : List Place) (before coded : List Numbered) (i : ℕ) (r : Numbered) → map (text_at mid) places ≡ map (text_at first) places
    → map (entry_in mid) before ≡ map (decoded (map (text_at first) places)) (take i coded) → slice_get coded i ≡ Some r → AreBelow (length places) (numbers_of r)
    → (lookup (map (entry_in mid) before) (input_in mid (placed places r)) ≡ None → ⊥) → AreDistinct (map (decoded (map (text_at first) places)) coded) → ⊥
rows-same places first mid before coded i r same view there below found distinct =
    let entry : entry_in mid (placed places r) ≡ decoded (map (text_at first) places) r = placed-decoded mid places r below ∙ ap (λ (ts : List Text). decoded ts r) same in
    found (ap (λ (l : List Entry). lookup l (input_in mid (placed places r))) view
    ∙ (ap (λ (e : Entry). lookup (map (decoded (map (text_at first) places)) (take i coded)) e.input) entry ∙ distinct-front (decoded (map (text_at first) places)) coded i r distinct there))

pub take-all : {X : Type 0} (xs : List X) (i : ℕ) → length xs ≤ i → take i xs ≡ xs
take-all [] zero l = refl
take-all [] (suc i) l = refl
take-all (x ∷ xs) zero l = let n : suc (length xs) ≡ length xs + 1 = omega arith in absurd (omega (arith, l, n))
take-all (x ∷ xs) (suc i) l = ap (λ r. x ∷ r) (take-all xs i (let a : suc (length xs) ≡ length xs + 1 = omega arith in let b : suc i ≡ i + 1 = omega arith in omega (arith, l, a, b)))

pub all-taken : (old new : List Place) (ts : List Text) (i : ℕ) (ns : List ℕ) → length ts ≤ i → AreTaken old new (take i ts) ns → AreTaken old new ts ns
all-taken old new ts i ns l are = subst (λ (x : List Text). AreTaken old new x ns) (take-all ts i l) are

pub all-apart : (ts : List Text) (i : ℕ) → length ts ≤ i → AreApartTo ts i → AreApart ts
all-apart ts i l apart a b la lb same = apart a b (through a (length ts) i la l) (through b (length ts) i lb l) same
  where
    through : (a b c : ℕ) → a < b → b ≤ c → a < c
    through a b c l m = omega (arith, l, m)

pub all-rows : (f : Numbered → Entry) (rows : List Numbered) (i : ℕ) (es : List Entry) → length rows ≤ i → es ≡ map f (take i rows) → es ≡ map f rows
all-rows f rows i es l e = e ∙ ap (map f) (take-all rows i l)

-- nothing is held but the texts
pub nothing-put : (key : Key) (new : List Place) (index places : List ℕ) (rows : List Numbered) (ts : List Text) → AreTaken [] new ts places → AreMixed key new → index ≡ [] → rows ≡ [] → IsCache key places new index rows
nothing-put key new index places rows ts are mixed index_is rows_is =
    subst (λ (i : List ℕ). IsCache key places new i rows) (sym index_is)
    (subst (λ (l : List Numbered). IsCache key places new [] l) (sym rows_is)
    (record {
      uses = λ m. are.more m ∙ swapped (times m places) (uses_at [] m) refl;
      mixed = mixed;
      keyed = refl;
      distinct = λ j k e f l ge gf same. cc;
    }))
  where
    swapped : (a b : ℕ) → b ≡ 0 → a + b ≡ 0 + a
    swapped a b e = omega (arith, e)

-- the texts that were held beside the entries are let go
pub all-put : (key : Key) (old new : List Place) (index places : List ℕ) (rows : List Numbered) → IsCache key places old index rows → AreFreed old new places → AreMixed key new
    → IsCache key [] new index rows × (map (entry_in new) rows ≡ map (entry_in old) rows)
all-put key old new index places rows is freed mixed =
    let left : (m : ℕ) → uses_at new m ≡ times m (flat_map numbers_of rows) + 0 = λ m. by (uses_at old m) (times m (flat_map numbers_of rows)) (times m places) (uses_at new m) (is.uses m) (freed.less m) in
    let same : map (entry_in new) rows ≡ map (entry_in old) rows = rows-agree old new rows (λ m l. freed.same m (left-of (uses_at new m) (times m (flat_map numbers_of rows)) 0 (left m) l)) in (
      record {
        uses = left;
        mixed = mixed;
        keyed = is.keyed ∙ ap (map (entry_bucket key)) (sym same);
        distinct = subst AreDistinct (sym same) is.distinct;
      },
      same,
    )
  where
    by : (u a b w : ℕ) → u ≡ a + b → u ≡ b + w → w ≡ a + 0
    by u a b w e f = omega (arith, e, f)

pub times-within : (key : Key) (old : List Place) (index places : List ℕ) (rows : List Numbered) → IsCache key places old index rows → (m : ℕ) → times m places ≤ uses_at old m
times-within key old index places rows is m = by (uses_at old m) (times m (flat_map numbers_of rows)) (times m places) (is.uses m)
  where
    by : (u a b : ℕ) → u ≡ a + b → b ≤ u
    by u a b e = omega (arith, e)

pub below-places : (old new : List Place) (ts : List Text) (places : List ℕ) (rows : List Numbered) → AreTaken old new ts places → rises 0 (flat_map numbers_of rows) ≡ Some (length ts) → AreBelow (length places) (flat_map numbers_of rows)
below-places old new ts places rows are order m l =
    subst (λ k. m < k) (ap length (sym are.spelled) ∙ length-mapped (text_at new) places) (rises-below 0 (flat_map numbers_of rows) (length ts) order m l)
