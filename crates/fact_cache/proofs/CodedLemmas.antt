-- Texts and rows of numbers that rise with first mentions spell the cache of their entries.
use Rattle.std.proofs.Common.{◌≡◌, ℕ, ◌<◌, ◌≤◌, ◌+◌, ◌⊎◌, Bool, true, false, Some, None, List, [], ◌∷◌, ◌++◌, length, map, drop, refl, sym, ap, ◌∙◌, subst, inl, inr, arith, zero, suc}
use Rattle.std.specs.Prelude.{◌==◌, ◌||◌, nat_lt, if◌then◌else◌}
use Rattle.std.specs.Str.{bytes_eq}
use Rattle.std.specs.List.{flat_map}
use Rattle.std.proofs.lemmas.Bool.Decides.{Decides-eqb}
use Rattle.std.proofs.lemmas.Bool.{eqb-true, ltb-false, ltb-true, le-ltb, lt-ltb}
use Rattle.std.proofs.lemmas.Slice.Eq.{bytes_eq-Decides}
use Rattle.gv_bytes.specs.Spelling.{natural, text, items}
use Rattle.fact_cache.specs.declared.list.Entry.{Entry}
use Rattle.fact_cache.specs.declared.numbered.Numbered.{Numbered}
use Rattle.fact_cache.specs.Inputs.{Text}
use Rattle.fact_cache.specs.Caches.{texts_of, mentions, is_among}
use Rattle.fact_cache.specs.CacheTexts.{HEADER, firsts_after, firsts, number_in, entry_text, cache_text}
use Rattle.fact_cache.specs.Coded.{row_text, coded_text, coded, nth, entry_by, decoded, rises, IsInOrder, AreApart}
use Rattle.fact_cache.specs.Kept.{one_at}
use Rattle.fact_cache.specs.Numbered.{numbers_of, times}
use Rattle.fact_cache.proofs.ListFacts.{map-push, length-mapped}
use Rattle.fact_cache.proofs.NumberedLemmas.{times-append, times-push, one-here}

-- the text of entries is that of their rows
flat-mapped : {X Y : Type 0} (f : X → Y) (g : Y → List ℕ) (xs : List X) → flat_map (λ x. g (f x)) xs ≡ flat_map g (map f xs)
flat-mapped f g [] = refl
flat-mapped f g (x ∷ xs) = ap (λ l. g (f x) ++ l) (flat-mapped f g xs)

pub items-mapped : {X Y : Type 0} (f : X → Y) (g : Y → List ℕ) (xs : List X) → items (λ x. g (f x)) xs ≡ items g (map f xs)
items-mapped f g xs =
    ap (λ n. natural n ++ flat_map (λ x. g (f x)) xs) (sym (length-mapped f xs)) ∙ ap (λ l. natural (length (map f xs)) ++ l) (flat-mapped f g xs)

flat-same : {X : Type 0} (f g : X → List ℕ) (xs : List X) → ((x : X) → f x ≡ g x) → flat_map f xs ≡ flat_map g xs
flat-same f g [] same = refl
flat-same f g (x ∷ xs) same = ap (λ l. l ++ flat_map f xs) (same x) ∙ ap (λ l. g x ++ l) (flat-same f g xs same)

entry-coded : (texts : List Text) (e : Entry) → entry_text texts e ≡ row_text (coded texts e)
entry-coded texts e =
    ap (λ l. natural e.input.node ++ l ++ natural (number_in texts e.outcome)) (items-mapped (number_in texts) natural e.input.texts)

pub text-coded : (es : List Entry) → cache_text es ≡ coded_text (firsts (mentions es)) (map (coded (firsts (mentions es))) es)
text-coded es =
    let ts : List Text = firsts (mentions es) in
    ap (λ l. HEADER ++ items text ts ++ l)
    (ap (λ l. natural (length es) ++ l) (flat-same (entry_text ts) (λ e. row_text (coded ts e)) es (entry-coded ts)) ∙ items-mapped (coded ts) row_text es)

pub map-append : {X Y : Type 0} (f : X → Y) (xs ys : List X) → map f (xs ++ ys) ≡ map f xs ++ map f ys
map-append f [] ys = refl
map-append f (x ∷ xs) ys = ap (λ r. f x ∷ r) (map-append f xs ys)

pub mentions-by : (f : ℕ → Text) (rows : List Numbered) → mentions (map (entry_by f) rows) ≡ map f (flat_map numbers_of rows)
mentions-by f [] = refl
mentions-by f (r ∷ rs) =
    ap (λ l. texts_of (entry_by f r) ++ l) (mentions-by f rs)
    ∙ (ap (λ l. l ++ map f (flat_map numbers_of rs)) (sym (map-push f r.texts r.outcome)) ∙ sym (map-append f (numbers_of r) (flat_map numbers_of rs)))

-- the next rises
pub rises-step : (next n count : ℕ) (ns : List ℕ) (c d : Bool) → nat_lt n next ≡ c → (n == next) ≡ d → rises next (n ∷ ns) ≡ Some count
    → ((n < next) × (rises next ns ≡ Some count)) ⊎ ((n ≡ next) × (rises (next + 1) ns ≡ Some count))
rises-step next n count ns true d lt eq e = inl (ltb-true n next lt, rw lt at e)
rises-step next n count ns false true lt eq e = inr (eqb-true n next eq, rw (lt, eq) at e)
rises-step next n count ns false false lt eq e = let none : None ≡ Some count = rw (lt, eq) at e in cc

pub rises-most : (next : ℕ) (ns : List ℕ) (count : ℕ) → rises next ns ≡ Some count → next ≤ count
rises-most next [] count e = let same : next ≡ count = cc in omega (arith, same)
rises-most next (n ∷ ns) count e = elim (rises-step next n count ns (nat_lt n next) (n == next) refl refl e) [
  | inl p ↦ rises-most next ns count p.1
  | inr p ↦ let more : next + 1 ≤ count = rises-most (next + 1) ns count p.1 in omega (arith, more)
]

-- and each number is below the count
pub later : (a b : ℕ) → 0 < a + b → (0 < a) ⊎ (0 < b)
later zero b l = inr (bare b l)
  where
    bare : (b : ℕ) → 0 < 0 + b → 0 < b
    bare b l = omega (arith, l)
later (suc a) b l = inl (omega arith)

pub one-is : (n m : ℕ) → 0 < one_at n m → n ≡ m
one-is n m l = by (n == m) refl
  where
    by : (c : Bool) → (n == m) ≡ c → n ≡ m
    by true e = eqb-true n m e
    by false e = let none : 0 < 0 = rw e at l in absurd (omega (arith, none))

pub rises-below : (next : ℕ) (ns : List ℕ) (count : ℕ) → rises next ns ≡ Some count → (m : ℕ) → 0 < times m ns → m < count
rises-below next [] count e m l = absurd (omega (arith, l))
rises-below next (n ∷ ns) count e m l = elim (rises-step next n count ns (nat_lt n next) (n == next) refl refl e) [
  | inl p ↦ elim (later (one_at n m) (times m ns) l) [
    | inl here ↦ let most : next ≤ count = rises-most next ns count p.1 in let same : n ≡ m = one-is n m here in let low : n < next = p.0 in omega (arith, most, same, low)
    | inr there ↦ rises-below next ns count p.1 m there
  ]
  | inr p ↦ elim (later (one_at n m) (times m ns) l) [
    | inl here ↦ let most : next + 1 ≤ count = rises-most (next + 1) ns count p.1 in let same : n ≡ m = one-is n m here in let at : n ≡ next = p.0 in omega (arith, most, same, at)
    | inr there ↦ rises-below (next + 1) ns count p.1 m there
  ]
]

-- the texts that were seen are those below the next
abbrev Sees : List Text → List Text → ℕ → Type 0
Sees texts seen next = (m : ℕ) → m < length texts → is_among (nth texts m) seen ≡ nat_lt m next

pub differ : (c : Bool) → c ≡ true → c ≡ false → ⊥
differ c t e = let u : true ≡ false = sym t ∙ e in cc

pub bytes-same : (a b : Text) → bytes_eq a b ≡ true → a ≡ b
bytes-same a b e = (bytes_eq-Decides a b).0 e

pub bytes-one : (a b : Text) → a ≡ b → bytes_eq a b ≡ true
bytes-one a b e = (bytes_eq-Decides a b).1 e

bytes-other : (a b : Text) → (a ≡ b → ⊥) → bytes_eq a b ≡ false
bytes-other a b other = by (bytes_eq a b) refl
  where
    by : (c : Bool) → bytes_eq a b ≡ c → bytes_eq a b ≡ false
    by true e = absurd (other (bytes-same a b e))
    by false e = e

sees-more : (texts seen : List Text) (next : ℕ) → AreApart texts → next < length texts → Sees texts seen next → Sees texts (nth texts next ∷ seen) (next + 1)
sees-more texts seen next apart inside sees m below = by (nat_lt m next) refl (m == next) refl
  where
    or-right : (c d : Bool) → d ≡ true → (c || d) ≡ true
    or-right true d e = refl
    or-right false d e = e

    by : (c : Bool) → nat_lt m next ≡ c → (d : Bool) → (m == next) ≡ d → (bytes_eq (nth texts next) (nth texts m) || is_among (nth texts m) seen) ≡ nat_lt m (next + 1)
    by true lt d eq =
        let low : m < next = ltb-true m next lt in
        or-right (bytes_eq (nth texts next) (nth texts m)) (is_among (nth texts m) seen) (sees m below ∙ lt) ∙ sym (lt-ltb m (next + 1) (omega (arith, low)))
    by false lt true eq =
        let at : m ≡ next = eqb-true m next eq in
        ap (λ c. c || is_among (nth texts m) seen) (bytes-one (nth texts next) (nth texts m) (ap (nth texts) (sym at))) ∙ sym (lt-ltb m (next + 1) (omega (arith, at)))
    by false lt false eq =
        let other : m ≡ next → ⊥ = λ e. differ (m == next) ((Decides-eqb m next).1 e) eq in
        let high : next ≤ m = ltb-false m next lt in
        ap (λ c. c || is_among (nth texts m) seen) (bytes-other (nth texts next) (nth texts m) (λ e. other (sym (apart next m inside below e))))
        ∙ (sees m below ∙ lt) ∙ sym (le-ltb m (next + 1) (above m next high other))
      where
        above : (a b : ℕ) → b ≤ a → (a ≡ b → ⊥) → b + 1 ≤ a
        above zero zero l n = absurd (n refl)
        above zero (suc b) l n = omega (arith, l)
        above (suc a) zero l n = omega arith
        above (suc a) (suc b) l n =
            let x : suc a ≡ a + 1 = omega arith in let y : suc b ≡ b + 1 = omega arith in
            let low : b + 1 ≤ a = above a b (omega (arith, l, x, y)) (λ e. n (ap (λ k. suc k) e)) in omega (arith, low, x, y)

drop-nth : (texts : List Text) (n : ℕ) → n < length texts → drop n texts ≡ nth texts n ∷ drop (n + 1) texts
drop-nth [] n l = absurd (omega (arith, l))
drop-nth (t ∷ ts) zero l = refl
drop-nth (t ∷ ts) (suc n) l =
    drop-nth ts n (lower n (length ts) l) ∙ ap (λ k. nth ts n ∷ drop k (t ∷ ts)) (one-more n)
  where
    lower : (a b : ℕ) → suc a < suc b → a < b
    lower a b i = let x : suc a ≡ a + 1 = omega arith in let y : suc b ≡ b + 1 = omega arith in omega (arith, i, x, y)

    one-more : (n : ℕ) → suc (n + 1) ≡ suc n + 1
    one-more n = omega arith

drop-all : (texts : List Text) → drop (length texts) texts ≡ []
drop-all [] = refl
drop-all (t ∷ ts) = drop-all ts

pub firsts-order : (texts seen : List Text) (ns : List ℕ) (next : ℕ) → AreApart texts → Sees texts seen next → rises next ns ≡ Some (length texts) → firsts_after seen (map (nth texts) ns) ≡ drop next texts
firsts-order texts seen [] next apart sees e =
    let at : next ≡ length texts = cc in sym (drop-all texts) ∙ ap (λ k. drop k texts) (sym at)
firsts-order texts seen (n ∷ ns) next apart sees e = elim (rises-step next n (length texts) ns (nat_lt n next) (n == next) refl refl e) [
  | inl p ↦
      let most : next ≤ length texts = rises-most next ns (length texts) p.1 in
      let low : n < next = p.0 in
      let among : is_among (nth texts n) seen ≡ true = sees n (omega (arith, most, low)) ∙ lt-ltb n next low in
      rw among (firsts-order texts seen ns next apart sees p.1)
  | inr p ↦
      let most : next + 1 ≤ length texts = rises-most (next + 1) ns (length texts) p.1 in
      let inside : next < length texts = omega (arith, most) in
      let new : is_among (nth texts next) seen ≡ false = sees next inside ∙ le-ltb next next (omega arith) in
      let rest : firsts_after (nth texts next ∷ seen) (map (nth texts) ns) ≡ drop (next + 1) texts = firsts-order texts (nth texts next ∷ seen) ns (next + 1) apart (sees-more texts seen next apart inside sees) p.1 in
      subst (λ k. firsts_after seen (nth texts k ∷ map (nth texts) ns) ≡ drop next texts) (sym p.0)
      (step (is_among (nth texts next) seen) (firsts_after seen (map (nth texts) ns)) (nth texts next) (firsts_after (nth texts next ∷ seen) (map (nth texts) ns)) new
      ∙ (ap (λ l. nth texts next ∷ l) rest ∙ sym (drop-nth texts next inside)))
]
  where
    step : (c : Bool) (xs : List Text) (t : Text) (ys : List Text) → c ≡ false → if◌then◌else◌ {A = List Text} c xs (t ∷ ys) ≡ t ∷ ys
    step c xs t ys e = ap (λ d. if◌then◌else◌ {A = List Text} d xs (t ∷ ys)) e

-- the number of the text of a number
pub number-nth : (texts : List Text) (n : ℕ) → AreApart texts → n < length texts → number_in texts (nth texts n) ≡ n
number-nth [] n apart l = absurd (omega (arith, l))
number-nth (t ∷ ts) zero apart l = rw (bytes-one t t refl) refl
number-nth (t ∷ ts) (suc n) apart l =
    let below : n < length ts = lower n (length ts) l in
    let other : bytes_eq t (nth ts n) ≡ false = bytes-other t (nth ts n) (λ e. zero-suc n (apart 0 (suc n) (omega arith) l e)) in
    step (bytes_eq t (nth ts n)) (number_in ts (nth ts n)) other ∙ (ap (λ k. k + 1) (number-nth ts n (λ a b la lb e. same_suc a b (apart (suc a) (suc b) (raise a (length ts) la) (raise b (length ts) lb) e)) below) ∙ one-more n)
  where
    lower : (a b : ℕ) → suc a < suc b → a < b
    lower a b i = let x : suc a ≡ a + 1 = omega arith in let y : suc b ≡ b + 1 = omega arith in omega (arith, i, x, y)

    raise : (a b : ℕ) → a < b → suc a < suc b
    raise a b i = let x : suc a ≡ a + 1 = omega arith in let y : suc b ≡ b + 1 = omega arith in omega (arith, i, x, y)

    same_suc : (a b : ℕ) → suc a ≡ suc b → a ≡ b
    same_suc a b e = let x : suc a ≡ a + 1 = omega arith in let y : suc b ≡ b + 1 = omega arith in omega (arith, e, x, y)

    zero-suc : (n : ℕ) → 0 ≡ suc n → ⊥
    zero-suc n e = let x : suc n ≡ n + 1 = omega arith in omega (arith, e, x)

    one-more : (n : ℕ) → n + 1 ≡ suc n
    one-more n = omega arith

    step : (c : Bool) (k : ℕ) → c ≡ false → if◌then◌else◌ {A = ℕ} c 0 (k + 1) ≡ k + 1
    step c k e = ap (λ d. if◌then◌else◌ {A = ℕ} d 0 (k + 1)) e

numbers-again : (texts : List Text) (ns : List ℕ) → AreApart texts → ((m : ℕ) → 0 < times m ns → m < length texts) → map (number_in texts) (map (nth texts) ns) ≡ ns
numbers-again texts [] apart below = refl
numbers-again texts (n ∷ ns) apart below =
    ap (λ k. k ∷ map (number_in texts) (map (nth texts) ns)) (number-nth texts n apart (below n (here (one_at n n) (times n ns) (one-here n))))
    ∙ ap (λ l. n ∷ l) (numbers-again texts ns apart (λ m l. below m (more (one_at n m) (times m ns) l)))
  where
    here : (a b : ℕ) → a ≡ 1 → 0 < a + b
    here a b e = omega (arith, e)

    more : (a b : ℕ) → 0 < b → 0 < a + b
    more a b l = omega (arith, l)

pub left-of : (u a b : ℕ) → u ≡ a + b → 0 < a → 0 < u
left-of u a b e l = omega (arith, e, l)

pub right-of : (u a b : ℕ) → u ≡ a + b → 0 < b → 0 < u
right-of u a b e l = omega (arith, e, l)

row-again : (texts : List Text) (r : Numbered) → AreApart texts → ((m : ℕ) → 0 < times m (numbers_of r) → m < length texts) → coded texts (decoded texts r) ≡ r
row-again texts r apart below =
    ap (λ (l : List ℕ). record { node = r.node; texts = l; outcome = number_in texts (nth texts r.outcome) })
    (numbers-again texts r.texts apart (λ m l. below m (left-of (times m (numbers_of r)) (times m r.texts) (one_at r.outcome m) (times-push m r.texts r.outcome) l)))
    ∙ ap (λ (o : ℕ). record { node = r.node; texts = r.texts; outcome = o })
    (number-nth texts r.outcome apart (below r.outcome (right-of (times r.outcome (numbers_of r)) (times r.outcome r.texts) (one_at r.outcome r.outcome) (times-push r.outcome r.texts r.outcome) (subst (λ k. 0 < k) (sym (one-here r.outcome)) (omega arith)))))

rows-again : (texts : List Text) (rows : List Numbered) → AreApart texts → ((m : ℕ) → 0 < times m (flat_map numbers_of rows) → m < length texts) → map (coded texts) (map (decoded texts) rows) ≡ rows
rows-again texts [] apart below = refl
rows-again texts (r ∷ rs) apart below =
    ap (λ (x : Numbered). x ∷ map (coded texts) (map (decoded texts) rs)) (row-again texts r apart (λ m l. below m (left-of (times m (flat_map numbers_of (r ∷ rs))) (times m (numbers_of r)) (times m (flat_map numbers_of rs)) (times-append m (numbers_of r) (flat_map numbers_of rs)) l)))
    ∙ ap (λ (l : List Numbered). r ∷ l) (rows-again texts rs apart (λ m l. below m (right-of (times m (flat_map numbers_of (r ∷ rs))) (times m (numbers_of r)) (times m (flat_map numbers_of rs)) (times-append m (numbers_of r) (flat_map numbers_of rs)) l)))

-- Texts and rows spell the cache of the entries that they give.
pub coded-spells : (texts : List Text) (rows : List Numbered) → AreApart texts → IsInOrder texts rows → cache_text (map (decoded texts) rows) ≡ coded_text texts rows
coded-spells texts rows apart order =
    let es : List Entry = map (decoded texts) rows in
    let same : firsts (mentions es) ≡ texts =
    ap firsts (mentions-by (nth texts) rows) ∙ firsts-order texts [] (flat_map numbers_of rows) 0 apart (λ m l. sym (le-ltb m 0 (omega arith))) order in
    text-coded es
    ∙ (ap (λ (l : List Text). coded_text l (map (coded l) es)) same
    ∙ ap (λ (l : List Numbered). coded_text texts l) (rows-again texts rows apart (rises-below 0 (flat_map numbers_of rows) (length texts) order)))
