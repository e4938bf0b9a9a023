-- Rows of the numbers of texts that are kept already.
use Rattle.std.proofs.Common.{◌≡◌, ℕ, ◌<◌, ◌+◌, ◌-◌, Bool, true, false, Option, Some, None, List, [], ◌∷◌, ◌++◌, length, slice_get, get_or, map, take, refl, sym, ap, ◌∙◌, subst, arith, zero, suc}
use Rattle.std.specs.Prelude.{◌==◌, All, nat_lt}
use Rattle.std.specs.Str.{bytes_eq}
use Rattle.std.specs.List.{flat_map}
use Rattle.std.proofs.lemmas.Bool.{and_parts, ltb-true}
use Rattle.std.proofs.lemmas.Bool.Decides.{Decides-eqb}
use Rattle.std.proofs.lemmas.Option.{same_Some, slice_get_read}
use Rattle.std.proofs.lemmas.Slice.Eq.{bytes_eq-Decides}
use Rattle.fact_cache.specs.declared.spread.Key.{Key}
use Rattle.fact_cache.specs.declared.kept.Place.{Place}
use Rattle.fact_cache.specs.declared.texts.Input.{Input}
use Rattle.fact_cache.specs.declared.numbered.Numbered.{Numbered}
use Rattle.fact_cache.specs.Inputs.{Text}
use Rattle.fact_cache.specs.Indexes.{IsWalk}
use Rattle.fact_cache.specs.Spread.{bucket_of}
use Rattle.fact_cache.specs.Kept.{uses_at, text_at, is_kept_at, one_at, AreKept, IsHeld}
use Rattle.fact_cache.specs.Numbered.{numbers_of, times, AreTaken, IsCache}
use Rattle.fact_cache.proofs.ListFacts.{map-push}
use Rattle.fact_cache.proofs.NumberedLemmas.{take-push, taken-more, times-append, times-push, one-here}
use Rattle.fact_cache.proofs.CacheLemmas.{IsPassed, row-there}

-- a text that is kept at a place
pub kept-there : (places : List Place) (n : ℕ) (text : Text) → is_kept_at places n text ≡ true → (0 < uses_at places n) × (text_at places n ≡ text)
kept-there places n text kept =
    let parts = and_parts (nat_lt 0 (uses_at places n)) (bytes_eq (text_at places n) text) kept in
    (ltb-true 0 (uses_at places n) parts.0, (bytes_eq-Decides (text_at places n) text).0 parts.1)

-- two used numbers are the same where their texts are
pub same-number : (index : List ℕ) (view old : List Place) (m n total : ℕ) → old ≡ view → AreKept index old total → 0 < uses_at view m → 0 < uses_at view n
    → (m == n) ≡ bytes_eq (text_at view m) (text_at view n)
same-number index view old m n total view_is are lm ln =
    by (m == n) refl (bytes_eq (text_at view m) (text_at view n)) refl
  where
    back : (k : ℕ) → 0 < uses_at view k → 0 < uses_at old k
    back k l = subst (λ (p : List Place). 0 < uses_at p k) (sym view_is) l

    by : (c : Bool) → (m == n) ≡ c → (d : Bool) → bytes_eq (text_at view m) (text_at view n) ≡ d → (m == n) ≡ bytes_eq (text_at view m) (text_at view n)
    by true e true f = e ∙ sym f
    by false e false f = e ∙ sym f
    by true e false f =
        let same : m ≡ n = (Decides-eqb m n).0 e in
        let one : bytes_eq (text_at view m) (text_at view n) ≡ true = (bytes_eq-Decides (text_at view m) (text_at view n)).1 (ap (text_at view) same) in
        let wrong : true ≡ false = sym one ∙ f in cc
    by false e true f =
        let texts : text_at view m ≡ text_at view n = (bytes_eq-Decides (text_at view m) (text_at view n)).0 f in
        let same : m ≡ n = are.found.distinct m n (back m lm) (back n ln) (subst (λ (p : List Place). text_at p m ≡ text_at p n) (sym view_is) texts) in
        let wrong : true ≡ false = sym ((Decides-eqb m n).1 same) ∙ e in cc

-- All of a list of numbers, by how often they stand there
pub at-times : (ns : List ℕ) (k d : ℕ) → k < length ns → 0 < times (get_or ns k d) ns
at-times [] k d l = absurd (omega (arith, l))
at-times (n ∷ ns) zero d l = subst (λ x. 0 < x + times n ns) (sym (one-here n)) (more (times n ns))
  where
    more : (a : ℕ) → 0 < 1 + a
    more a = omega arith
at-times (n ∷ ns) (suc k) d l = later (one_at n (get_or ns k d)) (times (get_or ns k d) ns) (at-times ns k d (lower k (length ns) l))
  where
    later : (a b : ℕ) → 0 < b → 0 < a + b
    later a b l = omega (arith, l)

    lower : (a b : ℕ) → suc a < suc b → a < b
    lower a b i = let x : suc a ≡ a + 1 = omega arith in let y : suc b ≡ b + 1 = omega arith in omega (arith, i, x, y)

pub all-mentioned : (P : ℕ → Type 0) (ns : List ℕ) → ((m : ℕ) → 0 < times m ns → P m) → All P ns
all-mentioned P ns each k d l = each (get_or ns k d) (at-times ns k d l)

-- a row's numbers are used
pub row-used : (key : Key) (more : List ℕ) (kept : List Place) (index : List ℕ) (rows : List Numbered) (k : ℕ) (r : Numbered) → IsCache key more kept index rows
    → slice_get rows k ≡ Some r → (m : ℕ) → 0 < times m (numbers_of r) → 0 < uses_at kept m
row-used key more kept index rows k r is g m l = left (uses_at kept m) (times m (flat_map numbers_of rows)) (times m more) (is.uses m) (within rows k g)
  where
    left : (u a b : ℕ) → u ≡ a + b → 0 < a → 0 < u
    left u a b e l = omega (arith, e, l)

    first : (a b : ℕ) → 0 < a → 0 < a + b
    first a b l = omega (arith, l)

    second : (a b : ℕ) → 0 < b → 0 < a + b
    second a b l = omega (arith, l)

    within : (xs : List Numbered) (j : ℕ) → slice_get xs j ≡ Some r → 0 < times m (flat_map numbers_of xs)
    within [] j h = cc
    within (x ∷ xs) zero h =
        subst (λ n. 0 < n) (sym (times-append m (numbers_of x) (flat_map numbers_of xs)))
        (first (times m (numbers_of x)) (times m (flat_map numbers_of xs)) (subst (λ (y : Numbered). 0 < times m (numbers_of y)) (sym (same_Some x r h)) l))
    within (x ∷ xs) (suc j) h =
        subst (λ n. 0 < n) (sym (times-append m (numbers_of x) (flat_map numbers_of xs))) (second (times m (numbers_of x)) (times m (flat_map numbers_of xs)) (within xs j h))

pub texts-used : (kept : List Place) (r : Numbered) → ((m : ℕ) → 0 < times m (numbers_of r) → 0 < uses_at kept m) → All (λ m. 0 < uses_at kept m) r.texts
texts-used kept r used = all-mentioned (λ m. 0 < uses_at kept m) r.texts (λ m l. used m (subst (λ n. 0 < n) (sym (times-push m r.texts r.outcome)) (first (times m r.texts) (one_at r.outcome m) l)))
  where
    first : (a b : ℕ) → 0 < a → 0 < a + b
    first a b l = omega (arith, l)

pub outcome-used : (kept : List Place) (r : Numbered) → ((m : ℕ) → 0 < times m (numbers_of r) → 0 < uses_at kept m) → 0 < uses_at kept r.outcome
outcome-used kept r used = used r.outcome (subst (λ n. 0 < n) (sym (times-push r.outcome r.texts r.outcome)) (last (times r.outcome r.texts) (one_at r.outcome r.outcome) (one-here r.outcome)))
  where
    last : (a b : ℕ) → b ≡ 1 → 0 < a + b
    last a b e = omega (arith, e)

pub passed-used : (key : Key) (more : List ℕ) (kept : List Place) (index : List ℕ) (rows : List Numbered) (input : Input) (at : ℕ) (row : Numbered) → IsCache key more kept index rows
    → IsWalk index (bucket_of key input) (IsPassed kept rows input) at → 0 < at → row ≡ get_or rows (at - 1) row → All (λ m. 0 < uses_at kept m) row.texts
passed-used key more kept index rows input at row is walk risen row_is =
    texts-used kept row (row-used key more kept index rows (at - 1) row is (row-there key more kept index rows (bucket_of key input) (IsPassed kept rows input) at row is walk risen row_is))

-- found, so not absent
pub some-not-none : (found : Option Text) (t : Text) → found ≡ Some t → found ≡ None → ⊥
some-not-none found t e n = let wrong : Some t ≡ None = sym e ∙ n in cc

-- a turn of the loop that uses kept texts once more
pub again-used : (old mid : List Place) (ts : List Text) (ns numbers : List ℕ) (i item : ℕ) → AreTaken old mid ts ns → All (λ m. 0 < uses_at old m) numbers → i < length numbers → item ≡ get_or numbers i item
    → 0 < uses_at mid item
again-used old mid ts ns numbers i item are used inside item_is =
    more (uses_at mid item) (times item ns) (uses_at old item) (are.more item) (subst (λ k. 0 < uses_at old k) (sym item_is) (used i item inside))
  where
    more : (a b c : ℕ) → a ≡ b + c → 0 < c → 0 < a
    more a b c e l = omega (arith, e, l)

pub again-turn : (old mid new : List Place) (numbers : List ℕ) (i item : ℕ) → AreTaken old mid (map (text_at old) (take i numbers)) (take i numbers) → All (λ m. 0 < uses_at old m) numbers
    → i < length numbers → item ≡ get_or numbers i item → IsHeld mid new (text_at mid item) item
    → AreTaken old new (map (text_at old) (take (i + 1) numbers)) (take (i + 1) numbers)
again-turn old mid new numbers i item are used inside item_is held =
    let there : slice_get numbers i ≡ Some item = slice_get_read numbers (length numbers) i item refl inside item_is in
    let used_item : 0 < uses_at old item = subst (λ k. 0 < uses_at old k) (sym item_is) (used i item inside) in
    let own : IsHeld mid new (text_at old item) item = subst (λ (t : Text). IsHeld mid new t item) (are.same item used_item) held in
    let next : take (i + 1) numbers ≡ take i numbers ++ item ∷ [] = take-push numbers i item there in
    subst (λ (l : List ℕ). AreTaken old new (map (text_at old) l) l) (sym next)
    (subst (λ (l : List Text). AreTaken old new l (take i numbers ++ item ∷ [])) (sym (map-push (text_at old) (take i numbers) item))
    (taken-more old mid new (map (text_at old) (take i numbers)) (take i numbers) (text_at old item) item are own))

pub again-row : (old mid new : List Place) (lent : List ℕ) (row : Numbered) → lent ≡ row.texts → AreTaken old mid (map (text_at old) lent) lent → 0 < uses_at old row.outcome
    → IsHeld mid new (text_at mid row.outcome) row.outcome → AreTaken old new (map (text_at old) (numbers_of row)) (numbers_of row)
again-row old mid new lent row lent_is are used held =
    let own : IsHeld mid new (text_at old row.outcome) row.outcome = subst (λ (t : Text). IsHeld mid new t row.outcome) (are.same row.outcome used) held in
    let texts : AreTaken old mid (map (text_at old) row.texts) row.texts = subst (λ (l : List ℕ). AreTaken old mid (map (text_at old) l) l) lent_is are in
    subst (λ (l : List Text). AreTaken old new l (row.texts ++ row.outcome ∷ [])) (sym (map-push (text_at old) row.texts row.outcome))
    (taken-more old mid new (map (text_at old) row.texts) row.texts (text_at old row.outcome) row.outcome texts own)

pub again-still : (old mid : List Place) (ts : List Text) (ns : List ℕ) (n : ℕ) → AreTaken old mid ts ns → 0 < uses_at old n → 0 < uses_at mid n
again-still old mid ts ns n are l = more (uses_at mid n) (times n ns) (uses_at old n) (are.more n) l
  where
    more : (a b c : ℕ) → a ≡ b + c → 0 < c → 0 < a
    more a b c e l = omega (arith, e, l)
