-- Numbers by first mention: one more is noted; what was noted spells the cache.
use Rattle.std.proofs.Common.{◌≡◌, ℕ, ◌<◌, ◌≤◌, ◌+◌, ◌-◌, ◌⊎◌, Some, List, [], ◌∷◌, ◌++◌, append_assoc, length, length-append, slice_get, get_or, set, map, take, refl, sym, ap, ◌∙◌, subst, inl, inr, arith, zero, suc}
use Rattle.std.specs.Prelude.{◌==◌, nat_lt}
use Rattle.std.specs.List.{flat_map}
use Rattle.std.proofs.lemmas.Bool.{le-ltb, lt-ltb, eq-eqb}
use Rattle.std.proofs.lemmas.List.{append-nil}
use Rattle.gv_bytes.specs.Spelling.{text, natural, items}
use Rattle.fact_cache.specs.declared.spread.Key.{Key}
use Rattle.fact_cache.specs.declared.kept.Place.{Place}
use Rattle.fact_cache.specs.declared.list.Entry.{Entry}
use Rattle.fact_cache.specs.declared.numbered.Numbered.{Numbered}
use Rattle.fact_cache.specs.Inputs.{Text}
use Rattle.fact_cache.specs.CacheTexts.{HEADER, cache_text}
use Rattle.fact_cache.specs.Kept.{uses_at, text_at, one_at}
use Rattle.fact_cache.specs.Numbered.{input_in, entry_in, numbers_of, times, IsCache}
use Rattle.fact_cache.specs.Coded.{row_text, nth, decoded, rises, IsInOrder, AreApart}
use Rattle.fact_cache.specs.Placed.{AreBelow}
use Rattle.fact_cache.specs.Ranked.{rank_at, number_at, numbered_by, IsNoted}
use Rattle.fact_cache.proofs.ListFacts.{map-push, length-mapped}
use Rattle.fact_cache.proofs.KeptLemmas.{decide, live-inside}
use Rattle.fact_cache.proofs.NumberedLemmas.{take-push, times-append, times-push, one-here, map-agree}
use Rattle.fact_cache.proofs.CacheLemmas.{live}
use Rattle.fact_cache.proofs.CodedLemmas.{later, one-is, left-of, right-of, items-mapped, rises-step, coded-spells}
use Rattle.fact_cache.proofs.RestoreLemmas.{below-or, mapped-nth, take-all}
use Rattle.fact_cache.proofs.AgainLemmas.{at-times}

-- numbers that rise on
rises-on : (next k : ℕ) (ns more : List ℕ) → rises next ns ≡ Some k → rises next (ns ++ more) ≡ rises k more
rises-on next k [] more e = let same : next ≡ k = cc in ap (λ n. rises n more) same
rises-on next k (n ∷ ns) more e = elim (rises-step next n k ns (nat_lt n next) (n == next) refl refl e) [
  | inl p ↦ rw (lt-ltb n next p.0) (rises-on next k ns more p.1)
  | inr p ↦ let same : n ≡ next = p.0 in rw (le-ltb n next (omega (arith, same)), eq-eqb n next same) (rises-on (next + 1) k ns more p.1)
]

-- a list after one number is set, and after one is added
set-at : (xs : List ℕ) (n x : ℕ) → n < length xs → get_or (set xs n x) n 0 ≡ x
set-at [] n x l = absurd (omega (arith, l))
set-at (y ∷ ys) zero x l = refl
set-at (y ∷ ys) (suc n) x l = set-at ys n x (let a : suc n ≡ n + 1 = omega arith in let b : suc (length ys) ≡ length ys + 1 = omega arith in omega (arith, l, a, b))

set-apart : (xs : List ℕ) (n m x : ℕ) → (m ≡ n → ⊥) → get_or (set xs n x) m 0 ≡ get_or xs m 0
set-apart [] n m x other = refl
set-apart (y ∷ ys) zero zero x other = absurd (other refl)
set-apart (y ∷ ys) zero (suc m) x other = refl
set-apart (y ∷ ys) (suc n) zero x other = refl
set-apart (y ∷ ys) (suc n) (suc m) x other = set-apart ys n m x (λ e. other (ap (λ k. suc k) e))

set-size : (xs : List ℕ) (n x : ℕ) → length (set xs n x) ≡ length xs
set-size [] n x = refl
set-size (y ∷ ys) zero x = refl
set-size (y ∷ ys) (suc n) x = ap (λ k. suc k) (set-size ys n x)

push-before : (xs : List ℕ) (x k : ℕ) → k < length xs → get_or (xs ++ x ∷ []) k 0 ≡ get_or xs k 0
push-before [] x k l = absurd (omega (arith, l))
push-before (y ∷ ys) x zero l = refl
push-before (y ∷ ys) x (suc k) l = push-before ys x k (let a : suc k ≡ k + 1 = omega arith in let b : suc (length ys) ≡ length ys + 1 = omega arith in omega (arith, l, a, b))

push-at : (xs : List ℕ) (x : ℕ) → get_or (xs ++ x ∷ []) (length xs) 0 ≡ x
push-at [] x = refl
push-at (y ∷ ys) x = push-at ys x

in-push : (m n : ℕ) (before : List ℕ) → 0 < times m (before ++ n ∷ []) → (0 < times m before) ⊎ (n ≡ m)
in-push m n before l = elim (later (times m before) (one_at n m) (subst (λ k. 0 < k) (times-push m before n) l)) [
  | inl old ↦ inl old
  | inr new ↦ inr (one-is n m new)
]

push-in : (m n : ℕ) (before : List ℕ) → 0 < times m before → 0 < times m (before ++ n ∷ [])
push-in m n before l = left-of (times m (before ++ n ∷ [])) (times m before) (one_at n m) (times-push m before n) l

push-new : (n : ℕ) (before : List ℕ) → 0 < times n (before ++ n ∷ [])
push-new n before = right-of (times n (before ++ n ∷ [])) (times n before) (one_at n n) (times-push n before n) (subst (λ k. 0 < k) (sym (one-here n)) (omega arith))

-- a number that has a rank is mentioned again
pub noted-again : (ranks order before : List ℕ) (n : ℕ) → IsNoted ranks order before → 0 < rank_at ranks n → IsNoted ranks order (before ++ n ∷ [])
noted-again ranks order before n is risen = record {
  ranked = λ m l. elim (in-push m n before l) [
    | inl old ↦ is.ranked m old
    | inr e ↦ subst (λ k. 0 < rank_at ranks k) e risen
  ];
  placed = is.placed;
  back = is.back;
  used = λ k l. push-in (get_or order k 0) n before (is.used k l);
  risen =
      ap (rises 0) (map-push (number_at ranks) before n)
      ∙ (rises-on 0 (length order) (map (number_at ranks) before) (number_at ranks n ∷ []) is.risen
      ∙ (let most : rank_at ranks n ≤ length order = (is.placed n risen).0 in rw (lt-ltb (number_at ranks n) (length order) (less (rank_at ranks n) (length order) risen most)) refl));
}
  where
    less : (a b : ℕ) → 0 < a → a ≤ b → a - 1 < b
    less a b l m = omega (arith, l, m)

-- one that has none gets the next
pub noted-new : (ranks order before again longer : List ℕ) (n next : ℕ) → IsNoted ranks order before → rank_at ranks n ≤ 0 → n < length ranks → next ≡ length order → again ≡ set ranks n (next + 1) → longer ≡ order ++ n ∷ []
    → IsNoted again longer (before ++ n ∷ [])
noted-new ranks order before again longer n next is none inside next_is again_is longer_is =
    subst (λ (l : List ℕ). IsNoted l longer (before ++ n ∷ [])) (sym (again_is ∙ ap (λ k. set ranks n (k + 1)) next_is))
    (subst (λ (l : List ℕ). IsNoted (set ranks n (length order + 1)) l (before ++ n ∷ [])) (sym longer_is) (record {
      ranked = λ m l. elim (decide m n) [
        | inl e ↦ subst (λ k. 0 < rank_at (set ranks n (length order + 1)) k) (sym e) (subst (λ k. 0 < k) (sym here) (omega arith))
        | inr other ↦ elim (in-push m n before l) [
          | inl old ↦ subst (λ k. 0 < k) (sym (set-apart ranks n m (length order + 1) other)) (is.ranked m old)
          | inr e ↦ absurd (other (sym e))
        ]
      ];
      placed = λ m l. elim (decide m n) [
        | inl e ↦ subst (λ k. (rank_at (set ranks n (length order + 1)) k ≤ length (order ++ n ∷ [])) × (get_or (order ++ n ∷ []) (rank_at (set ranks n (length order + 1)) k - 1) 0 ≡ k)) (sym e)
            (subst (λ k. (k ≤ length (order ++ n ∷ [])) × (get_or (order ++ n ∷ []) (k - 1) 0 ≡ n)) (sym here)
            (subst (λ k. length order + 1 ≤ k) (sym size) (omega arith), ap (λ k. get_or (order ++ n ∷ []) k 0) (one-back (length order)) ∙ push-at order n))
        | inr other ↦
            let stays : rank_at (set ranks n (length order + 1)) m ≡ rank_at ranks m = set-apart ranks n m (length order + 1) other in
            let risen : 0 < rank_at ranks m = subst (λ k. 0 < k) stays l in
            let old = is.placed m risen in
            subst (λ k. (k ≤ length (order ++ n ∷ [])) × (get_or (order ++ n ∷ []) (k - 1) 0 ≡ m)) (sym stays)
            (subst (λ k. rank_at ranks m ≤ k) (sym size) (wider (rank_at ranks m) (length order) old.0), push-before order n (rank_at ranks m - 1) (less (rank_at ranks m) (length order) risen old.0) ∙ old.1)
      ];
      back = λ k l. elim (below-or k (length order) (subst (λ j. k < j) size l)) [
        | inl below ↦
            ap (rank_at (set ranks n (length order + 1))) (push-before order n k below)
            ∙ (set-apart ranks n (get_or order k 0) (length order + 1) (λ e. unranked (get_or order k 0) k (is.back k below) e) ∙ is.back k below)
        | inr e ↦ ap (λ j. rank_at (set ranks n (length order + 1)) (get_or (order ++ n ∷ []) j 0)) e ∙ (ap (rank_at (set ranks n (length order + 1))) (push-at order n) ∙ (here ∙ ap (λ j. j + 1) (sym e)))
      ];
      used = λ k l. elim (below-or k (length order) (subst (λ j. k < j) size l)) [
        | inl below ↦ subst (λ j. 0 < times j (before ++ n ∷ [])) (sym (push-before order n k below)) (push-in (get_or order k 0) n before (is.used k below))
        | inr e ↦ subst (λ j. 0 < times j (before ++ n ∷ [])) (sym (ap (λ j. get_or (order ++ n ∷ []) j 0) e ∙ push-at order n)) (push-new n before)
      ];
      risen =
          ap (rises 0) (map-push (number_at (set ranks n (length order + 1))) before n)
          ∙ (ap (λ (l : List ℕ). rises 0 (l ++ number_at (set ranks n (length order + 1)) n ∷ [])) (map-agree (number_at (set ranks n (length order + 1))) (number_at ranks) before same)
          ∙ (rises-on 0 (length order) (map (number_at ranks) before) (number_at (set ranks n (length order + 1)) n ∷ []) is.risen
          ∙ (ap (λ k. rises (length order) (k ∷ [])) (ap (λ k. k - 1) here ∙ one-back (length order))
          ∙ (rw (le-ltb (length order) (length order) (omega arith), eq-eqb (length order) (length order) refl) (ap (λ k. Some k) (sym size))))));
    }))
  where
    here : rank_at (set ranks n (length order + 1)) n ≡ length order + 1
    here = set-at ranks n (length order + 1) inside

    size : length (order ++ n ∷ []) ≡ length order + 1
    size = length-append order (n ∷ [])

    one-back : (k : ℕ) → k + 1 - 1 ≡ k
    one-back k = omega arith

    less : (a b : ℕ) → 0 < a → a ≤ b → a - 1 < b
    less a b l m = omega (arith, l, m)

    wider : (a b : ℕ) → a ≤ b → a ≤ b + 1
    wider a b l = omega (arith, l)

    unranked : (m k : ℕ) → rank_at ranks m ≡ k + 1 → m ≡ n → ⊥
    unranked m k r e = let z : rank_at ranks n ≡ k + 1 = ap (rank_at ranks) (sym e) ∙ r in omega (arith, z, none)

    same : (m : ℕ) → 0 < times m before → number_at (set ranks n (length order + 1)) m ≡ number_at ranks m
    same m l = ap (λ k. k - 1) (set-apart ranks n m (length order + 1) (λ e. let risen : 0 < rank_at ranks n = subst (λ j. 0 < rank_at ranks j) e (is.ranked m l) in omega (arith, risen, none)))

-- a turn of the loops
pub noted-turn : (ranks order before numbers : List ℕ) (i n : ℕ) → slice_get numbers i ≡ Some n → IsNoted ranks order ((before ++ take i numbers) ++ n ∷ []) → IsNoted ranks order (before ++ take (i + 1) numbers)
noted-turn ranks order before numbers i n there is =
    subst (λ (l : List ℕ). IsNoted ranks order l) (append_assoc before (take i numbers) (n ∷ []) ∙ ap (λ (l : List ℕ). before ++ l) (sym (take-push numbers i n there))) is

pub noted-begins : (ranks order before : List ℕ) → IsNoted ranks order before → IsNoted ranks order (before ++ [])
noted-begins ranks order before is = subst (λ (l : List ℕ). IsNoted ranks order l) (sym (append-nil before)) is

pub noted-whole : (ranks order before numbers : List ℕ) (i : ℕ) → length numbers ≤ i → IsNoted ranks order (before ++ take i numbers) → IsNoted ranks order (before ++ numbers)
noted-whole ranks order before numbers i l is = subst (λ (x : List ℕ). IsNoted ranks order (before ++ x)) (take-all numbers i l) is

pub noted-row : (ranks order before lent : List ℕ) (row : Numbered) → lent ≡ row.texts → IsNoted ranks order ((before ++ lent) ++ row.outcome ∷ []) → IsNoted ranks order (before ++ numbers_of row)
noted-row ranks order before lent row lent_is is =
    subst (λ (l : List ℕ). IsNoted ranks order l) (append_assoc before lent (row.outcome ∷ []) ∙ ap (λ (l : List ℕ). before ++ (l ++ row.outcome ∷ [])) lent_is) is

flat-append : (xs : List Numbered) (r : Numbered) → flat_map numbers_of (xs ++ r ∷ []) ≡ flat_map numbers_of xs ++ numbers_of r
flat-append [] r = append-nil (numbers_of r)
flat-append (x ∷ xs) r = ap (λ (l : List ℕ). numbers_of x ++ l) (flat-append xs r) ∙ sym (append_assoc (numbers_of x) (flat_map numbers_of xs) (numbers_of r))

pub rows-noted : (ranks order before : List ℕ) (rows : List Numbered) (i : ℕ) (r : Numbered) → slice_get rows i ≡ Some r → IsNoted ranks order ((before ++ flat_map numbers_of (take i rows)) ++ numbers_of r)
    → IsNoted ranks order (before ++ flat_map numbers_of (take (i + 1) rows))
rows-noted ranks order before rows i r there is =
    subst (λ (l : List ℕ). IsNoted ranks order l)
    (append_assoc before (flat_map numbers_of (take i rows)) (numbers_of r)
    ∙ ap (λ (l : List ℕ). before ++ l) (sym (flat-append (take i rows) r) ∙ ap (flat_map numbers_of) (sym (take-push rows i r there)))) is

pub all-noted : (ranks order before : List ℕ) (rows : List Numbered) (i : ℕ) → length rows ≤ i → IsNoted ranks order (before ++ flat_map numbers_of (take i rows)) → IsNoted ranks order (before ++ flat_map numbers_of rows)
all-noted ranks order before rows i l is = subst (λ (x : List Numbered). IsNoted ranks order (before ++ flat_map numbers_of x)) (take-all rows i l) is

-- nothing is mentioned yet
pub none-noted : (ranks order : List ℕ) → ((n : ℕ) → rank_at ranks n ≡ 0) → order ≡ [] → IsNoted ranks order []
none-noted ranks order zero_is order_is = subst (λ (l : List ℕ). IsNoted ranks l []) (sym order_is) (record {
  ranked = λ m l. absurd (omega (arith, l));
  placed = λ m l. let z : rank_at ranks m ≡ 0 = zero_is m in absurd (omega (arith, l, z));
  back = λ k l. absurd (omega (arith, l));
  used = λ k l. absurd (omega (arith, l));
  risen = refl;
})

-- a list of numbers below a count, item by item
pub item-below : (count : ℕ) (numbers : List ℕ) (i n size : ℕ) → AreBelow count numbers → i < length numbers → n ≡ get_or numbers i n → size ≡ count → n < size
item-below count numbers i n size below inside n_is size_is =
    subst (λ k. n < k) (sym size_is) (subst (λ k. k < count) (sym n_is) (below (get_or numbers i n) (at-times numbers i n inside)))

pub texts-below : (count : ℕ) (row : Numbered) (lent : List ℕ) → lent ≡ row.texts → AreBelow count (numbers_of row) → AreBelow count lent
texts-below count row lent lent_is below = subst (λ (l : List ℕ). AreBelow count l) (sym lent_is)
    (λ m l. below m (left-of (times m (numbers_of row)) (times m row.texts) (one_at row.outcome m) (times-push m row.texts row.outcome) l))

pub outcome-below : (count size : ℕ) (row : Numbered) → AreBelow count (numbers_of row) → size ≡ count → row.outcome < size
outcome-below count size row below size_is = subst (λ k. row.outcome < k) (sym size_is)
    (below row.outcome (right-of (times row.outcome (numbers_of row)) (times row.outcome row.texts) (one_at row.outcome row.outcome) (times-push row.outcome row.texts row.outcome) (subst (λ k. 0 < k) (sym (one-here row.outcome)) (omega arith))))

pub rows-below : (key : Key) (more : List ℕ) (kept : List Place) (index : List ℕ) (rows : List Numbered) (size count : ℕ) → IsCache key more kept index rows → size ≡ length kept → count ≡ size → AreBelow count (flat_map numbers_of rows)
rows-below key more kept index rows size count is size_is count_is m l =
    subst (λ k. m < k) (sym (count_is ∙ size_is)) (live-inside kept m (live key more kept index rows is m l))

-- what was noted spells the cache
numbers-ranked : (ranks : List ℕ) (rows : List Numbered) → flat_map numbers_of (map (numbered_by ranks) rows) ≡ map (number_at ranks) (flat_map numbers_of rows)
numbers-ranked ranks [] = refl
numbers-ranked ranks (r ∷ rs) =
    ap (λ l. numbers_of (numbered_by ranks r) ++ l) (numbers-ranked ranks rs)
    ∙ (ap (λ l. l ++ map (number_at ranks) (flat_map numbers_of rs)) (sym (map-push (number_at ranks) r.texts r.outcome)) ∙ sym (numbers-append (number_at ranks) (numbers_of r) (flat_map numbers_of rs)))
  where
    numbers-append : (f : ℕ → ℕ) (xs ys : List ℕ) → map f (xs ++ ys) ≡ map f xs ++ map f ys
    numbers-append f [] ys = refl
    numbers-append f (x ∷ xs) ys = ap (λ l. f x ∷ l) (numbers-append f xs ys)

texts-ranked : (ts : List Text) (f : ℕ → Text) (g : ℕ → ℕ) (ns : List ℕ) → ((m : ℕ) → 0 < times m ns → nth ts (g m) ≡ f m) → map (nth ts) (map g ns) ≡ map f ns
texts-ranked ts f g [] same = refl
texts-ranked ts f g (n ∷ ns) same =
    ap (λ x. x ∷ map (nth ts) (map g ns)) (same n (left-of (times n (n ∷ ns)) (one_at n n) (times n ns) refl (subst (λ k. 0 < k) (sym (one-here n)) (omega arith))))
    ∙ ap (λ l. f n ∷ l) (texts-ranked ts f g ns (λ m l. same m (right-of (times m (n ∷ ns)) (one_at n m) (times m ns) refl l)))

row-ranked : (ts : List Text) (kept : List Place) (ranks : List ℕ) (r : Numbered) → ((m : ℕ) → 0 < times m (numbers_of r) → nth ts (number_at ranks m) ≡ text_at kept m) → decoded ts (numbered_by ranks r) ≡ entry_in kept r
row-ranked ts kept ranks r same =
    ap (λ (l : List Text). record { input = record { node = r.node; texts = l }; outcome = nth ts (number_at ranks r.outcome) })
    (texts-ranked ts (text_at kept) (number_at ranks) r.texts (λ m l. same m (left-of (times m (numbers_of r)) (times m r.texts) (one_at r.outcome m) (times-push m r.texts r.outcome) l)))
    ∙ ap (λ (o : Text). record { input = input_in kept r; outcome = o })
    (same r.outcome (right-of (times r.outcome (numbers_of r)) (times r.outcome r.texts) (one_at r.outcome r.outcome) (times-push r.outcome r.texts r.outcome) (subst (λ k. 0 < k) (sym (one-here r.outcome)) (omega arith))))

rows-ranked : (ts : List Text) (kept : List Place) (ranks : List ℕ) (rows : List Numbered) → ((m : ℕ) → 0 < times m (flat_map numbers_of rows) → nth ts (number_at ranks m) ≡ text_at kept m)
    → map (decoded ts) (map (numbered_by ranks) rows) ≡ map (entry_in kept) rows
rows-ranked ts kept ranks [] same = refl
rows-ranked ts kept ranks (r ∷ rs) same =
    ap (λ (e : Entry). e ∷ map (decoded ts) (map (numbered_by ranks) rs))
    (row-ranked ts kept ranks r (λ m l. same m (left-of (times m (flat_map numbers_of (r ∷ rs))) (times m (numbers_of r)) (times m (flat_map numbers_of rs)) (times-append m (numbers_of r) (flat_map numbers_of rs)) l)))
    ∙ ap (λ (l : List Entry). entry_in kept r ∷ l)
    (rows-ranked ts kept ranks rs (λ m l. same m (right-of (times m (flat_map numbers_of (r ∷ rs))) (times m (numbers_of r)) (times m (flat_map numbers_of rs)) (times-append m (numbers_of r) (flat_map numbers_of rs)) l)))

pub noted-spells : (key : Key) (kept : List Place) (index : List ℕ) (rows : List Numbered) (ranks order : List ℕ) (view : List Entry) → IsCache key [] kept index rows
    → ((m : ℕ) → (n : ℕ) → 0 < uses_at kept m → 0 < uses_at kept n → text_at kept m ≡ text_at kept n → m ≡ n) → IsNoted ranks order (flat_map numbers_of rows) → map (entry_in kept) rows ≡ view
    → HEADER ++ items (λ (n : ℕ). text (text_at kept n)) order ++ items (λ (r : Numbered). row_text (numbered_by ranks r)) rows ≡ cache_text view
noted-spells key kept index rows ranks order view is distinct noted view_is =
    let ts : List Text = map (text_at kept) order in
    let rs : List Numbered = map (numbered_by ranks) rows in
    let size : length ts ≡ length order = length-mapped (text_at kept) order in
    let used : (k : ℕ) → k < length order → 0 < uses_at kept (get_or order k 0) = λ k l. live key [] kept index rows is (get_or order k 0) (noted.used k l) in
    let apart : AreApart ts = λ a b la lb same.
    let below_a : a < length order = subst (λ k. a < k) size la in
    let below_b : b < length order = subst (λ k. b < k) size lb in
    let one : get_or order a 0 ≡ get_or order b 0 = distinct (get_or order a 0) (get_or order b 0) (used a below_a) (used b below_b)
    (sym (mapped-nth (text_at kept) [] order a below_a) ∙ (same ∙ mapped-nth (text_at kept) [] order b below_b)) in
    let next : a + 1 ≡ b + 1 = sym (noted.back a below_a) ∙ (ap (rank_at ranks) one ∙ noted.back b below_b) in omega (arith, next) in
    let in_order : IsInOrder ts rs = ap (rises 0) (numbers-ranked ranks rows) ∙ (noted.risen ∙ ap (λ k. Some k) (sym size)) in
    let again : map (decoded ts) rs ≡ map (entry_in kept) rows = rows-ranked ts kept ranks rows (λ m l.
    let risen : 0 < rank_at ranks m = noted.ranked m l in
    let at = noted.placed m risen in
    mapped-nth (text_at kept) [] order (number_at ranks m) (less (rank_at ranks m) (length order) risen at.0) ∙ ap (text_at kept) at.1) in
    ap (λ (l : List ℕ). HEADER ++ l ++ items (λ (r : Numbered). row_text (numbered_by ranks r)) rows) (items-mapped (text_at kept) text order)
    ∙ (ap (λ (l : List ℕ). HEADER ++ items text ts ++ l) (items-mapped (numbered_by ranks) row_text rows)
    ∙ (sym (coded-spells ts rs apart in_order) ∙ ap cache_text (again ∙ view_is)))
  where
    less : (a b : ℕ) → 0 < a → a ≤ b → a - 1 < b
    less a b l m = omega (arith, l, m)

flat-push : {X : Type 0} (f : X → List ℕ) (xs : List X) (x : X) → flat_map f (xs ++ x ∷ []) ≡ flat_map f xs ++ f x
flat-push f [] x = append-nil (f x)
flat-push f (y ∷ ys) x = ap (λ (l : List ℕ). f y ++ l) (flat-push f ys x) ∙ sym (append_assoc (f y) (flat_map f ys) (f x))

pub written-turn : (f : Numbered → List ℕ) (front out after : List ℕ) (rows : List Numbered) (i : ℕ) (r : Numbered) → slice_get rows i ≡ Some r → after ≡ out ++ f r → out ≡ front ++ flat_map f (take i rows) → after ≡ front ++ flat_map f (take (i + 1) rows)
written-turn f front out after rows i r there after_is out_is =
    after_is ∙ (ap (λ (l : List ℕ). l ++ f r) out_is ∙ (append_assoc front (flat_map f (take i rows)) (f r)
    ∙ ap (λ (l : List ℕ). front ++ l) (sym (flat-push f (take i rows) r) ∙ ap (flat_map f) (sym (take-push rows i r there)))))

regroup : (o a b c : List ℕ) → ((o ++ a) ++ b) ++ c ≡ o ++ ((a ++ b) ++ c)
regroup o a b c = simp append_assoc

pub row-written : (out first second third ranks lent : List ℕ) (row : Numbered) (last : ℕ) → first ≡ out ++ natural row.node → second ≡ first ++ items (λ (n : ℕ). natural (number_at ranks n)) lent → lent ≡ row.texts
    → third ≡ second ++ natural last → last ≡ number_at ranks row.outcome → third ≡ out ++ row_text (numbered_by ranks row)
row-written out first second third ranks lent row last first_is second_is lent_is third_is last_is =
    third_is
    ∙ (ap (λ (l : List ℕ). l ++ natural last) (second_is
    ∙ (ap (λ (l : List ℕ). l ++ items (λ (n : ℕ). natural (number_at ranks n)) lent) first_is
    ∙ (ap (λ (l : List ℕ). (out ++ natural row.node) ++ items (λ (n : ℕ). natural (number_at ranks n)) l) lent_is
    ∙ ap (λ (l : List ℕ). (out ++ natural row.node) ++ l) (items-mapped (number_at ranks) natural row.texts))))
    ∙ (ap (λ (n : ℕ). ((out ++ natural row.node) ++ items natural (map (number_at ranks) row.texts)) ++ natural n) last_is
    ∙ regroup out (natural row.node) (items natural (map (number_at ranks) row.texts)) (natural (number_at ranks row.outcome))))

pub risen-by : (lent ranks : List ℕ) (n r : ℕ) → lent ≡ ranks → r ≡ rank_at lent n → 0 < r → 0 < rank_at ranks n
risen-by lent ranks n r lent_is r_is l = subst (λ (k : ℕ). 0 < k) (r_is ∙ ap (λ (x : List ℕ). rank_at x n) lent_is) l

pub none-by : (lent ranks : List ℕ) (n r : ℕ) → lent ≡ ranks → r ≡ rank_at lent n → r ≤ 0 → rank_at ranks n ≤ 0
none-by lent ranks n r lent_is r_is l = subst (λ (k : ℕ). k ≤ 0) (r_is ∙ ap (λ (x : List ℕ). rank_at x n) lent_is) l
