-- A cache is searched, grows by a row, and loses its first.
use Rattle.std.proofs.Common.{◌≡◌, ℕ, ◌<◌, ◌≤◌, ◌+◌, ◌-◌, true, false, Some, None, List, [], ◌∷◌, ◌++◌, length, slice_get, get_or, map, drop, refl, sym, ap, ◌∙◌, subst, arith, suc}
use Rattle.std.specs.List.{flat_map}
use Rattle.std.specs.Option.{option_map}
use Rattle.std.proofs.lemmas.Option.{same_Some, slice_get-map, slice_get_read}
use Rattle.fact_cache.specs.declared.texts.Input.{Input}
use Rattle.fact_cache.specs.declared.list.Entry.{Entry}
use Rattle.fact_cache.specs.declared.spread.Key.{Key}
use Rattle.fact_cache.specs.declared.kept.Place.{Place}
use Rattle.fact_cache.specs.declared.numbered.Numbered.{Numbered}
use Rattle.fact_cache.specs.Inputs.{Text, same_input}
use Rattle.fact_cache.specs.Spread.{bucket_of}
use Rattle.fact_cache.specs.Indexes.{IsHead, IsWalk}
use Rattle.fact_cache.specs.Caches.{lookup, AreDistinct, is_within, trimmed}
use Rattle.fact_cache.specs.Kept.{uses_at, text_at, one_at, AreMixed}
use Rattle.fact_cache.specs.Numbered.{input_in, entry_in, numbers_of, times, entry_bucket, IsLike, AreTaken, AreFreed, IsCache}
use Rattle.fact_cache.proofs.ListFacts.{map-push, length-mapped, get-unmapped}
use Rattle.fact_cache.proofs.LookupLemmas.{input-same, same-input, lookup-none, lookup-at, distinct-push}
use Rattle.fact_cache.proofs.IndexLemmas.{walk-inside, walk-steps, walk-ends}
use Rattle.fact_cache.proofs.NumberedLemmas.{times-append, times-push, one-here, map-agree}

after : (a b : ℕ) → 0 < b → 0 < a + b
after a b l = omega (arith, l)

before : (a b : ℕ) → 0 < a → 0 < a + b
before a b l = omega (arith, l)

in-texts : (r : Numbered) (m : ℕ) → 0 < times m r.texts → 0 < times m (numbers_of r)
in-texts r m l = subst (λ k. 0 < k) (sym (times-push m r.texts r.outcome)) (before (times m r.texts) (one_at r.outcome m) l)

in-outcome : (r : Numbered) → 0 < times r.outcome (numbers_of r)
in-outcome r = subst (λ k. 0 < k) (sym (times-push r.outcome r.texts r.outcome)) (after (times r.outcome r.texts) (one_at r.outcome r.outcome) (subst (λ k. 0 < k) (sym (one-here r.outcome)) (omega arith)))

pub row-agree : (old new : List Place) (r : Numbered) → ((m : ℕ) → 0 < times m (numbers_of r) → text_at new m ≡ text_at old m) → entry_in new r ≡ entry_in old r
row-agree old new r same =
    ap (λ (l : List Text). record { input = record { node = r.node; texts = l }; outcome = text_at new r.outcome }) (map-agree (text_at new) (text_at old) r.texts (λ m l. same m (in-texts r m l)))
    ∙ ap (λ (o : Text). record { input = input_in old r; outcome = o }) (same r.outcome (in-outcome r))

pub rows-agree : (old new : List Place) (rows : List Numbered) → ((m : ℕ) → 0 < times m (flat_map numbers_of rows) → text_at new m ≡ text_at old m)
    → map (entry_in new) rows ≡ map (entry_in old) rows
rows-agree old new [] same = refl
rows-agree old new (r ∷ rs) same =
    ap (λ (e : Entry). e ∷ map (entry_in new) rs) (row-agree old new r (λ m l. same m (here m (before (times m (numbers_of r)) (times m (flat_map numbers_of rs)) l))))
    ∙ ap (λ (l : List Entry). entry_in old r ∷ l) (rows-agree old new rs (λ m l. same m (here m (after (times m (numbers_of r)) (times m (flat_map numbers_of rs)) l))))
  where
    here : (m : ℕ) → 0 < times m (numbers_of r) + times m (flat_map numbers_of rs) → 0 < times m (flat_map numbers_of (r ∷ rs))
    here m l = subst (λ k. 0 < k) (sym (times-append m (numbers_of r) (flat_map numbers_of rs))) l

flat-push : (rows : List Numbered) (r : Numbered) (m : ℕ) → times m (flat_map numbers_of (rows ++ r ∷ [])) ≡ times m (flat_map numbers_of rows) + times m (numbers_of r)
flat-push [] r m = times-append m (numbers_of r) [] ∙ none_more (times m (numbers_of r))
  where
    none_more : (a : ℕ) → a + 0 ≡ 0 + a
    none_more a = omega arith
flat-push (x ∷ xs) r m =
    times-append m (numbers_of x) (flat_map numbers_of (xs ++ r ∷ []))
    ∙ by (times m (numbers_of x)) (times m (flat_map numbers_of (xs ++ r ∷ []))) (times m (flat_map numbers_of xs)) (times m (numbers_of r)) (times m (flat_map numbers_of (x ∷ xs)))
    (flat-push xs r m) (times-append m (numbers_of x) (flat_map numbers_of xs))
  where
    by : (a b c d e : ℕ) → b ≡ c + d → e ≡ a + c → a + b ≡ e + d
    by a b c d e x y = omega (arith, x, y)

some-of : (u a b : ℕ) → u ≡ a + b → 0 < a → 0 < u
some-of u a b e l = omega (arith, e, l)

-- what a row mentions is kept
pub live : (key : Key) (extra : List ℕ) (kept : List Place) (index : List ℕ) (rows : List Numbered) → IsCache key extra kept index rows → (m : ℕ) → 0 < times m (flat_map numbers_of rows) → 0 < uses_at kept m
live key extra kept index rows is m l = some-of (uses_at kept m) (times m (flat_map numbers_of rows)) (times m extra) (is.uses m) l

-- over the same view
seen : (key : Key) (extra : List ℕ) (kept : List Place) (index : List ℕ) (rows : List Numbered) (view : List Entry) → map (entry_in kept) rows ≡ view
    → ((m : ℕ) → uses_at kept m ≡ times m (flat_map numbers_of rows) + times m extra) → AreMixed key kept → index ≡ map (entry_bucket key) view → AreDistinct view → IsCache key extra kept index rows
seen key extra kept index rows view is uses mixed keyed distinct = record {
  uses = uses;
  mixed = mixed;
  keyed = keyed ∙ ap (map (entry_bucket key)) (sym is);
  distinct = subst AreDistinct (sym is) distinct;
}

pub cache-like : (key : Key) (extra : List ℕ) (old new : List Place) (index : List ℕ) (rows : List Numbered) → IsCache key extra old index rows → IsLike old new → AreMixed key new
    → IsCache key extra new index rows × (map (entry_in new) rows ≡ map (entry_in old) rows)
cache-like key extra old new index rows is like mixed =
    let same : map (entry_in new) rows ≡ map (entry_in old) rows = rows-agree old new rows (λ m l. like.same m (live key extra old index rows is m l)) in
    (seen key extra new index rows (map (entry_in old) rows) same (λ m. like.uses m ∙ is.uses m) mixed is.keyed is.distinct, same)

pub undone : (old mid new : List Place) (ts : List Text) (ns : List ℕ) → AreTaken old mid ts ns → AreFreed mid new ns → IsLike old new
undone old mid new ts ns taken freed = record {
  uses = λ m. by (uses_at mid m) (times m ns) (uses_at new m) (uses_at old m) (freed.less m) (taken.more m);
  same = λ m l. freed.same m (subst (λ k. 0 < k) (sym (by (uses_at mid m) (times m ns) (uses_at new m) (uses_at old m) (freed.less m) (taken.more m))) l) ∙ taken.same m l;
}
  where
    by : (a b c d : ℕ) → a ≡ b + c → a ≡ b + d → c ≡ d
    by a b c d x y = omega (arith, x, y)

pub cache-put : (key : Key) (extra : List ℕ) (old new : List Place) (index grown : List ℕ) (rows more : List Numbered) (r : Numbered) (e : Entry) (ts : List Text) (b : ℕ) → IsCache key extra old index rows
    → AreTaken old new ts (numbers_of r) → entry_in new r ≡ e → lookup (map (entry_in old) rows) e.input ≡ None → b ≡ bucket_of key e.input
    → grown ≡ index ++ b ∷ [] → more ≡ rows ++ r ∷ [] → AreMixed key new
    → IsCache key extra new grown more × (map (entry_in new) more ≡ map (entry_in old) rows ++ e ∷ [])
cache-put key extra old new index grown rows more r e ts b is taken e_is none b_is grown_is more_is mixed =
    let same : map (entry_in new) rows ≡ map (entry_in old) rows = rows-agree old new rows (λ m l. taken.same m (live key extra old index rows is m l)) in
    let view : map (entry_in new) (rows ++ r ∷ []) ≡ map (entry_in old) rows ++ e ∷ [] =
    map-push (entry_in new) rows r ∙ (ap (λ (l : List Entry). l ++ entry_in new r ∷ []) same ∙ ap (λ (x : Entry). map (entry_in old) rows ++ x ∷ []) e_is) in
    let keyed : grown ≡ map (entry_bucket key) (map (entry_in old) rows ++ e ∷ []) =
    grown_is ∙ (ap (λ (n : ℕ). index ++ n ∷ []) b_is ∙ (ap (λ (l : List ℕ). l ++ entry_bucket key e ∷ []) is.keyed ∙ sym (map-push (entry_bucket key) (map (entry_in old) rows) e))) in
    subst (λ (l : List Numbered). IsCache key extra new grown l × (map (entry_in new) l ≡ map (entry_in old) rows ++ e ∷ [])) (sym more_is) (
      seen key extra new grown (rows ++ r ∷ []) (map (entry_in old) rows ++ e ∷ []) view
          (λ m. by (uses_at new m) (times m (numbers_of r)) (uses_at old m) (times m (flat_map numbers_of rows)) (times m (flat_map numbers_of (rows ++ r ∷ []))) (times m extra) (taken.more m) (is.uses m) (flat-push rows r m))
          mixed keyed (distinct-push (map (entry_in old) rows) e is.distinct none),
      view,
    )
  where
    by : (a b c d f g : ℕ) → a ≡ b + c → c ≡ d + g → f ≡ d + b → a ≡ f + g
    by a b c d f g x y z = omega (arith, x, y, z)

pub first-within : (key : Key) (extra : List ℕ) (kept : List Place) (index : List ℕ) (rows : List Numbered) (r : Numbered) → IsCache key extra kept index rows → slice_get rows 0 ≡ Some r → (m : ℕ) → times m (numbers_of r) ≤ uses_at kept m
first-within key extra kept index [] r is g m = cc
first-within key extra kept index (x ∷ xs) r is g m =
    subst (λ (y : Numbered). times m (numbers_of y) ≤ uses_at kept m) (same_Some x r g)
    (by (times m (numbers_of x)) (times m (flat_map numbers_of xs)) (times m (flat_map numbers_of (x ∷ xs))) (uses_at kept m) (times m extra) (times-append m (numbers_of x) (flat_map numbers_of xs)) (is.uses m))
  where
    by : (a b c d g : ℕ) → c ≡ a + b → d ≡ c + g → a ≤ d
    by a b c d g x y = omega (arith, x, y)

pub cache-drop : (key : Key) (extra : List ℕ) (old new : List Place) (index less : List ℕ) (rows fewer : List Numbered) (r : Numbered) → IsCache key extra old index rows → slice_get rows 0 ≡ Some r
    → AreFreed old new (numbers_of r) → less ≡ drop 1 index → fewer ≡ drop 1 rows → AreMixed key new
    → IsCache key extra new less fewer × (map (entry_in new) fewer ≡ drop 1 (map (entry_in old) rows))
cache-drop key extra old new index less [] fewer r is g freed less_is fewer_is mixed = cc
cache-drop key extra old new index less (x ∷ xs) fewer r is g freed less_is fewer_is mixed =
    let own : AreFreed old new (numbers_of x) = subst (λ (y : Numbered). AreFreed old new (numbers_of y)) (sym (same_Some x r g)) freed in
    let left : (m : ℕ) → uses_at new m ≡ times m (flat_map numbers_of xs) + times m extra = λ m.
    by (uses_at old m) (times m (numbers_of x)) (uses_at new m) (times m (flat_map numbers_of xs)) (times m (flat_map numbers_of (x ∷ xs))) (times m extra)
    (own.less m) (is.uses m) (times-append m (numbers_of x) (flat_map numbers_of xs)) in
    let same : map (entry_in new) xs ≡ map (entry_in old) xs = rows-agree old new xs (λ m l. own.same m (some-of (uses_at new m) (times m (flat_map numbers_of xs)) (times m extra) (left m) l)) in
    subst (λ (l : List Numbered). IsCache key extra new less l × (map (entry_in new) l ≡ map (entry_in old) xs)) (sym fewer_is) (
      seen key extra new less xs (map (entry_in old) xs) same left mixed (less_is ∙ ap (drop 1) is.keyed)
          (λ j k e f l ge gf same_input. is.distinct (suc j) (suc k) e f (rises j k l) ge gf same_input),
      same,
    )
  where
    by : (a b c d f g : ℕ) → a ≡ b + c → a ≡ f + g → f ≡ b + d → c ≡ d + g
    by a b c d f g x y z = omega (arith, x, y, z)

    rises : (j k : ℕ) → j < k → suc j < suc k
    rises j k l = let a : suc j ≡ j + 1 = omega arith in let b : suc k ≡ k + 1 = omega arith in omega (arith, a, b, l)

-- a row passed on the way down the chain of an input
abbrev pub IsPassed : List Place → List Numbered → Input → ℕ → Type 0
IsPassed kept rows input k = (r : Numbered) → slice_get rows k ≡ Some r → same_input (input_in kept r) input ≡ false

pub row-there : (key : Key) (extra : List ℕ) (kept : List Place) (index : List ℕ) (rows : List Numbered) (b : ℕ) (P : ℕ → Type 0) (at : ℕ) (row : Numbered) → IsCache key extra kept index rows → IsWalk index b P at → 0 < at
    → row ≡ get_or rows (at - 1) row → slice_get rows (at - 1) ≡ Some row
row-there key extra kept index rows b P at row is walk risen row_is =
    let count : length index ≡ length rows = ap length is.keyed ∙ (length-mapped (entry_bucket key) (map (entry_in kept) rows) ∙ length-mapped (entry_in kept) rows) in
    slice_get_read rows (length rows) (at - 1) row refl (subst (λ k. at - 1 < k) count (walk-inside index b P at walk risen)) row_is

pub seek-finds : (key : Key) (extra : List ℕ) (kept : List Place) (index : List ℕ) (rows : List Numbered) (input : Input) (at : ℕ) (row : Numbered) → IsCache key extra kept index rows
    → IsWalk index (bucket_of key input) (IsPassed kept rows input) at → 0 < at → row ≡ get_or rows (at - 1) row → same_input (input_in kept row) input ≡ true
    → lookup (map (entry_in kept) rows) input ≡ Some (text_at kept row.outcome)
seek-finds key extra kept index rows input at row is walk risen row_is same =
    lookup-at (map (entry_in kept) rows) (at - 1) (entry_in kept row) input is.distinct
    (slice_get-map (entry_in kept) rows (at - 1) ∙ ap (option_map (entry_in kept)) (row-there key extra kept index rows (bucket_of key input) (IsPassed kept rows input) at row is walk risen row_is))
    (input-same (input_in kept row) input same)

pub seek-steps : (key : Key) (extra : List ℕ) (kept : List Place) (index : List ℕ) (rows : List Numbered) (input : Input) (at h : ℕ) (row : Numbered) → IsCache key extra kept index rows
    → IsWalk index (bucket_of key input) (IsPassed kept rows input) at → 0 < at → row ≡ get_or rows (at - 1) row → same_input (input_in kept row) input ≡ false
    → IsHead index (at - 1) (get_or index (at - 1) 0) h → IsWalk index (bucket_of key input) (IsPassed kept rows input) h
seek-steps key extra kept index rows input at h row is walk risen row_is other head =
    let there : slice_get rows (at - 1) ≡ Some row = row-there key extra kept index rows (bucket_of key input) (IsPassed kept rows input) at row is walk risen row_is in
    (walk-steps index (bucket_of key input) (IsPassed kept rows input) at h walk risen
    (λ r g. subst (λ (x : Numbered). same_input (input_in kept x) input ≡ false) (same_Some row r (sym there ∙ g)) other) head).1

pub seek-ends : (key : Key) (extra : List ℕ) (kept : List Place) (index : List ℕ) (rows : List Numbered) (input : Input) (at : ℕ) → IsCache key extra kept index rows
    → IsWalk index (bucket_of key input) (IsPassed kept rows input) at → at ≡ 0 → lookup (map (entry_in kept) rows) input ≡ None
seek-ends key extra kept index rows input at is walk done =
    let whole : IsWalk index (bucket_of key input) (IsPassed kept rows input) 0 = subst (λ (n : ℕ). IsWalk index (bucket_of key input) (IsPassed kept rows input) n) done walk in
    lookup-none (map (entry_in kept) rows) input (λ k e g same.
    let row = get-unmapped (entry_in kept) rows k e g in
    let chained : slice_get index k ≡ Some (bucket_of key input) =
    subst (λ (l : List ℕ). slice_get l k ≡ Some (bucket_of key input)) (sym is.keyed)
    (slice_get-map (entry_bucket key) (map (entry_in kept) rows) k ∙ (ap (option_map (entry_bucket key)) g ∙ ap (λ (i : Input). Some (bucket_of key i)) same)) in
    let not_it : same_input (input_in kept row.0) input ≡ false = walk-ends index (bucket_of key input) (IsPassed kept rows input) whole k chained row.0 row.1 in
    let it : same_input (input_in kept row.0) input ≡ true = same-input (input_in kept row.0) input (ap (λ (x : Entry). x.input) row.2 ∙ same) in
    let wrong : true ≡ false = sym it ∙ not_it in cc)

pub trimmed-within : (es : List Entry) → is_within es ≡ true → trimmed es ≡ es
trimmed-within [] h = refl
trimmed-within (e ∷ es) h = rw h refl

pub cache-undone : (key : Key) (extra : List ℕ) (old mid new : List Place) (index again : List ℕ) (rows kept_rows : List Numbered) (ts : List Text) (r back : Numbered) → IsCache key extra old index rows
    → AreTaken old mid ts (numbers_of r) → back ≡ r → AreFreed mid new (numbers_of back) → again ≡ index → kept_rows ≡ rows → AreMixed key new
    → IsCache key extra new again kept_rows × (map (entry_in new) kept_rows ≡ map (entry_in old) rows)
cache-undone key extra old mid new index again rows kept_rows ts r back is taken back_is freed again_is rows_is mixed =
    let like : IsLike old new = undone old mid new ts (numbers_of r) taken (subst (λ (x : Numbered). AreFreed mid new (numbers_of x)) back_is freed) in
    subst (λ (l : List Numbered). IsCache key extra new again l × (map (entry_in new) l ≡ map (entry_in old) rows)) (sym rows_is)
    (subst (λ (i : List ℕ). IsCache key extra new i rows × (map (entry_in new) rows ≡ map (entry_in old) rows)) (sym again_is) (cache-like key extra old new index rows is like mixed))
