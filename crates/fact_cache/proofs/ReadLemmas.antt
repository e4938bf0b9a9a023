-- The reader of texts and rows: what is read is spelled so, and what is spelled so is read.
use Rattle.std.proofs.Common.{◌≡◌, ℕ, ◌^◌, ◌<◌, ◌≤◌, ◌+◌, ◌-◌, Bool, true, false, cond, eqb, ltb, List, [], ◌∷◌, ◌++◌, append_assoc, length, length-append, take, drop, map, Some, None, refl, sym, ap, subst, ◌∙◌, arith, inl, inr, suc}
use Rattle.std.specs.Str.{bytes_eq}
use Rattle.std.specs.Fmt.{signed_decimal}
use Rattle.std.specs.Prelude.{pos}
use Rattle.std.specs.List.{flat_map, AllByRecursion}
use Rattle.std.proofs.lemmas.Bool.{eqb-true, le-ltb}
use Rattle.std.proofs.lemmas.List.{append-nil, nil_from_length, take-append-drop}
use Rattle.std.proofs.lemmas.Slice.Eq.{bytes_eq-Decides}
use Rattle.gv_bytes.specs.Spelling.{number, natural, text, items, IsText, AreItems}
use Rattle.gv_bytes.specs.Reading.{◌>>=◌, Reads, natural_at, text_at, items_at}
use Rattle.gv_bytes.proofs.Options.{bind_some, guard_some, chosen, some_is, chain}
use Rattle.gv_bytes.proofs.Numbers.{naturals, texts}
use Rattle.gv_bytes.proofs.Items.{lists}
use Rattle.fact_cache.specs.declared.list.Entry.{Entry}
use Rattle.fact_cache.specs.declared.numbered.Numbered.{Numbered}
use Rattle.fact_cache.specs.Inputs.{Text}
use Rattle.fact_cache.specs.Caches.{mentions}
use Rattle.fact_cache.specs.CacheTexts.{HEADER, firsts, number_in, cache_text}
use Rattle.fact_cache.specs.Coded.{row_text, coded_text, coded, row_at, header_at, coded_of}
use Rattle.fact_cache.proofs.CodedLemmas.{text-coded}

abbrev pub IsRow : Numbered → Type 0
IsRow row = (row.node ≤ 255) × AreItems (λ n. n ≤ 2 ^ 64 - 1) row.texts × (row.outcome ≤ 2 ^ 64 - 1)

nodes : Reads (λ n. n ≤ 255) natural (natural_at 255)
nodes = naturals 255 (omega arith)

sizes : Reads (λ n. n ≤ 2 ^ 64 - 1) natural (natural_at (2 ^ 64 - 1))
sizes = naturals (2 ^ 64 - 1) (omega arith)

size_lists : Reads (AreItems (λ n. n ≤ 2 ^ 64 - 1)) (items natural) (items_at (natural_at (2 ^ 64 - 1)))
size_lists = lists sizes

row_take : (bytes : List ℕ) (x : Numbered × List ℕ) → row_at bytes ≡ Some x → (bytes ≡ row_text x.0 ++ x.1) × IsRow x.0
unfolding row_at
row_take bytes x e =
    let a = bind_some (natural_at 255 bytes) (λ node. items_at (natural_at (2 ^ 64 - 1)) node.1 >>= λ texts. natural_at (2 ^ 64 - 1) texts.1 >>= λ outcome. Some (record { node = node.0; texts = texts.0; outcome = outcome.0 }, outcome.1)) x e in
    let b = bind_some (items_at (natural_at (2 ^ 64 - 1)) a.0.1) (λ texts. natural_at (2 ^ 64 - 1) texts.1 >>= λ outcome. Some (record { node = a.0.0; texts = texts.0; outcome = outcome.0 }, outcome.1)) x a.2 in
    let c = bind_some (natural_at (2 ^ 64 - 1) b.0.1) (λ outcome. Some (record { node = a.0.0; texts = b.0.0; outcome = outcome.0 }, outcome.1)) x b.2 in
    let node = nodes.takes bytes a.0 a.1 in
    let texts = size_lists.takes a.0.1 b.0 b.1 in
    let outcome = sizes.takes b.0.1 c.0 c.1 in
    let one = chain bytes (natural a.0.0) a.0.1 (items natural b.0.0) b.0.1 node.0 texts.0 in
    let two = chain bytes (natural a.0.0 ++ items natural b.0.0) b.0.1 (natural c.0.0) c.0.1 one outcome.0 in
    let made : Numbered × List ℕ = (record { node = a.0.0; texts = b.0.0; outcome = c.0.0 }, c.0.1) in
    subst (λ (y : Numbered × List ℕ). (bytes ≡ row_text y.0 ++ y.1) × IsRow y.0) (some_is made x c.2) (two, (node.1, texts.1, outcome.1))

regroup_three : (a b c d : List ℕ) → ((a ++ b) ++ c) ++ d ≡ a ++ (b ++ (c ++ d))
regroup_three a b c d = simp append_assoc

row_again : (row : Numbered) (rest : List ℕ) → IsRow row → row_at (row_text row ++ rest) ≡ Some (row, rest)
unfolding row_at
row_again row rest fits =
    ap row_at (regroup_three (natural row.node) (items natural row.texts) (natural row.outcome) rest)
    ∙ rw (nodes.again row.node (items natural row.texts ++ (natural row.outcome ++ rest)) fits.0, size_lists.again row.texts (natural row.outcome ++ rest) fits.1, sizes.again row.outcome rest fits.2) refl

rows : Reads IsRow row_text row_at
rows = record { takes = row_take; again = row_again }

row_lists : Reads (AreItems IsRow) (items row_text) (items_at row_at)
row_lists = lists rows

text_lists : Reads (AreItems IsText) (items text) (items_at text_at)
text_lists = lists texts

header-take : (bytes rest : List ℕ) → header_at bytes ≡ Some rest → bytes ≡ HEADER ++ rest
unfolding header_at
header-take bytes rest e =
    let a = guard_some (ltb (length bytes) 10) (cond (bytes_eq (take 10 bytes) HEADER) (Some (drop 10 bytes)) None) rest e in
    elim (chosen (bytes_eq (take 10 bytes) HEADER) (Some (drop 10 bytes)) None (Some rest) a.1) [
      | inl p ↦ sym (take-append-drop 10 bytes) ∙ (ap (λ (t : List ℕ). t ++ drop 10 bytes) ((bytes_eq-Decides (take 10 bytes) HEADER).0 p.0) ∙ ap (λ (t : List ℕ). HEADER ++ t) (some_is (drop 10 bytes) rest p.1))
      | inr p ↦ absurd cc
    ]

header-again : (rest : List ℕ) → header_at (HEADER ++ rest) ≡ Some rest
unfolding header_at
header-again rest = ap (λ (c : Bool). cond c None (Some rest)) (le-ltb (length (HEADER ++ rest)) 10 (omega (arith, length-append HEADER rest)))

pub coded-take : (bytes : List ℕ) (x : List Text × List Numbered) → coded_of bytes ≡ Some x → (bytes ≡ coded_text x.0 x.1) × AllByRecursion IsRow x.1
unfolding coded_of
coded-take bytes x e =
    let a = bind_some (header_at bytes) (λ rest. items_at text_at rest >>= λ texts. items_at row_at texts.1 >>= λ rows. cond (eqb (length rows.1) 0) (Some (texts.0, rows.0)) None) x e in
    let b = bind_some (items_at text_at a.0) (λ texts. items_at row_at texts.1 >>= λ rows. cond (eqb (length rows.1) 0) (Some (texts.0, rows.0)) None) x a.2 in
    let c = bind_some (items_at row_at b.0.1) (λ rows. cond (eqb (length rows.1) 0) (Some (b.0.0, rows.0)) None) x b.2 in
    let texts = text_lists.takes a.0 b.0 b.1 in
    let rows = row_lists.takes b.0.1 c.0 c.1 in
    let one : bytes ≡ (HEADER ++ items text b.0.0) ++ b.0.1 = chain bytes HEADER a.0 (items text b.0.0) b.0.1 (header-take bytes a.0 a.1) texts.0 in
    let made : List Text × List Numbered = (b.0.0, c.0.0) in
    elim (chosen (eqb (length c.0.1) 0) (Some made) None (Some x) c.2) [
      | inl p ↦
          let nothing : c.0.1 ≡ [] = nil_from_length c.0.1 (eqb-true _ _ p.0) in
          let last : b.0.1 ≡ items row_text c.0.0 = rows.0 ∙ (ap (λ (t : List ℕ). items row_text c.0.0 ++ t) nothing ∙ append-nil (items row_text c.0.0)) in
          subst (λ (y : List Text × List Numbered). (bytes ≡ coded_text y.0 y.1) × AllByRecursion IsRow y.1) (some_is made x p.1)
          (one ∙ ap (λ (t : List ℕ). (HEADER ++ items text b.0.0) ++ t) last, rows.1.1)
      | inr p ↦ absurd cc
    ]

coded-again : (ts : List Text) (rs : List Numbered) → AreItems IsText ts → AreItems IsRow rs → coded_of (coded_text ts rs) ≡ Some (ts, rs)
unfolding coded_of
coded-again ts rs text_fit row_fit =
    let end : items_at row_at (items row_text rs) ≡ Some (rs, []) = ap (items_at row_at) (sym (append-nil (items row_text rs))) ∙ row_lists.again rs [] row_fit in
    ap coded_of (append_assoc HEADER (items text ts) (items row_text rs))
    ∙ rw (header-again (items text ts ++ items row_text rs), text_lists.again ts (items row_text rs) text_fit, end) refl

-- what is spelled in so many bytes has counts below them
flat-fits : {X : Type 0} (f : X → List ℕ) (P : X → Type 0) (most : ℕ) → ((x : X) → length (f x) ≤ most → P x) → (xs : List X) → length (flat_map f xs) ≤ most → AllByRecursion P xs
flat-fits f P most each [] l = tt
flat-fits f P most each (x ∷ xs) l = (
  each x (first (length (f x)) (length (flat_map f xs)) (length (f x ++ flat_map f xs)) (length-append (f x) (flat_map f xs)) l),
  flat-fits f P most each xs (second (length (f x)) (length (flat_map f xs)) (length (f x ++ flat_map f xs)) (length-append (f x) (flat_map f xs)) l),
)
  where
    first : (a b c : ℕ) → c ≡ a + b → c ≤ most → a ≤ most
    first a b c e l = omega (arith, e, l)

    second : (a b c : ℕ) → c ≡ a + b → c ≤ most → b ≤ most
    second a b c e l = omega (arith, e, l)

count-fits : {X : Type 0} (f : X → List ℕ) → ((x : X) → 0 < length (f x)) → (xs : List X) → length xs ≤ length (flat_map f xs)
count-fits f some [] = omega arith
count-fits f some (x ∷ xs) = more (length (f x)) (length (flat_map f xs)) (length (f x ++ flat_map f xs)) (length xs) (length-append (f x) (flat_map f xs)) (some x) (count-fits f some xs)
  where
    more : (a b c n : ℕ) → c ≡ a + b → 0 < a → n ≤ b → suc n ≤ c
    more a b c n e l i = let x : suc n ≡ n + 1 = omega arith in omega (arith, e, l, i, x)

natural-some : (n : ℕ) → 0 < length (natural n)
unfolding number
natural-some n = pushed (signed_decimal (pos n)) (59 ∷ []) (omega arith)
  where
    pushed : (a b : List ℕ) → 0 < length b → 0 < length (a ++ b)
    pushed a b l = let e : length (a ++ b) ≡ length a + length b = length-append a b in omega (arith, e, l)

left-fits : (a b : List ℕ) (most : ℕ) → length (a ++ b) ≤ most → length a ≤ most
left-fits a b most l = let e : length (a ++ b) ≡ length a + length b = length-append a b in omega (arith, e, l)

right-fits : (a b : List ℕ) (most : ℕ) → length (a ++ b) ≤ most → length b ≤ most
right-fits a b most l = let e : length (a ++ b) ≡ length a + length b = length-append a b in omega (arith, e, l)

left-some : (a b : List ℕ) → 0 < length a → 0 < length (a ++ b)
left-some a b l = let e : length (a ++ b) ≡ length a + length b = length-append a b in omega (arith, e, l)

items-fit : {X : Type 0} (f : X → List ℕ) (P : X → Type 0) (most : ℕ) → ((x : X) → length (f x) ≤ most → P x) → (xs : List X) → length (items f xs) ≤ most → AllByRecursion P xs
items-fit f P most each xs l = flat-fits f P most each xs (right-fits (natural (length xs)) (flat_map f xs) most l)

items-count : {X : Type 0} (f : X → List ℕ) → ((x : X) → 0 < length (f x)) → (xs : List X) (most : ℕ) → length (items f xs) ≤ most → length xs ≤ most
items-count f some xs most l =
    let least : length xs ≤ length (flat_map f xs) = count-fits f some xs in
    let inner : length (flat_map f xs) ≤ most = right-fits (natural (length xs)) (flat_map f xs) most l in omega (arith, least, inner)

text-some : (t : Text) → 0 < length (text t)
text-some t = left-some (natural (length t)) t (natural-some (length t))

row-some : (r : Numbered) → 0 < length (row_text r)
row-some r = left-some (natural r.node ++ items natural r.texts) (natural r.outcome) (left-some (natural r.node) (items natural r.texts) (natural-some r.node))

below-most : (n : ℕ) → n ≤ 2 ^ 64 - 1 → n < 2 ^ 64
below-most n l = omega (arith, l)

most-below : (n : ℕ) → n < 2 ^ 64 → n ≤ 2 ^ 64 - 1
most-below n l = omega (arith, l)

number-most : (ts : List Text) (t : Text) → number_in ts t ≤ length ts
number-most [] t = omega arith
number-most (u ∷ us) t = by (bytes_eq u t) (number_in us t) (length us) (number-most us t)
  where
    by : (c : Bool) (k n : ℕ) → k ≤ n → cond {A = ℕ} c 0 (k + 1) ≤ suc n
    by true k n l = omega arith
    by false k n l = let x : suc n ≡ n + 1 = omega arith in omega (arith, l, x)

numbers-fit : (ts xs : List Text) → length ts ≤ 2 ^ 64 - 1 → AllByRecursion (λ n. n ≤ 2 ^ 64 - 1) (map (number_in ts) xs)
numbers-fit ts [] l = tt
numbers-fit ts (x ∷ xs) l = (let most : number_in ts x ≤ length ts = number-most ts x in omega (arith, most, l), numbers-fit ts xs l)

row-fits : (ts : List Text) (e : Entry) → e.input.node < 2 ^ 8 → length ts ≤ 2 ^ 64 - 1 → length (row_text (coded ts e)) ≤ 2 ^ 64 - 1 → IsRow (coded ts e)
row-fits ts e node l fits =
    let numbers : List ℕ = map (number_in ts) e.input.texts in
    let front : length (natural e.input.node ++ items natural numbers) ≤ 2 ^ 64 - 1 = left-fits (natural e.input.node ++ items natural numbers) (natural (number_in ts e.outcome)) (2 ^ 64 - 1) fits in
    let list : length (items natural numbers) ≤ 2 ^ 64 - 1 = right-fits (natural e.input.node) (items natural numbers) (2 ^ 64 - 1) front in
    let most : number_in ts e.outcome ≤ length ts = number-most ts e.outcome in
    (omega (arith, node), (below-most (length numbers) (items-count natural natural-some numbers (2 ^ 64 - 1) list), numbers-fit ts e.input.texts l), omega (arith, most, l))

rows-fit : (ts : List Text) (es : List Entry) → AllByRecursion (λ (e : Entry). e.input.node < 2 ^ 8) es → length ts ≤ 2 ^ 64 - 1 → length (flat_map row_text (map (coded ts) es)) ≤ 2 ^ 64 - 1
    → AllByRecursion IsRow (map (coded ts) es)
rows-fit ts [] node l fits = tt
rows-fit ts (e ∷ es) node l fits = (
  row-fits ts e node.0 l (left-fits (row_text (coded ts e)) (flat_map row_text (map (coded ts) es)) (2 ^ 64 - 1) fits),
  rows-fit ts es node.1 l (right-fits (row_text (coded ts e)) (flat_map row_text (map (coded ts) es)) (2 ^ 64 - 1) fits),
)

-- What spells a cache is read as its texts and rows.
pub spelled-reads : (es : List Entry) (bytes : List ℕ) → AllByRecursion (λ (e : Entry). e.input.node < 2 ^ 8) es → bytes ≡ cache_text es → length bytes < 2 ^ 64
    → coded_of bytes ≡ Some (firsts (mentions es), map (coded (firsts (mentions es))) es)
spelled-reads es bytes node is small =
    let ts : List Text = firsts (mentions es) in
    let rs : List Numbered = map (coded ts) es in
    let whole : bytes ≡ coded_text ts rs = is ∙ text-coded es in
    let fits : length (coded_text ts rs) ≤ 2 ^ 64 - 1 = subst (λ (l : List ℕ). length l ≤ 2 ^ 64 - 1) whole (most-below (length bytes) small) in
    let front : length (HEADER ++ items text ts) ≤ 2 ^ 64 - 1 = left-fits (HEADER ++ items text ts) (items row_text rs) (2 ^ 64 - 1) fits in
    let row_list : length (items row_text rs) ≤ 2 ^ 64 - 1 = right-fits (HEADER ++ items text ts) (items row_text rs) (2 ^ 64 - 1) fits in
    let text_list : length (items text ts) ≤ 2 ^ 64 - 1 = right-fits HEADER (items text ts) (2 ^ 64 - 1) front in
    let count : length ts ≤ 2 ^ 64 - 1 = items-count text text-some ts (2 ^ 64 - 1) text_list in
    ap coded_of whole
    ∙ coded-again ts rs
    (below-most (length ts) count, items-fit text IsText (2 ^ 64 - 1) (λ t l. below-most (length t) (right-fits (natural (length t)) t (2 ^ 64 - 1) l)) ts text_list)
    (below-most (length rs) (items-count row_text row-some rs (2 ^ 64 - 1) row_list), rows-fit ts es node count (right-fits (natural (length rs)) (flat_map row_text rs) (2 ^ 64 - 1) row_list))
