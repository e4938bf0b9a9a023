-- The bytes of the kept texts are those of the distinct texts that entries mention.
use Rattle.std.proofs.Common.{◌≡◌, ℕ, ◌<◌, ◌+◌, Bool, true, false, List, [], ◌∷◌, ◌++◌, length, map, refl, sym, ap, ◌∙◌, subst, arith, zero, suc}
use Rattle.std.specs.Prelude.{◌==◌, ◌||◌, if◌then◌else◌}
use Rattle.std.specs.Str.{bytes_eq}
use Rattle.std.specs.List.{flat_map}
use Rattle.std.proofs.lemmas.Bool.Decides.{Decides-eqb}
use Rattle.std.proofs.lemmas.Slice.Eq.{bytes_eq-Decides}
use Rattle.fact_cache.specs.declared.kept.Place.{Place}
use Rattle.fact_cache.specs.declared.numbered.Numbered.{Numbered}
use Rattle.fact_cache.specs.Inputs.{Text}
use Rattle.fact_cache.specs.Kept.{uses_at, text_at, one_at, weight, kept_bytes}
use Rattle.fact_cache.specs.Caches.{texts_of, mentions, is_among, distinct_bytes}
use Rattle.fact_cache.specs.Numbered.{entry_in, numbers_of, times}
use Rattle.fact_cache.proofs.ListFacts.{map-push}
use Rattle.fact_cache.proofs.KeptLemmas.{live-inside, weight-live}
use Rattle.fact_cache.proofs.NumberedLemmas.{one-here}

-- g 0 + .. + g (n - 1)
abbrev summed : (ℕ → ℕ) → ℕ → ℕ
summed g zero = 0
summed g (suc n) = g 0 + summed (λ m. g (suc m)) n

kept-summed : (ps : List Place) → kept_bytes ps ≡ summed (λ m. weight (uses_at ps m) (text_at ps m)) (length ps)
kept-summed [] = refl
kept-summed (p ∷ ps) = ap (λ k. weight p.uses p.bytes + k) (kept-summed ps)

summed-same : (g h : ℕ → ℕ) (n : ℕ) → ((m : ℕ) → g m ≡ h m) → summed g n ≡ summed h n
summed-same g h zero same = refl
summed-same g h (suc n) same = ap (λ k. k + summed (λ m. g (suc m)) n) (same 0) ∙ ap (λ k. h 0 + k) (summed-same (λ m. g (suc m)) (λ m. h (suc m)) n (λ m. same (suc m)))

summed-none : (g : ℕ → ℕ) (n : ℕ) → ((m : ℕ) → g m ≡ 0) → summed g n ≡ 0
summed-none g zero none = refl
summed-none g (suc n) none = ap (λ k. k + summed (λ m. g (suc m)) n) (none 0) ∙ ap (λ k. 0 + k) (summed-none (λ m. g (suc m)) n (λ m. none (suc m)))

-- one of the summed is more
summed-more : (g h : ℕ → ℕ) (n at d : ℕ) → at < n → g at ≡ d + h at → ((m : ℕ) → (m ≡ at → ⊥) → g m ≡ h m) → summed g n ≡ d + summed h n
summed-more g h zero at d l here there = absurd (omega (arith, l))
summed-more g h (suc n) zero d l here there =
    ap (λ k. k + summed (λ m. g (suc m)) n) here ∙ (ap (λ k. d + h 0 + k) (summed-same (λ m. g (suc m)) (λ m. h (suc m)) n (λ m. there (suc m) (λ e. cc))) ∙ by d (h 0) (summed (λ m. h (suc m)) n))
  where
    by : (a b c : ℕ) → a + b + c ≡ a + (b + c)
    by a b c = omega arith
summed-more g h (suc n) (suc at) d l here there =
    ap (λ k. k + summed (λ m. g (suc m)) n) (there 0 (λ e. cc)) ∙ (ap (λ k. h 0 + k) (summed-more (λ m. g (suc m)) (λ m. h (suc m)) n at d (lower at n l) here (λ m other. there (suc m) (λ e. other (same_suc m at e))))
    ∙ by (h 0) d (summed (λ m. h (suc m)) n))
  where
    by : (a b c : ℕ) → a + (b + c) ≡ b + (a + c)
    by a b c = omega arith

    lower : (a b : ℕ) → suc a < suc b → a < b
    lower a b i = let x : suc a ≡ a + 1 = omega arith in let y : suc b ≡ b + 1 = omega arith in omega (arith, i, x, y)

    same_suc : (a b : ℕ) → suc a ≡ suc b → a ≡ b
    same_suc a b e = let x : suc a ≡ a + 1 = omega arith in let y : suc b ≡ b + 1 = omega arith in omega (arith, e, x, y)

one-there : (n m : ℕ) → (m ≡ n → ⊥) → one_at n m ≡ 0
one-there n m other = by (n == m) refl
  where
    by : (c : Bool) → (n == m) ≡ c → if◌then◌else◌ {A = ℕ} c 1 0 ≡ 0
    by true e = absurd (other (sym ((Decides-eqb n m).0 e)))
    by false e = refl

-- what one mention more adds
abbrev added : ℕ → Text → ℕ
added n t = if n == 0 then length t else 0

weight-more : (n : ℕ) (t : Text) → weight (1 + n) t ≡ added n t + weight n t
weight-more n t = weight-live (1 + n) t (omega arith) ∙ by (n == 0) refl
  where
    none_more : (k : ℕ) → k ≡ 0 + k
    none_more k = omega arith

    plus_none : (k : ℕ) → k ≡ k + 0
    plus_none k = omega arith

    by : (c : Bool) → (n == 0) ≡ c → length t ≡ if◌then◌else◌ {A = ℕ} c (length t) 0 + if◌then◌else◌ {A = ℕ} c 0 (length t)
    by true e = plus_none (length t)
    by false e = none_more (length t)

mention-more : (f : ℕ → Text) (ns : List ℕ) (n size : ℕ) → n < size
    → summed (λ m. weight (times m (n ∷ ns)) (f m)) size ≡ added (times n ns) (f n) + summed (λ m. weight (times m ns) (f m)) size
mention-more f ns n size l = summed-more (λ m. weight (times m (n ∷ ns)) (f m)) (λ m. weight (times m ns) (f m)) size n (added (times n ns) (f n)) l
    (ap (λ k. weight (k + times n ns) (f n)) (one-here n) ∙ weight-more (times n ns) (f n))
    (λ m other. ap (λ k. weight k (f m)) (ap (λ k. k + times m ns) (one-there n m other) ∙ none_more (times m ns)))
  where
    none_more : (k : ℕ) → 0 + k ≡ k
    none_more k = omega arith

abbrev pub not_zero : ℕ → Bool
not_zero k = if k == 0 then false else true

not_zero-risen : (k : ℕ) → 0 < k → not_zero k ≡ true
not_zero-risen k l = by (k == 0) refl
  where
    by : (c : Bool) → (k == 0) ≡ c → if◌then◌else◌ {A = Bool} c false true ≡ true
    by true e = let z : k ≡ 0 = (Decides-eqb k 0).0 e in absurd (omega (arith, z, l))
    by false e = refl

among-by : (f : ℕ → Text) (n x : ℕ) (ns : List ℕ) (c : Bool) → bytes_eq (f x) (f n) ≡ c → (f x ≡ f n → x ≡ n) → is_among (f n) (map f ns) ≡ not_zero (times n ns)
    → (c || is_among (f n) (map f ns)) ≡ not_zero (one_at x n + times n ns)
among-by f n x ns true e same rest =
    let here : x ≡ n = same ((bytes_eq-Decides (f x) (f n)).0 e) in
    sym (not_zero-risen (one_at x n + times n ns) (before (one_at x n) (times n ns) (subst (λ k. one_at x k ≡ 1) here (one-here x))))
  where
    before : (a b : ℕ) → a ≡ 1 → 0 < a + b
    before a b e = omega (arith, e)
among-by f n x ns false e same rest =
    rest ∙ ap not_zero (none_more (times n ns) ∙ ap (λ k. k + times n ns) (sym (one-there x n (λ s. differ (bytes_eq (f x) (f n)) ((bytes_eq-Decides (f x) (f n)).1 (ap f (sym s))) e))))
  where
    none_more : (k : ℕ) → k ≡ 0 + k
    none_more k = omega arith

    differ : (c : Bool) → c ≡ true → c ≡ false → ⊥
    differ c t e = let u : true ≡ false = sym t ∙ e in cc

-- a text is among the mentioned exactly where its number is
pub among : (f : ℕ → Text) (n : ℕ) (ns : List ℕ) → ((m : ℕ) → 0 < times m ns → f m ≡ f n → m ≡ n) → is_among (f n) (map f ns) ≡ not_zero (times n ns)
among f n [] same = refl
among f n (x ∷ ns) same =
    among-by f n x ns (bytes_eq (f x) (f n)) refl (same x (before (one_at x x) (times x ns) (one-here x)))
    (among f n ns (λ m l e. same m (after (one_at x m) (times m ns) l) e))
  where
    after : (a b : ℕ) → 0 < b → 0 < a + b
    after a b l = omega (arith, l)

    before : (a b : ℕ) → a ≡ 1 → 0 < a + b
    before a b e = omega (arith, e)

added-among : (k : ℕ) (t : Text) (c : Bool) → c ≡ not_zero k → added k t ≡ (if c then 0 else length t)
added-among k t c e = by (k == 0) refl ∙ ap (λ d. if◌then◌else◌ {A = ℕ} d 0 (length t)) (sym e)
  where
    by : (d : Bool) → (k == 0) ≡ d → if◌then◌else◌ {A = ℕ} d (length t) 0 ≡ if◌then◌else◌ {A = ℕ} (if◌then◌else◌ {A = Bool} d false true) 0 (length t)
    by true z = refl
    by false z = refl

mentioned : (f : ℕ → Text) (ns : List ℕ) (size : ℕ) → ((m : ℕ) → 0 < times m ns → m < size) → ((m n : ℕ) → 0 < times m ns → 0 < times n ns → f m ≡ f n → m ≡ n)
    → summed (λ m. weight (times m ns) (f m)) size ≡ distinct_bytes (map f ns)
mentioned f [] size inside same = summed-none (λ m. weight (times m []) (f m)) size (λ m. refl)
mentioned f (n ∷ ns) size inside same =
    mention-more f ns n size (inside n (before (one_at n n) (times n ns) (one-here n)))
    ∙ (ap (λ k. k + summed (λ m. weight (times m ns) (f m)) size)
    (added-among (times n ns) (f n) (is_among (f n) (map f ns))
    (among f n ns (λ m l e. same m n (after (one_at n m) (times m ns) l) (before (one_at n n) (times n ns) (one-here n)) e)))
    ∙ ap (λ k. (if is_among (f n) (map f ns) then 0 else length (f n)) + k)
    (mentioned f ns size (λ m l. inside m (after (one_at n m) (times m ns) l)) (λ j k lj lk e. same j k (after (one_at n j) (times j ns) lj) (after (one_at n k) (times k ns) lk) e)))
  where
    before : (a b : ℕ) → a ≡ 1 → 0 < a + b
    before a b e = omega (arith, e)

    after : (a b : ℕ) → 0 < b → 0 < a + b
    after a b l = omega (arith, l)

map-append : {X Y : Type 0} (f : X → Y) (xs ys : List X) → map f (xs ++ ys) ≡ map f xs ++ map f ys
map-append f [] ys = refl
map-append f (x ∷ xs) ys = ap (λ r. f x ∷ r) (map-append f xs ys)

pub mentions-numbered : (kept : List Place) (rows : List Numbered) → mentions (map (entry_in kept) rows) ≡ map (text_at kept) (flat_map numbers_of rows)
mentions-numbered kept [] = refl
mentions-numbered kept (r ∷ rs) =
    ap (λ l. texts_of (entry_in kept r) ++ l) (mentions-numbered kept rs)
    ∙ (ap (λ l. l ++ map (text_at kept) (flat_map numbers_of rs)) (sym (map-push (text_at kept) r.texts r.outcome))
    ∙ sym (map-append (text_at kept) (numbers_of r) (flat_map numbers_of rs)))

pub bare : {a b : ℕ} → a ≡ b + 0 → a ≡ b
bare {a} {b} e = omega (arith, e)

pub total-is : (kept : List Place) (rows : List Numbered) → ((m : ℕ) → uses_at kept m ≡ times m (flat_map numbers_of rows))
    → ((m : ℕ) → (n : ℕ) → 0 < uses_at kept m → 0 < uses_at kept n → text_at kept m ≡ text_at kept n → m ≡ n)
    → kept_bytes kept ≡ distinct_bytes (mentions (map (entry_in kept) rows))
total-is kept rows uses same =
    let ns : List ℕ = flat_map numbers_of rows in
    kept-summed kept
    ∙ (summed-same (λ m. weight (uses_at kept m) (text_at kept m)) (λ m. weight (times m ns) (text_at kept m)) (length kept) (λ m. ap (λ k. weight k (text_at kept m)) (uses m))
    ∙ (mentioned (text_at kept) ns (length kept)
    (λ m l. live-inside kept m (subst (λ k. 0 < k) (sym (uses m)) l))
    (λ m n lm ln e. same m n (subst (λ k. 0 < k) (sym (uses m)) lm) (subst (λ k. 0 < k) (sym (uses n)) ln) e)
    ∙ ap distinct_bytes (sym (mentions-numbered kept rows))))
