-- What the text of a cache has: its first mentions, each once, and numbers that rise with them.
use Rattle.std.proofs.Common.{◌≡◌, ℕ, ◌<◌, ◌+◌, ◌⊎◌, Bool, true, false, Some, List, [], ◌∷◌, ◌++◌, append_assoc, length, length-append, map, refl, sym, ap, ◌∙◌, subst, inl, inr, arith, zero, suc}
use Rattle.std.specs.Prelude.{◌||◌, if◌then◌else◌}
use Rattle.std.specs.Str.{bytes_eq}
use Rattle.std.specs.List.{flat_map}
use Rattle.std.proofs.lemmas.Bool.{le-ltb, lt-ltb, eq-eqb}
use Rattle.std.proofs.lemmas.List.{append-nil}
use Rattle.fact_cache.specs.declared.list.Entry.{Entry}
use Rattle.fact_cache.specs.Inputs.{Text}
use Rattle.fact_cache.specs.Caches.{texts_of, mentions, is_among}
use Rattle.fact_cache.specs.CacheTexts.{firsts_after, firsts, number_in}
use Rattle.fact_cache.specs.Coded.{coded, nth, decoded, rises, IsInOrder, AreApart}
use Rattle.fact_cache.specs.Numbered.{numbers_of}
use Rattle.fact_cache.proofs.ListFacts.{map-push}
use Rattle.fact_cache.proofs.CodedLemmas.{differ, bytes-same, bytes-one, map-append}

-- what a test chose
pick-true : (c : Bool) (xs ys : List Text) → c ≡ true → if◌then◌else◌ {A = List Text} c xs ys ≡ xs
pick-true c xs ys e = ap (λ d. if◌then◌else◌ {A = List Text} d xs ys) e

pick-false : (c : Bool) (xs ys : List Text) → c ≡ false → if◌then◌else◌ {A = List Text} c xs ys ≡ ys
pick-false c xs ys e = ap (λ d. if◌then◌else◌ {A = List Text} d xs ys) e

or-parts : (c d : Bool) → (c || d) ≡ false → (c ≡ false) × (d ≡ false)
or-parts true d e = cc
or-parts false d e = (refl, e)

or-cases : (c d : Bool) → (c || d) ≡ true → (c ≡ true) ⊎ (d ≡ true)
or-cases true d e = inl refl
or-cases false d e = inr e

or-left : (c d : Bool) → c ≡ true → (c || d) ≡ true
or-left c d e = ap (λ x. x || d) e

or-right : (c d : Bool) → d ≡ true → (c || d) ≡ true
or-right true d e = refl
or-right false d e = e

lower : (a b : ℕ) → suc a < suc b → a < b
lower a b i = let x : suc a ≡ a + 1 = omega arith in let y : suc b ≡ b + 1 = omega arith in omega (arith, i, x, y)

-- what is among neither these, nor is the text before them
abbrev IsFresh : List Text → List Text → Type 0
IsFresh seen ts = (k : ℕ) → k < length ts → is_among (nth ts k) seen ≡ false

fresh-by : (c : Bool) (xs F : List Text) (t : Text) (seen : List Text) → is_among t seen ≡ c → IsFresh seen xs → IsFresh (t ∷ seen) F → IsFresh seen (if◌then◌else◌ {A = List Text} c xs (t ∷ F))
fresh-by true xs F t seen e first second k l = first k l
fresh-by false xs F t seen e first second zero l = e
fresh-by false xs F t seen e first second (suc k) l = (or-parts (bytes_eq t (nth F k)) (is_among (nth F k) seen) (second k (lower k (length F) l))).1

-- a first mention isn't among the seen
fresh : (seen ts : List Text) → IsFresh seen (firsts_after seen ts)
fresh seen [] k l = absurd (omega (arith, l))
fresh seen (t ∷ ts) k l = fresh-by (is_among t seen) (firsts_after seen ts) (firsts_after (t ∷ seen) ts) t seen refl (fresh seen ts) (fresh (t ∷ seen) ts) k l

apart-by : (c : Bool) (xs F : List Text) (t : Text) (seen : List Text) → AreApart xs → IsFresh (t ∷ seen) F → AreApart F → AreApart (if◌then◌else◌ {A = List Text} c xs (t ∷ F))
apart-by true xs F t seen first new second a b la lb same = first a b la lb same
apart-by false xs F t seen first new second zero zero la lb same = refl
apart-by false xs F t seen first new second zero (suc b) la lb same =
    absurd (differ (bytes_eq t (nth F b)) (bytes-one t (nth F b) same) (or-parts (bytes_eq t (nth F b)) (is_among (nth F b) seen) (new b (lower b (length F) lb))).0)
apart-by false xs F t seen first new second (suc a) zero la lb same =
    absurd (differ (bytes_eq t (nth F a)) (bytes-one t (nth F a) (sym same)) (or-parts (bytes_eq t (nth F a)) (is_among (nth F a) seen) (new a (lower a (length F) la))).0)
apart-by false xs F t seen first new second (suc a) (suc b) la lb same = ap (λ k. suc k) (second a b (lower a (length F) la) (lower b (length F) lb) same)

-- nor is it mentioned first twice
firsts-apart : (seen ts : List Text) → AreApart (firsts_after seen ts)
firsts-apart seen [] a b la lb e = absurd (omega (arith, la))
firsts-apart seen (t ∷ ts) a b la lb e =
    apart-by (is_among t seen) (firsts_after seen ts) (firsts_after (t ∷ seen) ts) t seen (firsts-apart seen ts) (fresh (t ∷ seen) ts) (firsts-apart (t ∷ seen) ts) a b la lb e

-- the number of a text behind a front
among-append : (xs ys : List Text) (t : Text) → is_among t (xs ++ ys) ≡ (is_among t xs || is_among t ys)
among-append [] ys t = refl
among-append (x ∷ xs) ys t = ap (λ c. bytes_eq x t || c) (among-append xs ys t) ∙ grouped (bytes_eq x t) (is_among t xs) (is_among t ys)
  where
    grouped : (a b c : Bool) → (a || (b || c)) ≡ ((a || b) || c)
    grouped true b c = refl
    grouped false b c = refl

number-step : (c : Bool) (k : ℕ) → c ≡ false → if◌then◌else◌ {A = ℕ} c 0 (k + 1) ≡ k + 1
number-step c k e = ap (λ d. if◌then◌else◌ {A = ℕ} d 0 (k + 1)) e

number-here : (c : Bool) (k : ℕ) → c ≡ true → if◌then◌else◌ {A = ℕ} c 0 (k + 1) ≡ 0
number-here c k e = ap (λ d. if◌then◌else◌ {A = ℕ} d 0 (k + 1)) e

number-front-by : (c : Bool) (u t : Text) (front rest : List Text) → bytes_eq u t ≡ c → (c || is_among t front) ≡ true → (is_among t front ≡ true → number_in (front ++ rest) t < length front)
    → number_in (u ∷ (front ++ rest)) t < suc (length front)
number-front-by true u t front rest s e inner = subst (λ k. k < suc (length front)) (sym (number-here (bytes_eq u t) (number_in (front ++ rest) t) s)) (omega arith)
number-front-by false u t front rest s e inner =
    subst (λ k. k < suc (length front)) (sym (number-step (bytes_eq u t) (number_in (front ++ rest) t) s)) (raise (number_in (front ++ rest) t) (length front) (inner e))
  where
    raise : (a b : ℕ) → a < b → a + 1 < suc b
    raise a b i = let y : suc b ≡ b + 1 = omega arith in omega (arith, i, y)

number-front : (pre rest : List Text) (t : Text) → is_among t pre ≡ true → number_in (pre ++ rest) t < length pre
number-front [] rest t e = cc
number-front (u ∷ us) rest t e =
    number-front-by (bytes_eq u t) u t us rest refl e (λ h. number-front us rest t h)

number-next : (pre rest : List Text) (t : Text) → is_among t pre ≡ false → number_in (pre ++ t ∷ rest) t ≡ length pre
number-next [] rest t e = number-here (bytes_eq t t) (number_in rest t) (bytes-one t t refl)
number-next (u ∷ us) rest t e =
    let parts = or-parts (bytes_eq u t) (is_among t us) e in
    number-step (bytes_eq u t) (number_in (us ++ t ∷ rest) t) parts.0 ∙ (ap (λ k. k + 1) (number-next us rest t parts.1) ∙ one-more (length us))
  where
    one-more : (n : ℕ) → n + 1 ≡ suc n
    one-more n = omega arith

swap : (a b : Bool) → (a || b) ≡ (b || (a || false))
swap true true = refl
swap true false = refl
swap false true = refl
swap false false = refl

abbrev IsRisen : List Text → List Text → Type 0
IsRisen texts ts =
    (pre seen : List Text) → texts ≡ pre ++ firsts_after seen ts → ((t : Text) → is_among t seen ≡ is_among t pre) → rises (length pre) (map (number_in texts) ts) ≡ Some (length texts)

rise-by : (texts pre seen ts : List Text) (t : Text) (c : Bool) → is_among t seen ≡ c → IsRisen texts ts → texts ≡ pre ++ firsts_after seen (t ∷ ts) → ((x : Text) → is_among x seen ≡ is_among x pre)
    → rises (length pre) (number_in texts t ∷ map (number_in texts) ts) ≡ Some (length texts)
rise-by texts pre seen ts t true e rest whole same =
    let at : texts ≡ pre ++ firsts_after seen ts = whole ∙ ap (λ l. pre ++ l) (pick-true (is_among t seen) (firsts_after seen ts) (t ∷ firsts_after (t ∷ seen) ts) e) in
    let low : number_in texts t < length pre = subst (λ l. number_in l t < length pre) (sym at) (number-front pre (firsts_after seen ts) t (sym (same t) ∙ e)) in
    rw (lt-ltb (number_in texts t) (length pre) low) (rest pre seen at same)
rise-by texts pre seen ts t false e rest whole same =
    let at : texts ≡ pre ++ t ∷ firsts_after (t ∷ seen) ts = whole ∙ ap (λ l. pre ++ l) (pick-false (is_among t seen) (firsts_after seen ts) (t ∷ firsts_after (t ∷ seen) ts) e) in
    let is : number_in texts t ≡ length pre = ap (λ l. number_in l t) at ∙ number-next pre (firsts_after (t ∷ seen) ts) t (sym (same t) ∙ e) in
    let more : length (pre ++ t ∷ []) ≡ length pre + 1 = length-append pre (t ∷ []) in
    let later : rises (length (pre ++ t ∷ [])) (map (number_in texts) ts) ≡ Some (length texts) =
    rest (pre ++ t ∷ []) (t ∷ seen) (at ∙ sym (append_assoc pre (t ∷ []) (firsts_after (t ∷ seen) ts)))
    (λ x. ap (λ c. bytes_eq t x || c) (same x) ∙ (swap (bytes_eq t x) (is_among x pre) ∙ sym (among-append pre (t ∷ []) x))) in
    let next : rises (length pre + 1) (map (number_in texts) ts) ≡ Some (length texts) = subst (λ k. rises k (map (number_in texts) ts) ≡ Some (length texts)) more later in
    subst (λ k. rises (length pre) (k ∷ map (number_in texts) ts) ≡ Some (length texts)) (sym is)
    (rw (le-ltb (length pre) (length pre) (omega arith), eq-eqb (length pre) (length pre) refl) next)

-- the numbers rise
firsts-rise : (texts ts : List Text) → IsRisen texts ts
firsts-rise texts [] pre seen whole same = ap (λ k. Some k) (ap length (sym (append-nil pre)) ∙ ap length (sym whole))
firsts-rise texts (t ∷ ts) pre seen whole same = rise-by texts pre seen ts t (is_among t seen) refl (firsts-rise texts ts) whole same

-- a mentioned text is at its number
nth-number-by : (c : Bool) (u t : Text) (us : List Text) → bytes_eq u t ≡ c → (c || is_among t us) ≡ true → (is_among t us ≡ true → nth us (number_in us t) ≡ t) → nth (u ∷ us) (number_in (u ∷ us) t) ≡ t
nth-number-by true u t us s e inner = ap (nth (u ∷ us)) (number-here (bytes_eq u t) (number_in us t) s) ∙ bytes-same u t s
nth-number-by false u t us s e inner = ap (nth (u ∷ us)) (number-step (bytes_eq u t) (number_in us t) s ∙ one-more (number_in us t)) ∙ inner e
  where
    one-more : (n : ℕ) → n + 1 ≡ suc n
    one-more n = omega arith

nth-number : (texts : List Text) (t : Text) → is_among t texts ≡ true → nth texts (number_in texts t) ≡ t
nth-number [] t e = cc
nth-number (u ∷ us) t e = nth-number-by (bytes_eq u t) u t us refl e (λ h. nth-number us t h)

-- a mentioned text was seen, or is a first mention
abbrev IsCaught : List Text → List Text → Text → Type 0
IsCaught seen F t = (is_among t seen ≡ true) ⊎ (is_among t F ≡ true)

caught-new : (c : Bool) (u t : Text) (seen F : List Text) → bytes_eq u t ≡ c → (c ≡ false → IsCaught (u ∷ seen) F t) → IsCaught seen (u ∷ F) t
caught-new true u t seen F s rest = inr (or-left (bytes_eq u t) (is_among t F) s)
caught-new false u t seen F s rest = elim (rest refl) [
  | inl h ↦ inl (ap (λ c. c || is_among t seen) (sym s) ∙ h)
  | inr h ↦ inr (or-right (bytes_eq u t) (is_among t F) h)
]

caught-seen : (c : Bool) (u t : Text) (seen F : List Text) → bytes_eq u t ≡ c → is_among u seen ≡ true → (c ≡ false → IsCaught seen F t) → IsCaught seen F t
caught-seen true u t seen F s h rest = inl (subst (λ x. is_among x seen ≡ true) (bytes-same u t s) h)
caught-seen false u t seen F s h rest = rest refl

caught-by : (c : Bool) (u t : Text) (seen xs F : List Text) → is_among u seen ≡ c → (bytes_eq u t ≡ false → IsCaught seen xs t) → (bytes_eq u t ≡ false → IsCaught (u ∷ seen) F t)
    → IsCaught seen (if◌then◌else◌ {A = List Text} c xs (u ∷ F)) t
caught-by true u t seen xs F h first second = caught-seen (bytes_eq u t) u t seen xs refl h first
caught-by false u t seen xs F h first second = caught-new (bytes_eq u t) u t seen F refl second

firsts-among : (seen ts : List Text) (t : Text) → is_among t ts ≡ true → IsCaught seen (firsts_after seen ts) t
firsts-among seen [] t e = cc
firsts-among seen (u ∷ us) t e =
    caught-by (is_among u seen) u t seen (firsts_after seen us) (firsts_after (u ∷ seen) us) refl
    (λ s. firsts-among seen us t (ap (λ c. c || is_among t us) (sym s) ∙ e)) (λ s. firsts-among (u ∷ seen) us t (ap (λ c. c || is_among t us) (sym s) ∙ e))

-- entries are those of their rows
abbrev AreThere : List Text → List Text → Type 0
AreThere texts ts = (t : Text) → is_among t ts ≡ true → nth texts (number_in texts t) ≡ t

texts-again : (texts ts : List Text) → AreThere texts ts → map (nth texts) (map (number_in texts) ts) ≡ ts
texts-again texts [] there = refl
texts-again texts (t ∷ ts) there =
    ap (λ x. x ∷ map (nth texts) (map (number_in texts) ts)) (there t (or-left (bytes_eq t t) (is_among t ts) (bytes-one t t refl)))
    ∙ ap (λ l. t ∷ l) (texts-again texts ts (λ x e. there x (or-right (bytes_eq t x) (is_among x ts) e)))

entry-again : (texts : List Text) (e : Entry) → AreThere texts (texts_of e) → decoded texts (coded texts e) ≡ e
entry-again texts e there =
    ap (λ (l : List Text). record { input = record { node = e.input.node; texts = l }; outcome = nth texts (number_in texts e.outcome) })
    (texts-again texts e.input.texts (λ t h. there t (among-append e.input.texts (e.outcome ∷ []) t ∙ or-left (is_among t e.input.texts) (is_among t (e.outcome ∷ [])) h)))
    ∙ ap (λ (o : Text). record { input = e.input; outcome = o })
    (there e.outcome (among-append e.input.texts (e.outcome ∷ []) e.outcome ∙ or-right (is_among e.outcome e.input.texts) (is_among e.outcome (e.outcome ∷ [])) (or-left (bytes_eq e.outcome e.outcome) false (bytes-one e.outcome e.outcome refl))))

entries-again : (texts : List Text) (es : List Entry) → AreThere texts (mentions es) → map (decoded texts) (map (coded texts) es) ≡ es
entries-again texts [] there = refl
entries-again texts (e ∷ es) there =
    ap (λ (x : Entry). x ∷ map (decoded texts) (map (coded texts) es)) (entry-again texts e (λ t h. there t (among-append (texts_of e) (mentions es) t ∙ or-left (is_among t (texts_of e)) (is_among t (mentions es)) h)))
    ∙ ap (λ (l : List Entry). e ∷ l) (entries-again texts es (λ t h. there t (among-append (texts_of e) (mentions es) t ∙ or-right (is_among t (texts_of e)) (is_among t (mentions es)) h)))

numbers-coded : (texts : List Text) (es : List Entry) → flat_map numbers_of (map (coded texts) es) ≡ map (number_in texts) (mentions es)
numbers-coded texts [] = refl
numbers-coded texts (e ∷ es) =
    ap (λ l. numbers_of (coded texts e) ++ l) (numbers-coded texts es)
    ∙ (ap (λ l. l ++ map (number_in texts) (mentions es)) (sym (map-push (number_in texts) e.input.texts e.outcome)) ∙ sym (map-append (number_in texts) (texts_of e) (mentions es)))

-- What entries are spelled by has all that `decode` asks, and gives the entries back.
pub firsts-coded : (es : List Entry) → AreApart (firsts (mentions es)) × IsInOrder (firsts (mentions es)) (map (coded (firsts (mentions es))) es) × (map (decoded (firsts (mentions es))) (map (coded (firsts (mentions es))) es) ≡ es)
firsts-coded es =
    let texts : List Text = firsts (mentions es) in (
      firsts-apart [] (mentions es),
      ap (rises 0) (numbers-coded texts es) ∙ firsts-rise texts (mentions es) [] [] refl (λ t. refl),
      entries-again texts es (λ t h. elim (firsts-among [] (mentions es) t h) [
        | inl n ↦ cc
        | inr m ↦ nth-number texts t m
      ]),
    )
